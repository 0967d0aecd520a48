-- `togroups::put_out` meets its contract.
use mathlib.Core.Bool.{not, true}
use mathlib.Core.List.{List, ◌++◌}
use Prim.Native.Nat.{ℕ, ◌≤◌}
use mathlib.Core.Path.{◌≡◌, refl, sym, ap, subst, ◌∙◌}
use native.Mathlib.Omega.{arith}
use borrow.Author.Tests.{leb-true, not-true, not-false}
use lib.Dec.{leb}
use lib.ListN.{length, take, drop}
use Rattle.answers.specs.Answers.{OUTPUT, not_moved}
use Rattle.calls.specs.Promised.{Moves}
use Rattle.calls.specs.Move.{put_out}
use Rattle.groups.specs.Groups.{groups_of}
use Rattle.groups.specs.declared.Stored.TheVariants.{Groups}
use Rattle.text.specs.Marks.{list_in}
use Rattle.togroups.specs.Laid.{over_back}
use Rattle.togroups.specs.Turned.{turned}
use Rattle.togroups.specs.Laws.ListedLaws.{listed}
use Rattle.togroups.specs.Laws.MoveLaws.{too_short, puts_out}
use Rattle.togroups.proofs.put_out.Goals.{After-pass-size, Else-not-has_room}
use Rattle.togroups.proofs.put_out.Goals as goal

roomy : (c : Else-not-has_room) →
    let a = c.args in
    leb (length (groups_of (list_in (take a.taken a.text.now)))) (length a.out.now) ≡ true
roomy c = sym c.has_room.ensures.value ∙ not-false c.has_room.result (ap not c.if-not-has_room.false)

fits : (c : Else-not-has_room) →
    let a = c.args in
    length (groups_of (list_in (take a.taken a.text.now))) ≤ length a.out.now
fits c =
    let a = c.args in
    leb-true (length (groups_of (list_in (take a.taken a.text.now)))) (length a.out.now) (roomy c)

-- the groups put out, the last byte first
laid_out : (c : After-pass-size) →
    let a = c.args in
    c.pass-size.new.out ≡ over_back true (groups_of (list_in (take a.taken a.text.now))) a.out.now
laid_out c =
    let a = c.args in
    c.pass-size.ensures.out_after ∙ ap (over_back true (groups_of (list_in (take a.taken a.text.now)))) c.has_room.ensures.out_unchanged

pub slice_bounds-whole-end : goal.slice_bounds-whole-end
slice_bounds-whole-end c = sym (listed _ _ c.requires).2

pub has_room-requires : goal.has_room-requires
has_room-requires c = (listed _ _ c.requires).0

pub returns-then-not-has_room : goal.returns-then-not-has_room
returns-then-not-has_room c =
    let a = c.args in
    subst (λ u. Moves (not_moved OUTPUT) u (put_out Groups a.taken (list_in a.text.now) a.out.now)) (sym c.has_room.ensures.out_unchanged)
    (too_short _ _ c.requires a.out.now (sym c.has_room.ensures.value ∙ not-true c.has_room.result (ap not c.if-not-has_room.true)) refl)

pub pass-size-requires : goal.pass-size-requires
pass-size-requires c =
    record {
      listed = (listed _ _ c.requires).0;
      text_in_bounds = λ y. omega (arith, fits (goal.at.pass-size-requires c).Else-not-has_room, ap length c.has_room.ensures.out_unchanged);
    }

pub overflow_cast-result : goal.overflow_cast-result
overflow_cast-result c =
    let whole = (listed _ _ c.requires).0 in
    omega (arith, c.pass-size.ensures.value, whole.small, whole.short)

pub returns : goal.returns
returns c =
    let n = c.pass-size.result in
    puts_out _ _ c.requires c.args.out.now (roomy (goal.at.returns c).Else-not-has_room) n _ c.pass-size.ensures.value
    (ap (λ (bs : List ℕ). bs ++ drop n c.pass-size.new.out) c.reverse.ensures.after ∙ ap (turned n) (laid_out (goal.at.returns c).After-pass-size)) refl
