use Prim.Native.Nat.{ℕ, ◌+◌, ◌*◌, ◌≤◌, ◌<◌}
use mathlib.Core.Path.{◌≡◌, ap, ◌∙◌}
use native.Mathlib.Omega.{arith}
use lib.ListN.{length, length-append}
use Rattle.answers.specs.Answers.{DONE}
use Rattle.groups.specs.Groups.{groups_of, number, elements, list_number}
use Rattle.groups.specs.Writing.{usable, items, judged}
use Rattle.grouping.specs.Putting.{Putting}
use Rattle.grouping.specs.Walking.{to_go}
use Rattle.grouping.specs.Laws.ItemLaws.{groups_fit}
use Rattle.grouping.specs.Laws.PuttingLaws.{put-behind, put-begins, shallow, roomy, put_on, put_ends}
use Rattle.grouping.specs.Laws.WalkingLaws.{may_turn}
use Rattle.pool.specs.Operations.{list_at}
use Rattle.cells.specs.Views.{pool_of}
use Rattle.walks.specs.Laws.LevelLaws.{ahead, span_of}
use Rattle.grouping.proofs.put.put.Goals.{After-put-first, After-put_step-w, Start}
use Rattle.grouping.proofs.put.put.Goals as goal

-- the number of the whole list, for which there is room
number_is : (start : Start) →
    let a = start.args in
    2 * a.n + 1 ≡ list_number (list_at (pool_of a.t).cells a.x)
number_is start = ap (λ (n : ℕ). 2 * n + 1) start.requires.n_value

has_room : (start : Start) →
    let a = start.args in
    length (number (2 * a.n + 1)) ≤ length (groups_of (list_at (pool_of a.t).cells a.x))
has_room start =
    let a = start.args in
    let l = list_at (pool_of a.t).cells a.x in
    omega (arith, ap (λ (v : ℕ). length (number v)) (number_is start), length-append (number (list_number l)) (elements l))

few : (start : Start) → start.args.n ≤ 8000
few start =
    let a = start.args in
    let cs = (pool_of a.t).cells in
    omega (arith, start.requires.n_value, (span_of cs a.x (list_at cs a.x) (ahead cs a.x start.requires.stands)).1, start.args.t.table)

same : (c : After-put-first) → length c.put-first.new.out ≡ length c.args.out.now
same c = let n = c.put-first.auto in omega arith

-- the list is judged by the room that there is
fits : (c : After-put-first) →
    let a = c.args in
    judged (usable (length c.put-first.new.out)) (items (list_at (pool_of a.t).cells a.x)) ≡ DONE
fits c =
    let a = c.args in
    ap (λ (n : ℕ). judged (usable n) (items (list_at (pool_of a.t).cells a.x))) (same c) ∙ c.requires.writable

-- its first number ends within the room
ends : (c : After-put-first) →
    let a = c.args in
    length (number (2 * a.n + 1)) ≤ length (groups_of (list_at (pool_of a.t).cells a.x)) → c.put-first.result ≤ length a.out.now
ends c h =
    let a = c.args in
    let l = list_at (pool_of a.t).cells a.x in
    omega (arith, c.put-first.ensures.value, h, groups_fit l (usable (length a.out.now)) c.requires.writable)

went : (c : After-put_step-w) →
    let a = c.args in
    let l = list_at (pool_of a.t).cells a.x in
    let old = c.put-first.new.out in
    judged (usable (length old)) (items l) ≡ DONE →
    Putting (pool_of a.t).cells l (usable (length old)) old c.put_step-w.new.out c.put_step-w.new.after c.put_step-w.result
    × (to_go (length (groups_of l)) c.put_step-w.result < to_go (length (groups_of l)) c.loop-w.w)
went c f =
    let p = c.loop-w in
    put_on _ _ _ _ p.out p.after p.w p.invariant (omega arith) f (omega arith) _ c.put_step-w.result _ _
    c.put_step-w.ensures.1 c.put_step-w.ensures.2

pub overflow_mul-n : goal.overflow_mul-n
overflow_mul-n c = omega (arith, few (goal.at.overflow_mul-n c).Start)

pub overflow_add-n : goal.overflow_add-n
overflow_add-n c = omega (arith, few (goal.at.overflow_add-n c).Start)

pub put-first-requires : goal.put-first-requires
put-first-requires c =
    let a = c.args in
    let l = list_at (pool_of a.t).cells a.x in record {
      v_lt_numbers_end = omega (arith, few (goal.at.put-first-requires c).Start);
      v_in_bounds = omega (arith, has_room (goal.at.put-first-requires c).Start, groups_fit l (usable (length a.out.now)) c.requires.writable);
    }

pub loop-w-init : goal.loop-w-init
loop-w-init c =
    let a = c.args in
    put-begins _ _ c.put-first.result (2 * a.n + 1) a.out.now _ c.requires.stands (number_is (goal.at.loop-w-init c).Start)
    (omega (arith, c.put-first.ensures.value)) (ends (goal.at.loop-w-init c).After-put-first (has_room (goal.at.loop-w-init c).Start)) c.put-first.ensures.out_after _ _ (fits (goal.at.loop-w-init c).After-put-first) c.started-w.ensures

pub put_step-w-requires-clause-may_turn : goal.put_step-w-requires-clause-may_turn
put_step-w-requires-clause-may_turn c =
    let p = c.loop-w in
    let deep = shallow _ _ _ _ p.out p.after p.w p.invariant (omega arith) (fits (goal.at.put_step-w-requires-clause-may_turn c).After-put-first) in
    may_turn _ _ _ p.after p.w p.invariant.opened p.invariant.walks (omega arith) _ c.args.t.table.measured (omega arith) deep

pub put_step-w-requires-clause-roomy : goal.put_step-w-requires-clause-roomy
put_step-w-requires-clause-roomy c =
    let p = c.loop-w in
    roomy _ _ _ _ p.out p.after p.w p.invariant (omega arith) (fits (goal.at.put_step-w-requires-clause-roomy c).After-put-first) _ (omega (arith, p.invariant.room))

pub loop-w-smaller : goal.loop-w-smaller
loop-w-smaller c = (went (goal.at.loop-w-smaller c).After-put_step-w (fits (goal.at.loop-w-smaller c).After-put-first)).1

pub loop-w-preserved : goal.loop-w-preserved
loop-w-preserved c = (went (goal.at.loop-w-preserved c).After-put_step-w (fits (goal.at.loop-w-preserved c).After-put-first)).0

pub returns : goal.returns
returns c =
    let a = c.args in
    let l = list_at (pool_of a.t).cells a.x in
    let p = c.loop-w in
    put_ends _ l _ a.out.now _ p.out p.after p.w p.invariant (omega arith)
    (put-behind _ _ c.put-first.result (2 * a.n + 1) a.out.now _ c.requires.stands (number_is (goal.at.returns c).Start)
    (omega (arith, c.put-first.ensures.value)) (ends (goal.at.returns c).After-put-first (has_room (goal.at.returns c).Start)) c.put-first.ensures.out_after (length (groups_of l))
    (omega (arith, c.put-first.ensures.value, has_room (goal.at.returns c).Start)))
