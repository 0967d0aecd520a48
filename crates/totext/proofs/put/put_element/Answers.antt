-- `totext::put::put_element` meets its contract.
use Rattle.std.specs.Prelude.{ℕ, ◌+◌, ◌-◌, ◌/◌, ◌<◌, [], ◌∷◌, ◌++◌, length}
use Rattle.std.proofs.Common.{refl, ap, arith}
use Rattle.groups.specs.Reading.{list_in}
use Rattle.text.specs.Limits.{levels}
use Rattle.text.specs.ListText.{text_of}
use Rattle.octal.specs.Numeral.{numeral}
use Rattle.writing.specs.Steps.{comma}
use Rattle.writing.specs.Laws.PutLaws.{put_one, put_until}
use Rattle.totext.specs.declared.put.Walk.{Walk}
use Rattle.totext.specs.Turns.{walk, parted, behind_atom, behind_open, kept_at, Turned, Parts}
use Rattle.totext.specs.Laws.PartLaws.{put-parted}
use Rattle.totext.specs.Laws.TurnLaws.{some_number, below, atom-turned, open_turned}
use Rattle.totext.proofs.put.put_element.Goals.{Else-n-eq0, Then-n-eq0}
use Rattle.totext.proofs.put.put_element.Goals as goal

-- the number that is read, where it is an atom and where it is a list
passes : (c : Then-n-eq0) →
    let a = c.args in
    let s = a.groups.now in
    let n = c.number_there-n.result in
    Turned s (text_of (list_in s)) a.kept.now a.w (parted (behind_atom n a.w)) (numeral (n.value / 2) ++ comma (a.w.left - 1))
passes c =
    atom-turned c.requires.standing c.requires.le_depth.0 c.requires.le_depth.1 c.number_there-n.ensures c.if-n-eq0.true

opens : (c : Else-n-eq0) →
    let a = c.args in
    let s = a.groups.now in
    Turned s (text_of (list_in s)) (kept_at a.kept.now a.w) a.w (behind_open c.number_there-n.result a.w) (40 ∷ []) × (a.w.depth < levels)
opens c =
    open_turned c.requires.standing c.requires.le_depth.0 c.requires.le_depth.1 c.number_there-n.ensures c.if-n-eq0.false

pub number_there-n-requires : goal.number_there-n-requires
number_there-n-requires c = some_number c.requires.standing c.requires.le_depth.0 c.requires.le_depth.1

pub overflow_cast-half : goal.overflow_cast-half
overflow_cast-half c =
    omega (arith, below c.requires.standing c.requires.le_depth.0 c.requires.le_depth.1 c.number_there-n.ensures)

pub put_atom-requires : goal.put_atom-requires
put_atom-requires c = let d = passes (goal.at.put_atom-requires c).Then-n-eq0 in omega (arith, d.stands.within, c.requires.out_len)

pub part-requires : goal.part-requires
part-requires c =
    omega (arith, (passes (goal.at.part-requires c).Then-n-eq0).stands.within, c.count.ensures.0, c.put_atom.ensures.room, c.requires.out_len)

pub returns-then-n-eq0 : goal.returns-then-n-eq0
returns-then-n-eq0 c =
    let a = c.args in
    let n = c.number_there-n.result in
    let e = ap (λ (k : ℕ). walk n.end (a.w.to + k) a.w.depth (a.w.left - 1)) c.count.ensures.0 in
    let part : Parts _ _ _ _ (length a.out.now) = record { is = c.part.ensures.is; put = put_until c.put_atom.ensures.room c.part.ensures.put } in record {
      put_turn = put-parted {bs = numeral (n.value / 2)} (passes (goal.at.returns-then-n-eq0 c).Then-n-eq0) e refl c.put_atom.ensures part;
      le_depth_2 = omega (arith, ap (λ (v : Walk). v.depth) c.part.ensures.is, c.requires.le_depth.0);
    }

pub bounds-out-to : goal.bounds-out-to
bounds-out-to c = let d = (opens c).0 in omega (arith, d.stands.within, c.requires.out_len)

pub offset_bounds-kept-depth : goal.offset_bounds-kept-depth
offset_bounds-kept-depth c = omega (arith, (opens c).1)

pub bounds-kept-depth : goal.bounds-kept-depth
bounds-kept-depth c = omega (arith, (opens (goal.at.bounds-kept-depth c).Else-n-eq0).1)

pub overflow_add-depth : goal.overflow_add-depth
overflow_add-depth c = omega (arith, (opens (goal.at.overflow_add-depth c).Else-n-eq0).1)

pub returns : goal.returns
returns c =
    let a = c.args in
    let d = (opens (goal.at.returns c).Else-n-eq0).0 in
    record {
      put_turn = (_, d, put_one a.out.now a.w.to _ 40 (omega (arith, d.stands.within, c.requires.out_len)) (omega arith));
      le_depth_2 = omega arith;
    }
