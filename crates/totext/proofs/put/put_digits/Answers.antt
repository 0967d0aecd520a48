use Rattle.std.specs.Prelude.{◌+◌, ◌-◌, ◌/◌, ◌≤◌, [], ◌∷◌, length, get_or}
use Rattle.std.proofs.Common.{refl, rules, arith, length-set}
use Rattle.groups.specs.Reading.{list_in}
use Rattle.text.specs.ListText.{text_of}
use Rattle.totext.specs.Turns.{walk, Turned}
use Rattle.totext.specs.Laws.RunLaws.{byte_there, digit-turned, put_two, ran-none, ran_on}
use Rattle.totext.proofs.put.put_digits.Goals.{Else-b-ne0}
use Rattle.totext.proofs.put.put_digits.Goals as goal

pub loop-r-init : goal.loop-r-init
loop-r-init c = ran-none c.requires.standing

pub bounds-groups-from : goal.bounds-groups-from
bounds-groups-from c =
    let n = c.loop-r.invariant in
    byte_there n.stands (omega (arith, n.level, c.requires.le_depth)) c.loop-r-test.true

-- an atom that is put
turns : (c : Else-b-ne0) →
    let a = c.args in
    let s = a.groups.now in
    let r = c.loop-r.r in
    Turned s (text_of (list_in s)) a.kept.now r (walk (r.from + 1) (r.to + 2) r.depth (r.left - 1)) ((48 + get_or s r.from 0 / 2) ∷ (44 ∷ []))
turns c =
    let n = c.loop-r.invariant in
    digit-turned n.stands (omega (arith, n.level, c.requires.le_depth)) c.loop-r-test.true (omega (arith, c.if-b-ge16.false)) (omega (arith, c.if-b-ne0.false))

fits : (c : Else-b-ne0) →
    (c.loop-r.r.to + 2 ≤ length c.args.out.now) × (length c.args.out.now ≤ length c.loop-r.out)
fits c =
    (omega (arith, (turns c).stands.within, c.requires.out_len), omega (arith, c.loop-r.invariant.room))

pub bounds-out-to : goal.bounds-out-to
bounds-out-to c = omega (arith, (fits c).0, (fits c).1)

pub bounds-out-to-in-loop-r : goal.bounds-out-to-in-loop-r
bounds-out-to-in-loop-r c =
    let loop = c.loop-r in
    omega (arith, (fits c).0, (fits c).1, length-set loop.out loop.r.to (48 + get_or c.args.groups.now loop.r.from 0 / 2))

pub overflow_add-r : goal.overflow_add-r
overflow_add-r c =
    let n = c.loop-r.invariant in
    let there = byte_there n.stands (omega (arith, n.level, c.requires.le_depth)) c.loop-r-test.true in
    search (rules, there)

pub loop-r-preserved : goal.loop-r-preserved
loop-r-preserved c =
    ran_on c.loop-r.invariant (turns (goal.at.loop-r-preserved c).Else-b-ne0) refl (omega (arith, c.loop-r-test.true)) (put_two c.loop-r.out c.loop-r.r.to (length c.args.out.now) _ 44 (fits (goal.at.loop-r-preserved c).Else-b-ne0).0 (fits (goal.at.loop-r-preserved c).Else-b-ne0).1)

pub shape_of-out : goal.shape_of-out
shape_of-out c = c.loop-r.invariant.room

pub returns : goal.returns
returns c = c.loop-r.invariant
