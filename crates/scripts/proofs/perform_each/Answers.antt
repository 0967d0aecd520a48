use Rattle.std.proofs.Common.{◌≡◌, ◌+◌, ◌*◌, ◌/◌, ◌≤◌, length, arith}
use Rattle.scripts.specs.Laws.MidwayLaws.{begun, onward, refused-at, all_done}
use Rattle.scripts.proofs.perform_each.Goals.{In-loop-i}
use Rattle.scripts.proofs.perform_each.Goals as goal

-- the words of operation i, and its result words
room : (c : In-loop-i) → (4 * c.loop-i.i + 4 ≤ length c.args.script.now) × (2 * c.loop-i.i + 2 ≤ length c.loop-i.results)
room c = (omega arith, omega (arith, c.requires.sized, c.loop-i.invariant.size))

pub loop-i-init : goal.loop-i-init
loop-i-init c = begun _ _ _ c.requires.sound

pub returns-in-Err : goal.returns-in-Err
returns-in-Err c =
    let r = room (goal.at.returns-in-Err c).In-loop-i in
    refused-at c.loop-i.invariant r.0 (omega (arith, r.1)) (rw c.in-Err.is at c.perform_at.ensures)

pub loop-i-preserved : goal.loop-i-preserved
loop-i-preserved c =
    let r = room (goal.at.loop-i-preserved c).In-loop-i in
    rw c.write_at.ensures (onward c.loop-i.invariant r.0 r.1 (rw c.in-Ok.is at c.perform_at.ensures))

pub returns : goal.returns
returns c =
    let l = c.loop-i in
    let e : l.i ≡ length c.args.script.now / 4 = omega arith in
    rw (← e) (all_done l.invariant (omega (arith, e, c.requires.sized.whole)) (omega (arith, e, l.invariant.size, c.requires.sized.room)))
