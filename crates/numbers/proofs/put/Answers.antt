use Rattle.numbers.specs.Laws.PuttingLaws.{more_room, left-on, last-room, left_end, left-done}
use Rattle.numbers.proofs.put.Goals as goal

pub bounds-out-i : goal.bounds-out-i
bounds-out-i c = more_room c.loop-left.invariant c.requires.v_in_bounds c.loop-left-test.true

pub loop-left-preserved : goal.loop-left-preserved
loop-left-preserved c = left-on c.loop-left.invariant c.requires.v_in_bounds c.loop-left-test.true

pub bounds-out-i-2 : goal.bounds-out-i-2
bounds-out-i-2 c = last-room c.loop-left.invariant c.requires.v_in_bounds c.loop-left-test.false

pub returns : goal.returns
returns c =
    let l = c.loop-left.invariant in
    let fits = c.requires.v_in_bounds in
    record { value = left_end l fits c.loop-left-test.false; out_after = left-done l fits c.loop-left-test.false }
