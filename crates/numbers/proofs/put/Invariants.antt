-- `numbers::put` meets its contract. The invariant: the groups that are left to put make the number whole.
use Rattle.numbers.specs.Putting.{Left}
use Rattle.numbers.proofs.put.Given as goal

abbrev pub invariant-loop-left : goal.invariant-loop-left
invariant-loop-left l = Left l.initial.out l.at l.v l.out l.i l.left

abbrev pub decreases-loop-left : goal.decreases-loop-left
decreases-loop-left l = l.left
