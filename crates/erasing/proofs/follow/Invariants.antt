use Rattle.pool.specs.Erase.{total}
use Rattle.erasing.specs.Erasing.{state, Later}
use Rattle.cells.specs.Lent.{Kept}
use Rattle.erasing.proofs.follow.Given as goal

abbrev pub invariant-loop-e : goal.invariant-loop-e
invariant-loop-e l = Kept l.initial.p l.p × Later (state l.initial.p l.initial.e) (state l.p l.e)

abbrev pub decreases-loop-e : goal.decreases-loop-e
decreases-loop-e l = total l.p.pool.cells
