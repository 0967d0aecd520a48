-- `grouping::walk::measure` meets its contract. The invariant: where the walk stands in the groups.
-- Each turn passes a number or ends a level, so that what is to go falls.
use Rattle.grouping.specs.Walking.{Measuring, to_go}
use Rattle.pool.specs.Operations.{list_at}
use Rattle.cells.specs.Views.{pool_of}
use Rattle.grouping.proofs.walk.measure.Given as goal

abbrev pub invariant-loop-w : goal.invariant-loop-w
invariant-loop-w l = Measuring (pool_of l.t).cells (list_at (pool_of l.t).cells l.x) l.usable l.after l.w l.turns

abbrev pub decreases-loop-w : goal.decreases-loop-w
decreases-loop-w l = to_go l.usable l.w
