-- `grouping::put::put` meets its contract. The invariant: the bytes that the walk has passed are in their places.
-- Each turn passes a number or ends a level, so that what is to go falls.
use lib.ListN.{length}
use Rattle.groups.specs.Groups.{groups_of}
use Rattle.groups.specs.Writing.{usable}
use Rattle.grouping.specs.Putting.{Putting}
use Rattle.grouping.specs.Walking.{to_go}
use Rattle.pool.specs.Operations.{list_at}
use Rattle.cells.specs.Views.{pool_of}
use Rattle.grouping.proofs.put.put.Given as goal

abbrev pub invariant-loop-w : goal.invariant-loop-w
invariant-loop-w l =
    Putting (pool_of l.t).cells (list_at (pool_of l.t).cells l.x) (usable (length l.initial.out)) l.initial.out l.out l.after l.w

abbrev pub decreases-loop-w : goal.decreases-loop-w
decreases-loop-w l = to_go (length (groups_of (list_at (pool_of l.t).cells l.x))) l.w
