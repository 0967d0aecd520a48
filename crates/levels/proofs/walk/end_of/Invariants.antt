use Rattle.std.specs.Prelude.{length}
use Rattle.cells.specs.Views.{pool_of}
use Rattle.pool.specs.Operations.{span}
use Rattle.levels.specs.Laws.Ending.{Ending}
use Rattle.levels.proofs.walk.end_of.Given as goal

abbrev pub invariant-loop-x : goal.invariant-loop-x
invariant-loop-x l = Ending (pool_of l.t) l.a l.x l.last

abbrev pub decreases-loop-x : goal.decreases-loop-x
decreases-loop-x l = span (length (pool_of l.t).cells) (pool_of l.t).cells l.x
