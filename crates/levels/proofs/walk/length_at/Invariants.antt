use Rattle.std.specs.Prelude.{◌≡◌, ◌+◌, length}
use Rattle.cells.specs.Views.{pool_of}
use Rattle.pool.specs.Laws.Level.{Left}
use Rattle.pool.specs.Operations.{span}
use Rattle.levels.proofs.walk.length_at.Given as goal

abbrev pub invariant-loop-c : goal.invariant-loop-c
invariant-loop-c l =
    let cs = (pool_of l.t).cells in
    Left cs l.c × (l.n + span (length cs) cs l.c ≡ span (length cs) cs l.x)

abbrev pub decreases-loop-c : goal.decreases-loop-c
decreases-loop-c l = span (length (pool_of l.t).cells) (pool_of l.t).cells l.c
