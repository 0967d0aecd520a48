-- The invariant: what is passed and what is left are the whole level.
use Rattle.std.proofs.Common.{◌≡◌, ◌+◌, ◌≤◌}
use Rattle.grouping.specs.Steps.{elements_at}
use Rattle.pool.specs.Laws.Level.{Left}
use Rattle.cells.specs.Views.{pool_of}
use Rattle.grouping.proofs.sizes.is_long.Given as goal

abbrev pub invariant-loop : goal.invariant-loop
invariant-loop l =
    let cs = (pool_of l.t).cells in
    Left cs l.c × (l.counter + elements_at cs l.c ≡ elements_at cs l.x) × (l.counter ≤ 63)
