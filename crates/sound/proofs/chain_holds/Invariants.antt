-- `sound::chain_holds` meets its contract.
use Rattle.std.proofs.Common.{◌≡◌}
use Rattle.pool.specs.Check.{chained}
use Rattle.cells.specs.Views.{pool_of}
use Rattle.sound.proofs.chain_holds.Given as goal

abbrev pub invariant-loop-x : goal.invariant-loop-x
invariant-loop-x l = chained l.left (pool_of l.t).cells l.x ≡ chained l.free (pool_of l.t).cells (pool_of l.t).free

abbrev pub decreases-loop-x : goal.decreases-loop-x
decreases-loop-x l = l.left
