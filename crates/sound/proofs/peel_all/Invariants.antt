-- `sound::peel_all` meets its contract.
use Rattle.std.proofs.Common.{◌-◌}
use Rattle.cells.specs.Views.{pool_of}
use Rattle.sound.specs.Mirror.{state_at, Reached}
use Rattle.sound.proofs.peel_all.Given as goal

abbrev pub invariant-loop-e : goal.invariant-loop-e
invariant-loop-e l = Reached l.t.shape.cells l.initial.w l.w l.e (state_at (pool_of l.t) l.e.gone)

abbrev pub decreases-loop-e : goal.decreases-loop-e
decreases-loop-e l = l.t.shape.cells - l.e.gone
