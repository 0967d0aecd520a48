-- `writing::walk::measure` meets its contract. The invariant: where the walk stands in the text.
-- Each turn passes a character, so that the usable ones left fall.
use Prim.Native.Nat.{◌-◌}
use Rattle.cells.specs.Views.{pool_of}
use Rattle.writing.specs.Measures.{text_at}
use Rattle.writing.specs.Walking.{Walking}
use Rattle.writing.proofs.walk.measure.Given as goal

abbrev pub invariant-loop-w : goal.invariant-loop-w
invariant-loop-w l = Walking (pool_of l.t).cells (text_at (pool_of l.t).cells l.x) l.usable l.after l.w

abbrev pub decreases-loop-w : goal.decreases-loop-w
decreases-loop-w l = l.usable - l.w.size
