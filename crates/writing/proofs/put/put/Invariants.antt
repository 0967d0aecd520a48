-- `writing::put::put` meets its contract. The invariant: the characters that the walk has passed are in their places.
-- Each turn passes one, so that those left fall.
use Rattle.std.specs.Prelude.{◌-◌, length}
use Rattle.cells.specs.Views.{pool_of}
use Rattle.writing.specs.Measures.{text_at}
use Rattle.writing.specs.Putting.{Putting}
use Rattle.writing.proofs.put.put.Given as goal

abbrev pub invariant-loop-w : goal.invariant-loop-w
invariant-loop-w l = Putting (pool_of l.t).cells (text_at (pool_of l.t).cells l.x) l.initial.out (length (text_at (pool_of l.t).cells l.x)) l.out l.after l.w

abbrev pub decreases-loop-w : goal.decreases-loop-w
decreases-loop-w l = length (text_at (pool_of l.t).cells l.x) - l.w.size
