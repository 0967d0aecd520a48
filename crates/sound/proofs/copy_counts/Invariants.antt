-- `sound::copy_counts` meets its contract.
use Rattle.cells.specs.Views.{pool_of}
use Rattle.sound.specs.Laws.CopyLaws.{Copying}
use Rattle.sound.proofs.copy_counts.Given as goal

abbrev pub invariant-loop-i : goal.invariant-loop-i
invariant-loop-i l = Copying l.t.shape.cells (pool_of l.t).cells l.initial.w l.w l.i l.free
