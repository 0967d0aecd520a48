use Rattle.std.specs.Prelude.{length}
use Rattle.loops.specs.Loop.{steps, Going}
use Rattle.levels.specs.Copying.{copying, over, moved, Sure}
use Rattle.levels.specs.Recelled.{Recelled}
use Rattle.levels.proofs.copy.copy.Given as goal

abbrev pub invariant-loop-left : goal.invariant-loop-left
invariant-loop-left l =
    let p = l.initial.p in
    Recelled p l.p
    × Going over moved (Sure (length p.pool.holders)) (length p.pool.cells) (copying p.pool.cells p.pool.free l.x 0)
    (copying l.p.pool.cells l.free l.left l.head)

abbrev pub decreases-loop-left : goal.decreases-loop-left
decreases-loop-left l = steps over moved (length l.initial.p.pool.cells) (copying l.p.pool.cells l.free l.left l.head)
