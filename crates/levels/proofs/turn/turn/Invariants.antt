use Rattle.std.specs.Prelude.{length}
use Rattle.loops.specs.Loop.{steps, Going}
use Rattle.levels.specs.Recelled.{Recelled}
use Rattle.levels.specs.Turning.{turning, over, moved, Sure}
use Rattle.levels.proofs.turn.turn.Given as goal

abbrev pub invariant-loop-left : goal.invariant-loop-left
invariant-loop-left l =
    let p = l.initial.p in
    Recelled p l.p
    × Going over moved Sure (length p.pool.cells) (turning p.pool.cells l.x 0) (turning l.p.pool.cells l.left l.turned)

abbrev pub decreases-loop-left : goal.decreases-loop-left
decreases-loop-left l = steps over moved (length l.initial.p.pool.cells) (turning l.p.pool.cells l.left l.turned)
