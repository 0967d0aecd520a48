-- `sound::meet_holders` meets its contract.
use Rattle.cells.specs.Views.{pool_of}
use Rattle.sound.specs.Laws.HolderLaws.{Meeting}
use Rattle.sound.proofs.meet_holders.Given as goal

abbrev pub invariant-loop-h : goal.invariant-loop-h
invariant-loop-h l = Meeting (pool_of l.t) l.t.shape.cells l.initial.w l.w l.e l.h
