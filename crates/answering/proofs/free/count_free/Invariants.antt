-- `answering::free::count_free` meets its contract.
use Rattle.table.specs.View.{view}
use Rattle.sound.specs.Laws.CountLaws.{Counts}
use Rattle.answering.proofs.free.count_free.Given as goal

abbrev pub invariant-loop-c : goal.invariant-loop-c
invariant-loop-c l = Counts (view l.s l.t).cells l.c l.free
