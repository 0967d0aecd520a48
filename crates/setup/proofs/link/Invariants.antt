-- `setup::link` meets its contract.
use Rattle.pool.specs.Setters.{celled}
use Rattle.table.specs.View.{view, Shows}
use Rattle.setup.specs.Laws.Linked.{linked}
use Rattle.setup.proofs.link.Given as goal

abbrev pub invariant-loop-c : goal.invariant-loop-c
invariant-loop-c l = Shows l.s l.t (celled (linked l.c l.s.cells) (view l.s l.initial.t))
