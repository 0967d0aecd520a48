-- `scripts::perform_each` meets its contract.
use Rattle.scripts.specs.Midway.{Midway}
use Rattle.pool.specs.Script.{performed}
use Rattle.calls.specs.Run.{operations}
use Rattle.scripts.proofs.perform_each.Given as goal

abbrev pub invariant-loop-i : goal.invariant-loop-i
invariant-loop-i l = Midway l.initial.p l.script l.initial.results (performed l.initial.p.pool (operations l.script)) l.p l.results l.i
