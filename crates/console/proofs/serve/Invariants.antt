-- `console::serve` meets its contract.
use Rattle.std.proofs.Common.{length}
use Rattle.console.specs.Standing.{mid}
use Rattle.console.specs.Laws.StandingLaws.{Along}
use Rattle.console.proofs.serve.Given as goal

abbrev pub invariant-loop-behind : goal.invariant-loop-behind
invariant-loop-behind g l = Along l.chunk (mid l.initial.line l.initial.engine) l.rest (mid l.line l.engine)

abbrev pub decreases-loop-behind : goal.decreases-loop-behind
decreases-loop-behind g l = length l.rest
