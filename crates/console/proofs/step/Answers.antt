-- `console::step` meets its contract.
use Rattle.console.specs.Laws.StandingLaws.{passes_on, steps_line}
use Rattle.console.proofs.step.Goals as goal

pub returns-in_err-rest : goal.returns-in_err-rest
returns-in_err-rest c = rw c.from_residual.ensures (passes_on c.args.line.now _ c.args.chunk.now c.args.engine.now c.in_err-rest.ensures)

pub returns : goal.returns
returns c =
    rw c.clear.ensures
    (steps_line c.args.line.now _ c.args.chunk.now _ c.args.engine.now _ _ _ _ c.in_ok-rest.ensures c.bytes.ensures.line c.answer-count.ensures)
