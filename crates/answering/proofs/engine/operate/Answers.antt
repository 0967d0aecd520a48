-- `answering::engine::operate` meets its contract.
use Rattle.std.proofs.Common.{ap}
use Rattle.answers.specs.declared.Outcome.{Outcome}
use Rattle.answering.specs.Laws.SessionLaws.{operates}
use Rattle.answering.proofs.engine.operate.Goals as goal

pub returns : goal.returns
returns c =
    let g = rw c.from.ensures at c.run-r.ensures in
    operates c.args.table.now _ _ _ _ _ _ _ _ c.told-work
    (record { answer = ap (λ (o : Outcome). o.answer) g.outcome; table = g.table; results = g.results })
