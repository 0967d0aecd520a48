-- `lines::printed::put_question` meets its contract.
use mathlib.Core.List.{[], ◌∷◌}
use Rattle.lines.specs.Laws.PrintedLaws.{puts_then}
use Rattle.lines.proofs.printed.put_question.Goals as goal

pub returns : goal.returns
returns c =
    puts_then (63 ∷ []) (10 ∷ []) c.put-at.ensures c.put.ensures
