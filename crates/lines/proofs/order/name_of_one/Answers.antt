-- `lines::order::name_of_one` meets its contract.
use Rattle.std.proofs.Common.{rules}
use Rattle.lines.specs.Commands.{name_of_one}
use Rattle.lines.specs.Laws.CommandLaws.{or_name}
use Rattle.lines.proofs.order.name_of_one.Goals as goal

pub returns : goal.returns
unfolding name_of_one
returns c =
    or_name _ _ _ c.or_else-2.result _ (search rules)
    (or_name _ _ _ c.or_else.result _ (search rules)
    (or_name _ _ _ c.name.result _ (search rules)
    c.name.ensures))
