-- `lines::order::name_of_two` meets its contract.
use Rattle.std.proofs.Common.{rules}
use Rattle.lines.specs.Commands.{name_of_two}
use Rattle.lines.specs.Laws.CommandLaws.{or_name}
use Rattle.lines.proofs.order.name_of_two.Goals as goal

pub returns : goal.returns
unfolding name_of_two
returns c =
    or_name _ _ _ c.or_else-5.result _ (search rules)
    (or_name _ _ _ c.or_else-4.result _ (search rules)
    (or_name _ _ _ c.or_else-3.result _ (search rules)
    (or_name _ _ _ c.or_else-2.result _ (search rules)
    (or_name _ _ _ c.or_else.result _ (search rules)
    (or_name _ _ _ c.name.result _ (search rules)
    c.name.ensures)))))
