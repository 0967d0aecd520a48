-- `table::put_two` meets its contract.
use Rattle.std.proofs.Common.{ap}
use Rattle.table.specs.Fields.{field_no}
use Rattle.table.specs.Laws.FieldLaws.{not_elem}
use Rattle.table.specs.Laws.PutLaws.{elem_stored, word-stored}
use Rattle.table.proofs.put_two.Goals as goal

pub returns-in-Elem : goal.returns-in-Elem
returns-in-Elem c = elem_stored _ _ _ _ _ (ap field_no c.in-Elem.is)

pub returns-in_default : goal.returns-in_default
returns-in_default c = word-stored _ _ _ _ _ _ (not_elem c.args.f c.in_default.not-Elem) c.with_part.ensures
