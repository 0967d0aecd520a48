-- `table::set_free` meets its contract.
use Rattle.table.proofs.ViewLaws.{stored-free}
use Rattle.table.proofs.set_free.Goals as goal

pub returns : goal.returns
returns c = stored-free _ _ c.requires.table _
