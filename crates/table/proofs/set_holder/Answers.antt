-- `table::set_holder` meets its contract.
use Rattle.table.proofs.ViewLaws.{stored-holder}
use Rattle.table.proofs.set_holder.Goals as goal

pub returns : goal.returns
returns c =
    stored-holder _ _ c.requires.table _ _ _ c.head.ensures.0 c.requires.h_bound
