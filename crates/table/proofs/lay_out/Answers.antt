-- `table::lay_out` meets its contract.
use Rattle.table.specs.Laws.SizesLaws.{fits_told}
use Rattle.table.proofs.BlankLaws.{lays_out}
use Rattle.table.proofs.lay_out.Goals as goal

pub returns : goal.returns
returns c =
    lays_out c.args.s c.args.t.now (fits_told _ _ c.requires) c.clear.ensures c.tell_head.ensures
