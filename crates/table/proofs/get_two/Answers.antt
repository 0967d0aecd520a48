-- `table::get_two` meets its contract.
use Rattle.table.specs.View.{cell_word}
use Rattle.table.proofs.get_two.Goals as goal

pub returns : goal.returns
unfolding cell_word
returns c = c.part_of.ensures
