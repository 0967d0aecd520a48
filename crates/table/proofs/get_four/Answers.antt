-- `table::get_four` meets its contract.
use Rattle.std.proofs.Common.{rules}
use Rattle.table.specs.View.{cell_word}
use Rattle.table.proofs.get_four.Goals as goal

pub returns : goal.returns
unfolding cell_word
returns c = search rules
