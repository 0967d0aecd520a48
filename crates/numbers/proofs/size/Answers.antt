-- `numbers::size` meets its contract.
use Rattle.numbers.specs.Laws.BitLaws.{groups_by_bit}
use Rattle.numbers.proofs.size.Goals as goal

pub returns : goal.returns
returns c = groups_by_bit c.args.v c.requires
