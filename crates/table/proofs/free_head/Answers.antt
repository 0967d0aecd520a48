-- `table::free_head` meets its contract.
use Rattle.std.proofs.Common.{arith}
use Rattle.table.specs.Laws.ViewLaws.{read-free}
use Rattle.table.proofs.free_head.Goals as goal

pub returns : goal.returns
returns c = (read-free _ _ c.requires, omega (arith, c.type_inv.t 1))
