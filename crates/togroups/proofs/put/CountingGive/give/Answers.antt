-- `togroups::put::CountingGive::give` meets its contract.
use Rattle.std.proofs.Common.{arith}
use Rattle.groups.specs.Laws.Sizes.{number_size}
use Rattle.togroups.proofs.put.CountingGive.give.Goals as goal

pub overflow_add-result : goal.overflow_add-result
overflow_add-result c = omega (arith, c.size.ensures, number_size c.args.v)
