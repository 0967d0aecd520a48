-- `grouping::write_list` meets its contract: what was measured has room.
use Rattle.std.proofs.Common.{arith}
use Rattle.grouping.specs.Laws.MeasureLaws.{fitting}
use Rattle.grouping.proofs.write_list.Goals as goal

pub overflow_cast-result : goal.overflow_cast-result
overflow_cast-result c = omega (arith, (fitting _ _ _ _ _ c.in_ok-m.ensures c.usable.ensures).1)
