-- `lines::number::number` meets its contract.
use Rattle.std.proofs.Common.{◌<◌}
use Rattle.lines.specs.Numbers.{numbers_end}
use Rattle.lines.specs.Laws.NumberLaws.{Reads}
use Rattle.lines.proofs.number.number.Given as goal

abbrev pub invariant-loop-b : goal.invariant-loop-b
invariant-loop-b l = record { reads : Reads l.digits l.value l.b-index; fits : l.value < numbers_end }
