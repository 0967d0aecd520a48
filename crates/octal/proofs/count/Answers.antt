-- `octal::count` meets its contract.
use Rattle.std.proofs.Common.{arith}
use Rattle.octal.specs.Laws.NumeralLaws.{digits_by_bit, some_digits}
use Rattle.octal.proofs.count.Goals as goal

pub returns : goal.returns
returns c = let q = digits_by_bit c.args.v (omega arith) in (q.0, omega (arith, some_digits c.args.v), omega arith)
