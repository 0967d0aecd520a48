-- `lines::printed::put_column` meets its contract.
use native.Mathlib.Omega.{arith}
use mathlib.Core.List.{[], ◌∷◌}
use Rattle.lines.specs.Numbers.{digits_most}
use Rattle.lines.specs.Printed.{decimal}
use Rattle.lines.specs.Laws.PrintedLaws.{puts_then, decimal_short}
use Rattle.lines.proofs.printed.put_column.Goals as goal

pub put-requires : goal.put-requires
put-requires c =
    omega (arith, decimal_short digits_most c.args.v)

pub returns : goal.returns
returns c =
    puts_then (decimal c.args.v) (c.args.b ∷ []) c.put_number-end.ensures c.put.ensures
