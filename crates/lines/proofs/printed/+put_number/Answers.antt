use native.Mathlib.Omega.{arith}
use mathlib.Core.List.{[], ◌∷◌}
use Prim.Native.Nat.{◌+◌, ◌/◌, ◌%◌}
use Rattle.lines.specs.Printed.{decimal}
use Rattle.lines.specs.Laws.PrintedLaws.{puts_then, one-digit, more-digits, first-digits}
use Rattle.lines.proofs.printed.+put_number.Goals as goal

pub returns-then-v-lt10 : goal.returns-then-v-lt10
returns-then-v-lt10 t c = rw (one-digit _ c.if-v-lt10.true) c.put.ensures

pub put-requires-2 : goal.put-requires-2
put-requires-2 t c = omega (arith, first-digits _ c.if-v-lt10.false (omega arith))

pub returns : goal.returns
returns t c =
    rw (more-digits _ c.if-v-lt10.false (omega arith))
    (puts_then (decimal (c.args.v / 10)) ((48 + c.args.v % 10) ∷ []) c.put_number-end.ensures c.put-2.ensures)
