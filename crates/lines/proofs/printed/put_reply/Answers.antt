-- `lines::printed::put_reply` meets its contract.
use native.Mathlib.Omega.{arith}
use mathlib.Core.List.{◌++◌}
use Rattle.lines.specs.Numbers.{blank}
use Rattle.lines.specs.Printed.{column, line_feed}
use Rattle.lines.specs.Laws.PrintedLaws.{puts_then, column_short}
use Rattle.lines.proofs.printed.put_reply.Goals as goal

pub put_column-b-requires : goal.put_column-b-requires
put_column-b-requires c =
    omega (arith, column_short c.args.answer blank)

pub put_column-c-requires : goal.put_column-c-requires
put_column-c-requires c =
    omega (arith, column_short c.args.answer blank, column_short c.args.kind blank)

pub put_column-requires : goal.put_column-requires
put_column-requires c =
    omega (arith, column_short c.args.answer blank, column_short c.args.kind blank, column_short c.args.value blank)

pub returns : goal.returns
returns c =
    let a = c.args in
    puts_then (column a.answer blank) (column a.kind blank ++ (column a.value blank ++ column a.free line_feed))
    c.put_column-a.ensures
    (puts_then (column a.kind blank) (column a.value blank ++ column a.free line_feed) c.put_column-b.ensures
    (puts_then (column a.value blank) (column a.free line_feed) c.put_column-c.ensures c.put_column.ensures))
