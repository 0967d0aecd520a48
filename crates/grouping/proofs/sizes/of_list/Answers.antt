use Rattle.std.proofs.Common.{◌<◌, ◌≤◌, sym, ◌∙◌, arith, ltb-true, ltb-false, length}
use Rattle.groups.specs.Laws.Sizes.{one_group, two-groups}
use Rattle.grouping.specs.Steps.{elements_at, list_number_at}
use Rattle.pool.specs.Laws.Level.{span_le}
use Rattle.cells.specs.Views.{pool_of}
use Rattle.grouping.proofs.sizes.of_list.Goals as goal

pub returns-then-is_long : goal.returns-then-is_long
returns-then-is_long c =
    let cs = (pool_of c.args.t).cells in
    let x = c.args.x in
    let long : 63 < elements_at cs x = ltb-true 63 (elements_at cs x) (sym c.is_long.ensures ∙ c.if-is_long.true) in
    sym (two-groups (list_number_at cs x) (omega arith) (omega (arith, span_le (length cs) cs x, c.args.t.table)))

pub returns-else-is_long : goal.returns-else-is_long
returns-else-is_long c =
    let cs = (pool_of c.args.t).cells in
    let x = c.args.x in
    let short : elements_at cs x ≤ 63 = ltb-false 63 (elements_at cs x) (sym c.is_long.ensures ∙ c.if-is_long.false) in
    sym (one_group (list_number_at cs x) (omega arith))
