use Rattle.std.proofs.Common.{ap, arith}
use Rattle.cells.specs.Lent.{on}
use Rattle.pool.specs.Pool.{Pool}
use Rattle.levels.specs.Laws.CopyingLaws.{room-copies, head_top, is_cinv}
use Rattle.levels.proofs.copy.cinv.Goals as goal

pub copy-head-requires : goal.copy-head-requires
copy-head-requires c =
    let q = c.requires in
    rw c.holder_of-x.ensures.0 (room-copies _ _ c.args.b q.asked.sound (omega arith) q.b_value.0 q.b_value.1)

pub set_holder-requires-clause-v_le_cells : goal.set_holder-requires-clause-v_le_cells
set_holder-requires-clause-v_le_cells c =
    let q = c.requires in
    let d = c.copy-head.ensures in
    rw (← c.sizes.ensures.measured, d.1, d.0, c.holder_of-x.ensures.0)
    (head_top _ _ c.args.b q.asked.sound (omega arith) q.b_value.0 q.b_value.1)

pub returns : goal.returns
returns c =
    let v = c.args.p.now in
    let d = c.copy-head.ensures in
    rw (c.set_holder.ensures, d.0, d.1, c.holder_of-x.ensures.0) (ap (λ (q : Pool). on (λ _. q) v) (is_cinv v.pool c.args.a c.args.b))
