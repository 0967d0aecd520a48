use Rattle.std.proofs.Common.{arith}
use Rattle.cells.specs.Views.{pool_of}
use Rattle.sound.specs.Laws.PeelLaws.{start-room, peel_start, less-left, peel_step}
use Rattle.sound.proofs.peel_all.Goals as goal

pub refill-e-requires : goal.refill-e-requires
refill-e-requires c =
    let t = c.args.t in
    start-room (pool_of t) _ _ _ _ t.table.measured (omega arith) c.requires.cells_in_bounds c.meet_holders-f.ensures

pub loop-e-init : goal.loop-e-init
loop-e-init c =
    let t = c.args.t in
    peel_start (pool_of t) _ _ _ _ t.table.measured (omega arith) c.requires.cells_in_bounds c.meet_holders-f.ensures _
    c.refill-e.ensures

pub loop-e-smaller : goal.loop-e-smaller
loop-e-smaller c =
    let t = c.args.t in
    omega (
      arith,
      less-left (pool_of t) _ _ _ _ t.table.measured (omega arith) (omega arith) c.loop-e.invariant _ _ c.loop-e-test.true
          c.take_cell-e.ensures,
    )

pub loop-e-preserved : goal.loop-e-preserved
loop-e-preserved c =
    let t = c.args.t in
    peel_step (pool_of t) _ _ _ _ t.table.measured (omega arith) (omega arith) c.loop-e.invariant _ _ c.loop-e-test.true
    c.take_cell-e.ensures
