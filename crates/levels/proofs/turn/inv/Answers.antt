use Rattle.std.proofs.Common.{ap, arith}
use Rattle.cells.specs.Lent.{on}
use Rattle.pool.specs.Pool.{Pool}
use Rattle.levels.specs.Laws.TurningLaws.{own_turns, head_top, is_inv}
use Rattle.levels.proofs.turn.inv.Goals as goal

pub turn-z-requires : goal.turn-z-requires
turn-z-requires c = rw c.holder_of-x.ensures.0 (own_turns _ _ c.requires.asked.sound (omega arith) c.requires.a_value)

pub set_holder-requires-clause-v_le_cells : goal.set_holder-requires-clause-v_le_cells
set_holder-requires-clause-v_le_cells c =
    let d = c.turn-z.ensures in
    rw (← c.sizes.ensures.measured, d.1, d.0, c.holder_of-x.ensures.0) (head_top _ _ c.requires.asked.sound (omega arith) c.requires.a_value)

pub returns : goal.returns
returns c =
    let d = c.turn-z.ensures in
    rw (c.set_holder.ensures, d.0, d.1, c.holder_of-x.ensures.0) (ap (λ (q : Pool). on (λ _. q) c.args.p.now) (is_inv c.args.p.now.pool c.args.a))
