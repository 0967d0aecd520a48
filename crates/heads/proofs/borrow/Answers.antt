-- `heads::borrow` meets its contract.
use Rattle.std.proofs.Common.{ap}
use Rattle.cells.specs.Laws.LentLaws.{holder_high, count_high}
use Rattle.cells.specs.Lent.{on}
use Rattle.heads.specs.Laws.HeadLaws.{is_borrow}
use Rattle.pool.specs.Pool.{Pool}
use Rattle.heads.proofs.borrow.Goals as goal

pub share-requires-clause-x_bound : goal.share-requires-clause-x_bound
share-requires-clause-x_bound c = count_high _ c.requires.asked.sized c.requires.asked.sound _ _ c.requires.asked.a_bound.1 c.requires.b_value

pub share-requires-clause-x_le_cells : goal.share-requires-clause-x_le_cells
share-requires-clause-x_le_cells c = rw c.holder_of-x.ensures.0 (holder_high _ c.requires.asked.sized c.requires.asked.sound _)

pub set_holder-requires-clause-v_le_cells : goal.set_holder-requires-clause-v_le_cells
set_holder-requires-clause-v_le_cells c =
    rw (c.share.ensures, c.holder_of-x.ensures.0) (holder_high _ c.requires.asked.sized c.requires.asked.sound _)

pub returns : goal.returns
returns c =
    rw (c.set_holder.ensures, c.share.ensures)
    (ap (λ (q : Pool). on (λ _. q) c.args.p.now) (is_borrow _ _ _ _ c.holder_of-x.ensures.0))
