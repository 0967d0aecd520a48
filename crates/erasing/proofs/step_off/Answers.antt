-- `erasing::step_off` meets its contract.
use Rattle.std.proofs.Common.{ap, arith}
use Rattle.cells.specs.Laws.LentLaws.{count_high, live_head}
use Rattle.cells.specs.Laws.RangeLaws.{Head}
use Rattle.cells.specs.Lent.{Lent, on}
use Rattle.pool.specs.Laws.Bound.{count_bound}
use Rattle.pool.specs.Pool.{Pool, count_of}
use Rattle.erasing.specs.Laws.AdvanceLaws.{is_adv, tail_fits}
use Rattle.erasing.proofs.step_off.Goals.{After-holder_of-x}
use Rattle.erasing.proofs.step_off.Goals as goal

-- the first cell of a
head : (c : After-holder_of-x) →
    let v = c.args.p.now in
    Head v.shape v.pool.cells c.holder_of-x.result
head c = rw c.holder_of-x.ensures.0 (live_head _ c.requires.asked.sized c.requires.asked.sound _ (omega arith))

pub next_of-next-requires : goal.next_of-next-requires
next_of-next-requires c = (head c).cell

pub share-requires-clause-x_le_cells : goal.share-requires-clause-x_le_cells
share-requires-clause-x_le_cells c =
    rw c.item_of-e.ensures (head (goal.at.share-requires-clause-x_le_cells c).After-holder_of-x).item

pub share-requires-clause-x_bound : goal.share-requires-clause-x_bound
share-requires-clause-x_bound c = count_high _ c.requires.asked.sized c.requires.asked.sound _ _ c.requires.asked.a_bound.1 c.requires.b_value.0

pub share-requires-2-clause-x_le_cells : goal.share-requires-2-clause-x_le_cells
share-requires-2-clause-x_le_cells c =
    rw (c.share.ensures, c.next_of-next.ensures.0) (head (goal.at.share-requires-2-clause-x_le_cells c).After-holder_of-x).next

pub share-requires-2-clause-x_bound : goal.share-requires-2-clause-x_bound
share-requires-2-clause-x_bound c =
    let q = c.requires in
    let z = c.requires.asked.sized in
    rw c.share.ensures
    (λ n. omega (
      arith,
      tail_fits _ _ _ q.asked.sound (omega arith) (omega arith) q.asked.a_bound.2 q.b_value.0 q.b_value.1 _ _ _
          c.holder_of-x.ensures.0 c.next_of-next.ensures.0 c.item_of-e.ensures n,
      ap (λ (v : Lent). count_of v.pool.cells c.next_of-next.result) c.share.ensures,
      z.measured,
      z.held,
    ))

pub set_count-requires-clause-cell : goal.set_count-requires-clause-cell
set_count-requires-clause-cell c =
    rw (c.share-2.ensures, c.share.ensures) (head (goal.at.set_count-requires-clause-cell c).After-holder_of-x).cell

pub set_count-requires-clause-v_bound : goal.set_count-requires-clause-v_bound
set_count-requires-clause-v_bound c =
    rw (c.share-2.ensures, c.share.ensures)
    (omega (arith, count_bound _ c.requires.asked.sound c.holder_of-x.result, c.requires.asked.sized.measured, c.requires.asked.sized.held))

pub set_holder-requires-clause-v_le_cells : goal.set_holder-requires-clause-v_le_cells
set_holder-requires-clause-v_le_cells c =
    rw (c.set_count.ensures, c.share-2.ensures, c.share.ensures, c.next_of-next.ensures.0)
    (head (goal.at.set_holder-requires-clause-v_le_cells c).After-holder_of-x).next

pub set_holder-requires-2-clause-v_le_cells : goal.set_holder-requires-2-clause-v_le_cells
set_holder-requires-2-clause-v_le_cells c =
    rw (c.set_holder.ensures, c.set_count.ensures, c.share-2.ensures, c.share.ensures, c.item_of-e.ensures)
    (head (goal.at.set_holder-requires-2-clause-v_le_cells c).After-holder_of-x).item

pub returns : goal.returns
returns c =
    let q = c.requires in
    rw (c.set_holder-2.ensures, c.set_holder.ensures, c.set_count.ensures, c.share-2.ensures, c.share.ensures)
    (ap (λ (p : Pool). on (λ _. p) c.args.p.now)
    (is_adv _ _ _ q.asked.sound (omega arith) (omega arith) q.asked.a_bound.2 q.b_value.0 q.b_value.1 _ _ _ _
    c.holder_of-x.ensures.0 c.next_of-next.ensures.0 c.item_of-e.ensures c.count_of-n.ensures.0))
