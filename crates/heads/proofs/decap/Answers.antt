-- `heads::decap` meets its contract.
use Rattle.std.proofs.Common.{ap, arith}
use Rattle.cells.specs.Laws.LentLaws.{free_high, live_head}
use Rattle.cells.specs.Laws.RangeLaws.{Head}
use Rattle.cells.specs.Lent.{on}
use Rattle.heads.specs.Laws.HeadLaws.{is_decap}
use Rattle.pool.specs.Pool.{Pool}
use Rattle.heads.proofs.decap.Goals.{After-holder_of-x}
use Rattle.heads.proofs.decap.Goals as goal

-- the first cell of a
head : (c : After-holder_of-x) →
    let v = c.args.p.now in
    Head v.shape v.pool.cells c.holder_of-x.result
head c = rw c.holder_of-x.ensures.0 (live_head _ c.requires.asked.sized c.requires.asked.sound _ (omega arith))

pub next_of-next-requires : goal.next_of-next-requires
next_of-next-requires c = (head c).cell

pub release-requires-clause-free : goal.release-requires-clause-free
release-requires-clause-free c = rw c.set_count.ensures (free_high _ c.requires.asked.sized c.requires.asked.sound)

pub set_holder-requires-clause-v_le_cells : goal.set_holder-requires-clause-v_le_cells
set_holder-requires-clause-v_le_cells c =
    rw (c.release.ensures, c.set_count.ensures, c.next_of-next.ensures.0)
    (head (goal.at.set_holder-requires-clause-v_le_cells c).After-holder_of-x).next

pub set_holder-requires-2-clause-v_le_cells : goal.set_holder-requires-2-clause-v_le_cells
set_holder-requires-2-clause-v_le_cells c =
    rw (c.set_holder.ensures, c.release.ensures, c.set_count.ensures, c.item_of-e.ensures)
    (head (goal.at.set_holder-requires-2-clause-v_le_cells c).After-holder_of-x).item

pub returns : goal.returns
returns c =
    rw (c.set_holder-2.ensures, c.set_holder.ensures, c.release.ensures, c.set_count.ensures)
    (ap (λ (q : Pool). on (λ _. q) c.args.p.now)
    (is_decap _ _ _ _ c.holder_of-x.ensures.0 _ _ c.next_of-next.ensures.0 c.item_of-e.ensures))
