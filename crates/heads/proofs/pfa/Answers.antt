-- `heads::pfa` meets its contract.
use Rattle.std.proofs.Common.{ap}
use Rattle.cells.specs.Laws.LentLaws.{spare}
use Rattle.cells.specs.Lent.{on}
use Rattle.heads.specs.Laws.HeadLaws.{is_pfa}
use Rattle.pool.specs.Pool.{Pool}
use Rattle.heads.proofs.pfa.Goals as goal

pub new_cell-x-requires-clause-spare : goal.new_cell-x-requires-clause-spare
new_cell-x-requires-clause-spare c = spare _ c.requires.asked.sized c.requires.asked.sound c.requires.free

pub set_holder-requires-clause-v_le_cells : goal.set_holder-requires-clause-v_le_cells
set_holder-requires-clause-v_le_cells c =
    rw (c.new_cell-x.ensures.left, c.new_cell-x.ensures.told) (spare _ c.requires.asked.sized c.requires.asked.sound c.requires.free).cell.high

pub returns : goal.returns
returns c =
    rw (c.set_holder.ensures, c.new_cell-x.ensures.left)
    (ap (λ (q : Pool). on (λ _. q) c.args.p.now) (is_pfa _ _ _ _ _ c.holder_of-old.ensures.0 c.new_cell-x.ensures.told))
