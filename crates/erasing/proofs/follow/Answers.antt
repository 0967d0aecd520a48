-- `erasing::follow` meets its contract.
use Rattle.std.proofs.Common.{ap}
use native.Mathlib.Nat.{pos_of_ne-zero}
use Rattle.pool.specs.Erase.{Dropping, total}
use Rattle.table.specs.View.{greatest_count}
use Rattle.cells.specs.Lent.{Lent}
use Rattle.erasing.specs.Erasing.{Fine, state}
use Rattle.erasing.specs.Laws.StepLaws.{halted-at}
use Rattle.erasing.specs.Laws.LaterLaws.{one_more, fine_there}
use Rattle.cells.specs.Laws.LentLaws.{kept_on}
use Rattle.erasing.specs.Laws.Counts.{step-total}
use Rattle.erasing.proofs.follow.Goals.{In-loop-e}
use Rattle.erasing.proofs.follow.Goals as goal

-- what the step to come asks
fine : (c : In-loop-e) → Fine (greatest_count c.args.p.now.shape) (state c.loop-e.p c.loop-e.e)
fine c = fine_there _ c.requires.ends c.loop-e.invariant.1 (halted-at _ c.loop-e-test.true)

pub drop_arrow-e-requires-clause-fine : goal.drop_arrow-e-requires-clause-fine
drop_arrow-e-requires-clause-fine c =
    rw (ap (λ (v : Lent). v.shape) c.loop-e.invariant.0.same) (fine (goal.at.drop_arrow-e-requires-clause-fine c).In-loop-e)

pub loop-e-smaller : goal.loop-e-smaller
loop-e-smaller c =
    rw (ap (λ (w : Dropping). total w.cells) c.drop_arrow-e.ensures.is)
    (step-total _ _ (fine (goal.at.loop-e-smaller c).In-loop-e) (pos_of_ne-zero c.loop-e-test.true))

pub loop-e-preserved : goal.loop-e-preserved
loop-e-preserved c =
    let d = c.drop_arrow-e.ensures in
    let i = c.loop-e.invariant in
    (kept_on i.0 d.kept, one_more i.1 (halted-at _ c.loop-e-test.true) d.is)
