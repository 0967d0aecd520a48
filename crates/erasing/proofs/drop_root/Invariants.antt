use Rattle.loops.specs.Loop.{steps, Going}
use Rattle.pool.specs.Erase.{stepped}
use Rattle.table.specs.View.{greatest_count}
use Rattle.erasing.specs.Erasing.{halted, Fine, state, dropping_at, most}
use Rattle.cells.specs.Lent.{Kept}
use Rattle.erasing.proofs.drop_root.Given as goal

abbrev pub invariant-loop-e : goal.invariant-loop-e
invariant-loop-e l =
    let p = l.initial.p in
    Kept p l.p × Going halted stepped (Fine (greatest_count p.shape)) (most p.pool) (dropping_at p.pool l.x) (state l.p l.e)

abbrev pub decreases-loop-e : goal.decreases-loop-e
decreases-loop-e l = steps halted stepped (most l.initial.p.pool) (state l.p l.e)
