use Rattle.std.proofs.Common.{sym, ◌∙◌, arith}
use Rattle.cells.specs.Views.{pool_of}
use Rattle.table.specs.View.{IsCell}
use Rattle.pool.specs.Laws.Level.{Onward, onward, none_left}
use Rattle.levels.specs.Laws.Ending.{ending, ending-on}
use Rattle.levels.proofs.walk.end_of.Goals.{In-loop-x}
use Rattle.levels.proofs.walk.end_of.Goals as goal

-- what a turn knows
here : (c : In-loop-x) →
    Onward (pool_of c.args.t).cells c.loop-x.x
here c = onward _ _ c.loop-x-test.true c.loop-x.invariant.left

cell : (c : In-loop-x) →
    IsCell c.args.t.shape c.loop-x.x
cell c = record { low = (here c).inside.0; high = omega (arith, (here c).inside.1) }

pub loop-x-init : goal.loop-x-init
loop-x-init c = rw c.holder_of-first.ensures.0 (ending _ _ _ c.requires.sound)

pub count_of-requires : goal.count_of-requires
count_of-requires c = cell c

pub returns-then-count_of-gt1 : goal.returns-then-count_of-gt1
returns-then-count_of-gt1 c = (
  sym ((here (goal.at.returns-then-count_of-gt1 c).In-loop-x).found (omega arith)) ∙ c.loop-x.invariant.shared,
  tt,
)

pub next_of-x-requires : goal.next_of-x-requires
next_of-x-requires c = cell (goal.at.next_of-x-requires c).In-loop-x

pub loop-x-smaller : goal.loop-x-smaller
loop-x-smaller c = rw c.next_of-x.ensures.0 (omega (arith, (here (goal.at.loop-x-smaller c).In-loop-x).longer))

pub loop-x-preserved : goal.loop-x-preserved
loop-x-preserved c =
    rw c.next_of-x.ensures.0 (ending-on _ _ _ _ c.loop-x-test.true (here (goal.at.loop-x-preserved c).In-loop-x) (omega arith) c.loop-x.invariant)

pub returns : goal.returns
returns c =
    (sym (none_left (pool_of c.args.t).cells _ c.loop-x-test.false).1 ∙ c.loop-x.invariant.shared, c.loop-x.invariant.reached c.loop-x-test.false)
