use Rattle.std.specs.Prelude.{ℕ}
use Rattle.std.proofs.Common.{arith}
use Rattle.cells.specs.Views.{pool_of}
use Rattle.table.specs.View.{IsCell}
use Rattle.pool.specs.Pool.{InPool}
use Rattle.levels.specs.Laws.Beside.{beside, Pair, pair, enough, too_few}
use Rattle.levels.proofs.walk.fits.Goals.{Else-f-eq0}
use Rattle.levels.proofs.walk.fits.Goals as goal

-- what a turn knows
both : (c : Else-f-eq0) →
    Pair (pool_of c.args.t) c.args.a c.loop-x.x c.loop-x.f
both c = pair _ _ _ _ c.loop-x-test.true c.if-f-eq0.false c.loop-x.invariant

cell : (c : Else-f-eq0) (x : ℕ) →
    InPool (pool_of c.args.t).cells x
    → IsCell c.args.t.shape x
cell c x i = record { low = i.0; high = omega (arith, i.1) }

pub loop-x-init : goal.loop-x-init
loop-x-init c = rw (c.holder_of-x.ensures.0, c.free_head-f.ensures.0) (beside _ _ c.requires.sound)

pub returns-then-f-eq0 : goal.returns-then-f-eq0
returns-then-f-eq0 c = too_few _ _ _ _ c.loop-x-test.true c.if-f-eq0.true c.loop-x.invariant

pub next_of-x-requires : goal.next_of-x-requires
next_of-x-requires c = cell c _ (both c).here.inside

pub next_of-f-requires : goal.next_of-f-requires
next_of-f-requires c =
    cell (goal.at.next_of-f-requires c).Else-f-eq0 _ (both (goal.at.next_of-f-requires c).Else-f-eq0).free

pub loop-x-smaller : goal.loop-x-smaller
loop-x-smaller c = rw c.next_of-x.ensures.0 (omega (arith, (both (goal.at.loop-x-smaller c).Else-f-eq0).here.longer))

pub loop-x-preserved : goal.loop-x-preserved
loop-x-preserved c = rw (c.next_of-x.ensures.0, c.next_of-f.ensures.0) (both (goal.at.loop-x-preserved c).Else-f-eq0).rest

pub returns : goal.returns
returns c = enough _ _ _ _ c.loop-x-test.false c.loop-x.invariant
