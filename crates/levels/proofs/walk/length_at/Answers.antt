use Rattle.std.specs.Prelude.{◌≤◌, length}
use Rattle.std.proofs.Common.{arith}
use Rattle.cells.specs.Views.{pool_of}
use Rattle.pool.specs.Laws.Level.{Onward, onward, none_left, span_le}
use Rattle.pool.specs.Operations.{span}
use Rattle.levels.proofs.walk.length_at.Goals.{In-loop-c, Start}
use Rattle.levels.proofs.walk.length_at.Goals as goal

-- what a turn knows
here : (c : In-loop-c) →
    Onward (pool_of c.args.t).cells c.loop-c.c
here c = onward _ _ c.loop-c-test.true c.loop-c.invariant.0

-- the level is no longer than the pool
short : (start : Start) →
    let cs = (pool_of start.args.t).cells in
    span (length cs) cs start.args.x ≤ length cs
short start = span_le _ _ _

pub overflow_add-n : goal.overflow_add-n
overflow_add-n c = omega (arith, (here c).longer, short (goal.at.overflow_add-n c).Start)

pub next_of-c-requires : goal.next_of-c-requires
next_of-c-requires c =
    let h = here (goal.at.next_of-c-requires c).In-loop-c in
    record { low = h.inside.0; high = omega (arith, h.inside.1) }

pub loop-c-smaller : goal.loop-c-smaller
loop-c-smaller c = rw c.next_of-c.ensures.0 (omega (arith, (here (goal.at.loop-c-smaller c).In-loop-c).longer))

pub loop-c-preserved : goal.loop-c-preserved
loop-c-preserved c =
    let h = here (goal.at.loop-c-preserved c).In-loop-c in
    rw c.next_of-c.ensures.0 (h.rest, omega (arith, h.longer))

pub returns : goal.returns
returns c =
    let z = (none_left (pool_of c.args.t).cells c.loop-c.c c.loop-c-test.false).0 in
    (omega (arith, z), omega (arith, z, short (goal.at.returns c).Start))
