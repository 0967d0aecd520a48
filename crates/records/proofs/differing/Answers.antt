-- The bits of a byte more, and of all bytes.
use Rattle.std.proofs.Common.{arith}
use Rattle.records.proofs.Bits.{one_more, all_seen}
use Rattle.records.proofs.differing.Goals as goal

pub loop-b-preserved : goal.loop-b-preserved
loop-b-preserved c = one_more _ _ _ c.loop-b-test.true c.loop-b.invariant

pub returns : goal.returns
returns c = all_seen _ c.loop-b.b-index _ (omega arith) c.loop-b.invariant
