-- `differing` gathers the bits by which bytes differ from a blank. The invariant: they tell of the bytes so far.
use Rattle.records.proofs.Bits.{Gathered}
use Rattle.records.proofs.differing.Given as goal

abbrev pub invariant-loop-b : goal.invariant-loop-b
invariant-loop-b l = Gathered l.bytes l.b-index l.bits
