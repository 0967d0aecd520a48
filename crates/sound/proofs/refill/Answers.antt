-- `sound::refill` meets its contract.
use Rattle.std.proofs.Common.{arith}
use Rattle.sound.specs.Laws.MirrorLaws.{refill_empty, refill_top}
use Rattle.sound.proofs.refill.Goals as goal

pub returns-then-e-eq0 : goal.returns-then-e-eq0
returns-then-e-eq0 c = refill_empty _ _ _ (omega arith) c.if-e-eq0.true

pub returns : goal.returns
returns c = refill_top _ _ _ (omega arith) c.if-e-eq0.false
