use Rattle.std.proofs.Common.{arith}
use Rattle.sound.specs.Laws.CountLaws.{counts_none, counts_one, counts_all}
use Rattle.answering.specs.Laws.FreeLaws.{one_if_free}
use Rattle.answering.proofs.free.count_free.Goals as goal

pub loop-c-init : goal.loop-c-init
loop-c-init c = counts_none _

pub loop-c-preserved : goal.loop-c-preserved
loop-c-preserved c = counts_one _ _ _ _ _ c.loop-c.invariant c.count_of.ensures.0 (one_if_free c.count_of.result _ c.from-free.ensures)

pub returns : goal.returns
returns c = counts_all _ _ _ (omega arith) c.loop-c.invariant
