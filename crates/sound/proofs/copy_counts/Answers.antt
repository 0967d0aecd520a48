use Rattle.std.proofs.Common.{arith}
use Rattle.pool.specs.Laws.TallyLaws.{same_le}
use Rattle.sound.specs.Laws.CopyLaws.{copy_start, copy_step, copy_end}
use Rattle.sound.proofs.copy_counts.Goals as goal

pub loop-i-init : goal.loop-i-init
loop-i-init c = copy_start _ _ _

pub overflow_add-free : goal.overflow_add-free
overflow_add-free c = omega (arith, same_le c.count_of-r.result 0)

pub loop-i-preserved : goal.loop-i-preserved
loop-i-preserved c =
    copy_step _ _ _ _ _ _ _ _ (omega arith) c.loop-i-test.true c.loop-i.invariant c.count_of-r.ensures.0 c.one_if_none-free.ensures

pub returns : goal.returns
returns c = copy_end _ _ _ _ _ _ c.args.t.table.measured (omega arith) c.loop-i.invariant
