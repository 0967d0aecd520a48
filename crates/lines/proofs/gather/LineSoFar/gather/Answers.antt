use Rattle.std.proofs.Common.{refl, ap, ◌∙◌, take_all}
use Rattle.lines.specs.Splitting.{going, eaten}
use Rattle.lines.specs.Laws.GatherLaws.{gathers_more, gathers_line}
use Rattle.lines.proofs.gather.LineSoFar.gather.Goals as goal

pub loop-i-init : goal.loop-i-init
unfolding eaten
loop-i-init c = refl

pub returns-then-b-eq10 : goal.returns-then-b-eq10
returns-then-b-eq10 c = gathers_line _ _ _ _ c.loop-i.invariant c.loop-i-test.true c.if-b-eq10.true

pub loop-i-preserved : goal.loop-i-preserved
loop-i-preserved c = gathers_more _ _ _ _ c.loop-i.invariant c.loop-i-test.true _ c.push.ensures

pub returns : goal.returns
returns c = c.loop-i.invariant ∙ ap (eaten (going c.args.self.now)) (take_all _ c.args.chunk.now c.loop-i-test.false)
