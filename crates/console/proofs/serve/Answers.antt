-- `console::serve` meets its contract.
use Rattle.console.specs.Laws.StandingLaws.{along-start, along-step, along-end}
use Rattle.console.proofs.serve.Goals as goal

pub loop-behind-init : goal.loop-behind-init
loop-behind-init g c = along-start _ _

pub loop-behind-preserved : goal.loop-behind-preserved
loop-behind-preserved g c = along-step _ _ _ _ _ _ _ _ c.loop-behind.invariant c.in-Some.ensures

pub returns : goal.returns
returns g c = along-end _ _ _ _ _ c.loop-behind.invariant c.in_default.ensures
