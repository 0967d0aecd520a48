-- `totext::put::part` meets its contract.
use native.Mathlib.Omega.{arith}
use Rattle.writing.specs.Laws.StepLaws.{one-comma}
use Rattle.totext.specs.Laws.PartLaws.{parts_none, parts_one}
use Rattle.totext.proofs.put.part.Goals as goal

pub returns-then-w-eq0 : goal.returns-then-w-eq0
returns-then-w-eq0 c = parts_none _ _ _ c.if-w-eq0.true

pub bounds-out-to : goal.bounds-out-to
bounds-out-to c = omega (arith, one-comma _ c.if-w-eq0.false)

pub returns : goal.returns
returns c = parts_one _ _ _ c.if-w-eq0.false (omega arith) (omega arith)
