use Rattle.std.proofs.Common.{◌≡◌, refl, ◌∙◌, ◌+◌, ◌%◌, ◌-◌, length-set, arith}
use Rattle.octal.specs.Laws.WorkedOutLaws.{last_step, none_left, worked_out}
use Rattle.writing.proofs.atoms.work_out.Goals as goal

pub loop-i-preserved : goal.loop-i-preserved
loop-i-preserved c = (
  omega arith,
  length-set c.loop-i.store (c.loop-i.i - 1) (48 + c.loop-i.left % 8) ∙ c.loop-i.invariant.1,
  last_step _ c.loop-i.left _ _ (omega arith) (omega arith) c.loop-i.invariant.2,
)

pub returns : goal.returns
returns c =
    let z : c.loop-i.i ≡ 0 = omega arith in (
      c.loop-i.invariant.1,
      worked_out _ _ _ _ (omega arith) c.requires.0 (omega arith) (omega arith) (rw c.from.ensures refl) (c.loop-i.invariant.2 ∙ none_left _ c.loop-i.left _ z),
    )
