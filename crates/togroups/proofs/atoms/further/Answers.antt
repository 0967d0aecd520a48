use Prim.Native.Nat.{◌-◌}
use mathlib.Core.Bool.{true}
use mathlib.Core.Path.{◌≡◌, refl, sym, ◌∙◌}
use native.Mathlib.Omega.{arith}
use lib.ListN.{get_or}
use Rattle.text.specs.ListText.{is_digit_byte}
use Rattle.togroups.specs.Laws.AtomLaws.{Grown, gather_on, gather_end}
use Rattle.togroups.proofs.atoms.further.Goals.{After-from, In-loop-i}
use Rattle.togroups.proofs.atoms.further.Goals as goal

octal : (c : In-loop-i) →
    is_digit_byte (get_or c.args.text.now (c.loop-i.i - 1) 0) ≡ true
octal c = sym c.is_octal.ensures ∙ c.loop-i-test.true

grown : (c : After-from) →
    Grown c.args.text.now c.loop-i.i c.loop-i.v c.loop-i.w c.from.result
grown c =
    gather_on _ _ _ _ c.loop-i.invariant.0 (octal (goal.at.overflow_mul-v c).In-loop-i) _ c.from.ensures

pub loop-i-init : goal.loop-i-init
loop-i-init c = (c.requires, refl)

pub overflow_mul-v : goal.overflow_mul-v
overflow_mul-v c = omega (arith, (grown c).fits)

pub overflow_add-v : goal.overflow_add-v
overflow_add-v c = omega (arith, (grown c).fits)

pub overflow_mul-w : goal.overflow_mul-w
overflow_mul-w c = omega (arith, (grown c).worth)

pub loop-i-smaller : goal.loop-i-smaller
loop-i-smaller c = omega (arith, (grown c).next.some)

pub loop-i-preserved : goal.loop-i-preserved
loop-i-preserved c = ((grown c).next, (grown c).same ∙ c.loop-i.invariant.1)

pub returns : goal.returns
returns c =
    gather_end _ _ _ _ c.loop-i.invariant.0 (sym c.is_octal.ensures ∙ c.loop-i-test.false) _ (sym c.loop-i.invariant.1)
