use Rattle.std.proofs.Common.{sym, ◌∙◌, arith}
use Rattle.reading.proofs.Numerals.{On, digit-on}
use Rattle.reading.proofs.digits.number_at.Goals.{In-loop-value}
use Rattle.reading.proofs.digits.number_at.Goals as goal

-- a digit
on : (c : In-loop-value) → On c.args.text.now c.loop-value.i c.loop-value.value
on c =
    digit-on c.args.text.now c.loop-value.i c.loop-value.value (omega (arith, c.requires.ends))
    (sym c.is_octal.ensures ∙ c.loop-value-test.true)

pub overflow_mul-value : goal.overflow_mul-value
overflow_mul-value c =
    omega (arith, (on (goal.at.overflow_mul-value c).In-loop-value).small, c.loop-value.invariant.1, c.requires.fits)

pub overflow_add-value : goal.overflow_add-value
overflow_add-value c =
    omega (arith, (on (goal.at.overflow_add-value c).In-loop-value).small, c.from.ensures, c.loop-value.invariant.1, c.requires.fits)
