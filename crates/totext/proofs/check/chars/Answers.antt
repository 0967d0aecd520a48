-- `totext::check::chars` meets its contract.
use native.Mathlib.Omega.{arith}
use Rattle.totext.specs.Laws.SizingLaws.{chars-digit, chars_even, chars-null, chars_list}
use Rattle.totext.proofs.check.chars.Goals as goal

pub returns-then-v-lt16 : goal.returns-then-v-lt16
returns-then-v-lt16 c = (chars-digit _ c.if-v-eq0.true c.if-v-lt16.true, omega arith)

pub returns-then-v-eq0 : goal.returns-then-v-eq0
returns-then-v-eq0 c = (chars_even _ _ c.if-v-eq0.true c.count.ensures.0, omega arith)

pub returns-then-v-eq1 : goal.returns-then-v-eq1
returns-then-v-eq1 c = (chars-null _ c.if-v-eq0.false c.if-v-eq1.true, omega arith)

pub returns : goal.returns
returns c = (chars_list _ c.if-v-eq0.false c.if-v-eq1.false, omega arith)
