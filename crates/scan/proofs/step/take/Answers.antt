-- `take`: each answer is the automaton's, by the character at the place.
use Rattle.std.proofs.Common.{arith, sym, ◌∙◌}
use Rattle.scan.proofs.Tokens.{taken_open, taken_shut, taken-early, taken_none}
use Rattle.scan.proofs.step.take.Goals as goal

pub returns-in-40 : goal.returns-in-40
returns-in-40 c = rw c.«open».ensures (taken_open c.requires c.in-40.is)

pub returns-in-41 : goal.returns-in-41
returns-in-41 c = taken_shut c.requires c.if-p.true c.in-41.is c.closed.result c.closed.ensures

pub returns-in_default-2 : goal.returns-in_default-2
returns-in_default-2 c = taken-early c.requires c.if-p.false c.in-41.is

pub returns-in_default-2-2 : goal.returns-in_default-2-2
returns-in_default-2-2 c = taken_none c.requires (sym c.is_octal.ensures ∙ c.if-is_octal.false) (λ e. omega (arith, e)) (λ e. omega (arith, e))
