-- `closed`: each answer is the automaton's.
use Rattle.std.proofs.Common.{arith}
use Rattle.scan.proofs.Shutting.{shut_once, closed_out, closed-comma, closed-other, closed_again, closed-over}
use Rattle.scan.proofs.step.closed.Goals as goal

pub loop-d-init : goal.loop-d-init
loop-d-init c = shut_once c.requires

pub returns-then-i-text : goal.returns-then-i-text
returns-then-i-text c = closed_out c.loop-d.invariant c.loop-d-test.true c.if-i-text.true

pub returns-in-44 : goal.returns-in-44
returns-in-44 c = rw c.behind.ensures (closed-comma c.loop-d.invariant c.loop-d-test.true c.if-i-text.false c.requires.some c.in-44.is)

pub returns-in_default : goal.returns-in_default
returns-in_default c =
    closed-other c.loop-d.invariant c.loop-d-test.true c.if-i-text.false (λ e. omega (arith, e)) (λ e. omega (arith, e))

pub loop-d-preserved : goal.loop-d-preserved
loop-d-preserved c = closed_again c.loop-d.invariant c.loop-d-test.true c.if-i-text.false c.in-41.is

pub returns : goal.returns
returns c = rw c.behind-2.ensures (closed-over c.loop-d.invariant c.requires.some (omega (arith, c.loop-d-test.false)))
