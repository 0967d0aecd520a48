-- `atom`: each answer is the automaton's; a "," behind the first digit ends the run of digits.
use Rattle.std.specs.Prelude.{◌+◌, get_or}
use Rattle.std.proofs.Common.{ap, arith}
use Rattle.text.specs.ListText.{is_digit_byte}
use Rattle.scan.proofs.RunLaws.{run-stop}
use Rattle.scan.proofs.Tokens.{taken-comma, one-digit}
use Rattle.scan.proofs.step.atom.Goals as goal

pub returns-then-text-second-eq44 : goal.returns-then-text-second-eq44
returns-then-text-second-eq44 c =
    let at = c.args.p.at in
    let stop = run-stop c.args.text.now (at + 1) c.if-second-text.true (ap is_digit_byte c.if-text-second-eq44.true) in
    rw c.behind.ensures
    (taken-comma c.requires.inside (record { digit = c.requires.at_value; run = omega (arith, stop) }) (one-digit at (get_or c.args.text.now at 0))
    c.if-second-text.true c.if-text-second-eq44.true)
