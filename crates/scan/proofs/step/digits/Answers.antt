-- `digits`: each answer is the automaton's, over the digits and what follows them.
use Rattle.std.specs.Prelude.{ℕ, ◌≡◌, false, ◌-◌, get_or}
use Rattle.std.proofs.Common.{arith, refl, ap, ◌∙◌}
use Rattle.scan.specs.Places.{too_long_atom}
use Rattle.scan.proofs.Tokens.{AtomTo, taken_long, taken_out, taken-comma, taken-other, taken-closed}
use Rattle.scan.proofs.step.digits.Goals.{In-Some}
use Rattle.scan.proofs.step.digits.Goals as goal

atom : (c : In-Some) → AtomTo c.args.text.now c.args.p c.in-Some.end
atom c = record { digit = c.requires.at_value; run = c.in-Some.ensures.0 }

short : (c : In-Some) → let a = c.args in too_long_atom (c.in-Some.end - a.p.at) (get_or a.text.now a.p.at 0) ≡ false
short c = let a = c.args in ap (λ (n : ℕ). too_long_atom (n - a.p.at) (get_or a.text.now a.p.at 0)) c.in-Some.ensures.0 ∙ c.in-Some.ensures.1

pub returns-in_default : goal.returns-in_default
returns-in_default c = taken_long c.requires.inside (record { digit = c.requires.at_value; run = refl }) c.in_default.ensures

pub returns-then-end-text : goal.returns-then-end-text
returns-then-end-text c =
    let from = (goal.at.returns-then-end-text c).In-Some in
    taken_out c.requires.inside (atom from) (short from) c.if-end-text.true

pub returns-in-44 : goal.returns-in-44
returns-in-44 c =
    let from = (goal.at.returns-in-44 c).In-Some in
    rw c.behind.ensures (taken-comma c.requires.inside (atom from) (short from) c.if-end-text.false c.in-44.is)

pub closed-requires : goal.closed-requires
closed-requires c =
    let inside = c.requires.inside in
    record {
      some = omega arith;
      within = omega (arith, c.if-end-text.false);
      small = inside.small;
      levelled = omega (arith, inside.levelled);
      counted = omega (arith, inside.counted, c.in-Some.ensures.0);
    }

pub returns-in-41 : goal.returns-in-41
returns-in-41 c =
    let from = (goal.at.returns-in-41 c).In-Some in
    taken-closed c.requires.inside (atom from) (short from) c.if-end-text.false c.in-41.is c.closed.result c.closed.ensures

pub returns-in_default-text : goal.returns-in_default-text
returns-in_default-text c =
    let from = (goal.at.returns-in_default-text c).In-Some in
    taken-other c.requires.inside (atom from) (short from) c.if-end-text.false (λ e. omega (arith, e)) (λ e. omega (arith, e))
