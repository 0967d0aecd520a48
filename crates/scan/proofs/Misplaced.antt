-- What may not stand behind an element, behind digits, and where an element is to begin: the automaton's step is a fault.
-- By classes of characters.
use Prim.Native.Nat.{ℕ, ◌+◌, ◌<◌}
use mathlib.Core.Path.{◌≡◌, refl, sym, ap, ◌∙◌}
use mathlib.Core.List.{[]}
use mathlib.Core.Bool.{Bool, true, false}
use native.Mathlib.Omega.{arith}
use Rattle.text.specs.Text.{place, in_atom, after_element, may_open, may_part, may_begin, fault, step_of}
use Rattle.text.specs.ListText.{is_digit_byte}
use Rattle.text.specs.Marks.{pending}
use Rattle.text.specs.Laws.TextLaws.{no_yes, digit-step, Class, is_open, is_shut, is_comma, is_blank, is_digit, is_other}
use Rattle.scan.specs.Places.{phase_of}
use Rattle.scan.proofs.RunLaws.{bounds_digit}

not_digit : {A : Type 0} (b x : ℕ) → x < 8 → b ≡ 48 + x → is_digit_byte b ≡ false → A
not_digit b x h q n = no_yes (sym n ∙ bounds_digit b (omega arith) (omega arith))

pub behind-element : (d b : ℕ) → (b ≡ 44 → ⊥) → (b ≡ 41 → ⊥) → Class b → step_of (place after_element d 0 0) b ≡ fault 15
behind-element d b p q (is_open e) = ap (step_of (place after_element d 0 0)) e
behind-element d b p q (is_shut e) = absurd (q e)
behind-element d b p q (is_comma e) = absurd (p e)
behind-element d b p q (is_blank e) = ap (step_of (place after_element d 0 0)) e
behind-element d b p q (is_digit x h e) = ap (step_of (place after_element d 0 0)) e ∙ digit-step (place after_element d 0 0) x h
behind-element d b p q (is_other f) = f (place after_element d 0 0)

pub behind-digits : (d m w b : ℕ) → is_digit_byte b ≡ false → (b ≡ 44 → ⊥) → (b ≡ 41 → ⊥) → Class b → step_of (place in_atom d m w) b ≡ fault 15
behind-digits d m w b n p q (is_open e) = ap (step_of (place in_atom d m w)) e
behind-digits d m w b n p q (is_shut e) = absurd (q e)
behind-digits d m w b n p q (is_comma e) = absurd (p e)
behind-digits d m w b n p q (is_blank e) = ap (step_of (place in_atom d m w)) e
behind-digits d m w b n p q (is_digit x h e) = not_digit b x h e n
behind-digits d m w b n p q (is_other f) = f (place in_atom d m w)

pub may_begin_lem : (f : Bool) → (may_open (phase_of f) ≡ true) × (may_begin (phase_of f) ≡ true) × (may_part (phase_of f) ≡ false)
may_begin_lem true = (refl, refl, refl)
may_begin_lem false = (refl, refl, refl)

pub no_pending : (f : Bool) (d : ℕ) → pending (place (phase_of f) d 0 0) ≡ []
no_pending true d = refl
no_pending false d = refl

no_blank : (f : Bool) (d : ℕ) → step_of (place (phase_of f) d 0 0) 32 ≡ fault 15
no_blank true d = refl
no_blank false d = refl

pub no_element : (f : Bool) (d b : ℕ) → is_digit_byte b ≡ false → (b ≡ 40 → ⊥) → (b ≡ 41 → ⊥) → Class b → step_of (place (phase_of f) d 0 0) b ≡ fault 15
no_element f d b n p q (is_open e) = absurd (p e)
no_element f d b n p q (is_shut e) = absurd (q e)
no_element f d b n p q (is_comma e) = let may = (may_begin_lem f).2 in ap (step_of (place (phase_of f) d 0 0)) e ∙ simp may
no_element f d b n p q (is_blank e) = ap (step_of (place (phase_of f) d 0 0)) e ∙ no_blank f d
no_element f d b n p q (is_digit x h e) = not_digit b x h e n
no_element f d b n p q (is_other g) = g (place (phase_of f) d 0 0)
