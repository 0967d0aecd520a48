-- A text that does not begin with "(" is no list.
use Rattle.std.specs.Prelude.{ℕ, ◌≡◌}
use Rattle.std.proofs.Common.{ap, ◌∙◌}
use Rattle.text.specs.Text.{begin, fault, step_of}
use Rattle.text.specs.Laws.TextLaws.{digit-step, Class, is_open, is_shut, is_comma, is_blank, is_digit, is_other}

pub no_start : (b : ℕ) → (b ≡ 40 → ⊥) → Class b → step_of begin b ≡ fault 15
no_start b n (is_open e) = absurd (n e)
no_start b n (is_shut e) = ap (step_of begin) e
no_start b n (is_comma e) = ap (step_of begin) e
no_start b n (is_blank e) = ap (step_of begin) e
no_start b n (is_digit x h e) = ap (step_of begin) e ∙ digit-step begin x h
no_start b n (is_other f) = f begin
