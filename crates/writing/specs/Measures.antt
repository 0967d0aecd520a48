-- What measuring a list says: the earliest of DEEP and OUTPUT, or the size of its text.
use Rattle.std.specs.Prelude.{ℕ, ◌≤◌, ◌≡◌, List, length, IfOk, Result}
use Rattle.answers.specs.Answers.{DONE}
use Rattle.answers.specs.Refusals.{answer_no}
use Rattle.answers.specs.declared.refusal.Refusal.{Refusal}
use Rattle.pool.specs.Operations.{list_at}
use Rattle.pool.specs.Pool.{Cell}
use Rattle.text.specs.Limits.{text_most}
use Rattle.text.specs.ListText.{text_of}
use Rattle.text.specs.Writing.{judged}

-- the text of the list at x
abbrev pub text_at : List Cell → ℕ → List ℕ
text_at cs x = text_of (list_at cs x)

pub record Measures (cs : List Cell) (x u : ℕ) (m : Result ℕ Refusal) : Type 0 where
  pub answer : answer_no m ≡ judged u 0 (text_at cs x)
  pub size : IfOk m (λ n. n ≡ length (text_at cs x))

-- the text ends at `end`, and can be written so
pub record Fitting (cs : List Cell) (x end : ℕ) : Type 0 where
  pub size : end ≡ length (text_at cs x)
  pub fits : judged end 0 (text_at cs x) ≡ DONE
  pub short : end ≤ text_most
