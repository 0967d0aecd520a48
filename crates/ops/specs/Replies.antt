-- What one operation answers, in document 01's numbers: kind and value where it is done, else that of its refusal.
use Rattle.std.specs.Prelude.{◌≡◌, cond, ℕ, eqb, Result, Ok, Err}
use Rattle.answers.specs.Answers.{DONE}
use Rattle.answers.specs.Operations.{kind_told, value_told}
use Rattle.answers.specs.Refusals.{refusal_no}
use Rattle.answers.specs.declared.refusal.Refusal.{Refusal}
use Rattle.answers.specs.declared.told.Told.{Told}
use Rattle.pool.specs.Pool.{Pool}
use Rattle.pool.specs.Script.{Operation, Effect, refusal, effect, pool_after}
use Rattle.cells.specs.Lent.{Lent, on}

abbrev pub operation : ℕ → ℕ → ℕ → ℕ → Operation
operation c a b v = record { code = c; a = a; b = b; v = v }

-- the two result words
abbrev pub said : Effect → Result (ℕ × ℕ) ℕ
said d = Ok (d.kind, d.value)

unfoldable pub reply : Pool → Operation → Result (ℕ × ℕ) ℕ
reply p o = cond (eqb (refusal p o) DONE) (said (effect p o)) (Err (refusal p o))

-- the same numbers of what the code gives
abbrev pub numbers : Result Told Refusal → Result (ℕ × ℕ) ℕ
numbers (Ok x) = Ok (kind_told x, value_told x)
numbers (Err e) = Err (refusal_no e)

-- operation o on the lent pool v is answered by r, and leaves u
pub record Gives (v u : Lent) (r : Result Told Refusal) (o : Operation) : Type 0 where
  pub is : u ≡ on (λ p. pool_after p o) v
  pub told : numbers r ≡ reply v.pool o
