-- Where the rest begins, by what the check answers and what stands behind the records that it takes.
use Rattle.std.specs.Prelude.{ℕ, ◌≤◌, ◌≡◌, refl, ◌≢◌, Bool, true, false, cond, not, ◌&&◌, List, length, drop}
use Rattle.std.proofs.Common.{ap, ◌∙◌, arith, eq-eqb, ne_eqb}
use Rattle.std.proofs.Math.Decide.{ℕ_discrete}
use Rattle.text.specs.Text.{Answer, at_end, verdict, rest_at}
use Rattle.text.specs.Laws.Accepted.{taken-answer, taken-within}

module _ (s : List ℕ) where
  abbrev begins : Answer → Bool → Bool → ℕ
  begins a b c = cond (b && not c) a.taken (length s)

  pub rest-refused : (verdict s).no ≢ 0 → rest_at s ≡ length s
  rest-refused d = ap (λ (b : Bool). begins (verdict s) b (at_end (drop (verdict s).taken s))) (ne_eqb (verdict s).no 0 d)

  module _ (z : (verdict s).no ≡ 0) where
    by_end : rest_at s ≡ begins (verdict s) true (at_end (drop (verdict s).taken s))
    by_end = ap (λ (b : Bool). begins (verdict s) b (at_end (drop (verdict s).taken s))) (eq-eqb (verdict s).no 0 z)

    pub rest-blank : at_end (drop (verdict s).taken s) ≡ true → rest_at s ≡ length s
    rest-blank q = by_end ∙ ap (begins (verdict s) true) q

    pub rest_more : at_end (drop (verdict s).taken s) ≡ false → rest_at s ≡ (verdict s).taken
    rest_more q = by_end ∙ ap (begins (verdict s) true) q

  pub rest-within : rest_at s ≤ length s
  rest-within = go (ℕ_discrete (verdict s).no 0) (at_end (drop (verdict s).taken s)) refl
    where
      go : Dec ((verdict s).no ≡ 0) → (b : Bool) → at_end (drop (verdict s).taken s) ≡ b → rest_at s ≤ length s
      go (no d) b q = omega (arith, rest-refused d)
      go (yes z) true q = omega (arith, rest-blank z q)
      go (yes z) false q = omega (arith, rest_more z q, (taken-within s (verdict s).taken (taken-answer (verdict s) z)).0)
