-- The two ways of a call that its tests so far refuse, or let go on.
use Rattle.std.specs.Prelude.{◌≡◌, refl, ◌≢◌, Bool, true, false, cond, ℕ, eqb}
use Rattle.std.proofs.Common.{ap, eq-eqb, ne_eqb, eqb-true}
use Rattle.std.proofs.lemmas.Bool.{eqb-false}
use Rattle.answers.specs.Answers.{DONE, unless}

module _ {X : Type 0} (n : ℕ) (refuse : ℕ → X) (go : X) where
  pub goes_on_lem : n ≡ DONE → unless n refuse go ≡ go
  goes_on_lem e = ap (λ (b : Bool). cond b go (refuse n)) (eq-eqb n DONE e)

  pub refuses : n ≢ DONE → unless n refuse go ≡ refuse n
  refuses d = ap (λ (b : Bool). cond b go (refuse n)) (ne_eqb n DONE d)

  pub both_ways : (P : X → Type 0) → (n ≢ DONE → P (refuse n)) → (n ≡ DONE → P go) → P (unless n refuse go)
  both_ways P f g = by (eqb n DONE) refl
    where
      by : (b : Bool) → eqb n DONE ≡ b → P (cond b go (refuse n))
      by true e = g (eqb-true n DONE e)
      by false e = f (eqb-false n DONE e)
