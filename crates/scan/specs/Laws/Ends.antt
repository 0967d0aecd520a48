-- The marks of lists that end, one after another: they begin no element. By induction on their number.
use Rattle.std.specs.Prelude.{ℕ, zero, suc, ◌+◌, ◌≡◌, refl, List, ◌∷◌, ◌++◌}
use Rattle.std.proofs.Common.{ap, ◌∙◌, arith}
use Rattle.text.specs.Marks.{Mark, beginnings, shut}
use Rattle.scan.specs.Places.{shuts}

pub beginnings-shuts : (n : ℕ) → beginnings (shuts n) ≡ 0
beginnings-shuts zero = refl
beginnings-shuts (suc n) = beginnings-shuts n

pub shuts-append : (n m : ℕ) → shuts n ++ shuts m ≡ shuts (n + m)
shuts-append zero m = let z : m ≡ 0 + m = omega arith in ap shuts z
shuts-append (suc n) m =
    let z : suc (n + m) ≡ suc n + m = omega arith in
    ap (λ (ms : List Mark). shut ∷ ms) (shuts-append n m) ∙ ap shuts z
