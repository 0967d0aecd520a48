-- Counting: equality of numbers as 0 or 1, sums over a list, and how many numbers have a property.
use Rattle.std.specs.Prelude.{cond, List, [], ◌∷◌, ℕ, suc, ◌+◌, eqb}

-- 1 if the two are equal, else 0
unfoldable pub same : ℕ → ℕ → ℕ
same a b = cond (eqb a b) 1 0

-- the sum of f over the list
module _ {A : Type 0} where
  unfoldable pub tally : (A → ℕ) → List A → ℕ
  tally f [] = 0
  tally f (x ∷ xs) = f x + tally f xs

-- how often c stands in the list
abbrev pub occ : List ℕ → ℕ → ℕ
occ hs c = tally (λ h. same h c) hs

-- of the numbers 1 to k, n have the property P
pub data Number (P : ℕ → Type 0) : ℕ → ℕ → Type 0 where
  start : Number P 0 0
  hit : {k n : ℕ} → P (suc k) → Number P k n → Number P (suc k) (suc n)
  miss : {k n : ℕ} → (P (suc k) → ⊥) → Number P k n → Number P (suc k) n
