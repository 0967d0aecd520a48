-- What the number at a place says of the bytes from there on.
use Rattle.std.specs.Prelude.{ℕ, ◌-◌, ◌<◌, ◌≤◌, ◌≡◌, List, ◌∷◌, length, drop}
use Rattle.groups.specs.Groups.{numbers_end}
use Rattle.groups.specs.Reading.{Token, num, tokens}

-- the number v takes the bytes from i up to j
pub record Numbered (s : List ℕ) (i v j : ℕ) : Type 0 where
  pub on : i < j
  pub within : j ≤ length s
  pub small : v < numbers_end
  pub is : tokens (drop i s) ≡ num v (j - i) ∷ tokens (drop j s)

-- no number comes first
abbrev pub Unnumbered : List Token → Type 0
Unnumbered ts = (v k : ℕ) (us : List Token) → ts ≡ num v k ∷ us → ⊥
