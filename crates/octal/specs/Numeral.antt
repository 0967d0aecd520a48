-- The digits of an atom, shut (written out, the definition fills pages), the last digits of a number, and the number
-- without them.
use Rattle.std.specs.Prelude.{ℕ, zero, suc, ◌+◌, ◌/◌, ◌%◌, List, [], ◌∷◌, ◌++◌}
use Rattle.text.specs.ListText.{octal}

unfoldable pub numeral : ℕ → List ℕ
numeral v = octal v

unfoldable pub last_digits : ℕ → ℕ → List ℕ
last_digits zero w = []
last_digits (suc n) w = last_digits n (w / 8) ++ ((48 + w % 8) ∷ [])

abbrev pub cut : ℕ → ℕ → ℕ
cut zero v = v
cut (suc n) v = cut n (v / 8)
