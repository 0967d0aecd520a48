-- A text without the blanks at its end: how many bytes are left.
use Rattle.std.specs.Prelude.{cond, List, [], ◌∷◌, ℕ, zero, suc, eqb}
use Rattle.lines.specs.Numbers.{blank}

-- c before k bytes that are left
abbrev pub left_of : ℕ → ℕ → ℕ
left_of c zero = cond (eqb c blank) 0 1
left_of c (suc k) = suc (suc k)

unfoldable pub trimmed : List ℕ → ℕ
trimmed [] = 0
trimmed (c ∷ s) = left_of c (trimmed s)
