-- The groups that end a number, counted: the bytes below 128. A run of numbers has one for each number.
use Rattle.std.specs.Prelude.{ℕ, suc, List, [], ◌∷◌, cond, ltb}

unfoldable pub last_groups : List ℕ → ℕ
last_groups [] = 0
last_groups (b ∷ bs) = cond (ltb b 128) (suc (last_groups bs)) (last_groups bs)
