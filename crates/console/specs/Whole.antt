-- The input, whole, of chunks one after another.
use Rattle.std.specs.Prelude.{List, [], ◌∷◌, ◌++◌, ℕ}

unfoldable pub joined : List (List ℕ) → List ℕ
joined [] = []
joined (c ∷ cs) = c ++ joined cs
