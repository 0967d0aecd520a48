-- Bytes turned round in their place.
use Rattle.std.specs.Prelude.{ℕ, List, ◌++◌, reverse, take, drop}

-- the first n
abbrev pub turned : ℕ → List ℕ → List ℕ
turned n xs = reverse (take n xs) ++ drop n xs
