-- The bytes of a run of numbers, and that none of them opens level 201.
use Rattle.std.specs.Prelude.{ℕ, ◌≡◌, false, List, [], ◌∷◌, ◌++◌}
use Rattle.groups.specs.Groups.{number}
use Rattle.groups.specs.Writing.{Item, too_deep}

unfoldable pub bytes_in : List Item → List ℕ
bytes_in [] = []
bytes_in (i ∷ is) = number i.value ++ bytes_in is

abbrev pub Shallow : List Item → Type 0
Shallow [] = Unit {0}
Shallow (i ∷ is) = (too_deep i ≡ false) × Shallow is
