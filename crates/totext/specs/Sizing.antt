-- The numbers of a list in their order, and the characters that each brings to the list's text.
use Rattle.std.specs.Prelude.{ℕ, ◌+◌, ◌/◌, ◌%◌, ◌<◌, List, [], ◌∷◌, ◌++◌, cond, eqb, length}
use Rattle.lists.specs.Lst.{Lst, nil, atom, list}
use Rattle.groups.specs.Groups.{numbers_end, number, atom_number, list_number}
use Rattle.octal.specs.Numeral.{numeral}

-- the numbers of the elements, and those of the list
unfoldable pub inside : Lst → List ℕ
inside nil = []
inside (atom v l) = atom_number v ∷ inside l
inside (list e l) = list_number e ∷ (inside e ++ inside l)

abbrev pub numbers_of : Lst → List ℕ
numbers_of l = list_number l ∷ inside l

-- their groups
abbrev pub groups_of_all : List ℕ → List ℕ
groups_of_all [] = []
groups_of_all (v ∷ vs) = number v ++ groups_of_all vs

abbrev pub Below : List ℕ → Type 0
Below [] = Unit {0}
Below (v ∷ vs) = (v < numbers_end) × Below vs

-- an atom has its digits, a list "(", and a null list ")" too; behind each stands "," or the ")" of the list around it
abbrev pub chars : ℕ → ℕ
chars v = cond (eqb (v % 2) 0) (length (numeral (v / 2)) + 1) (cond (eqb v 1) 3 2)

abbrev pub chars_most : ℕ
chars_most = 12

unfoldable pub chars_of_all : List ℕ → ℕ
chars_of_all [] = 0
chars_of_all (v ∷ vs) = chars v + chars_of_all vs
