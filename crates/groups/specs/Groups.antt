-- The groups of a list: numbers in groups of seven bits, the low group first, with the top bit on all but the last. An
-- atom v is the number 2v, a list of n elements the number 2n + 1 and then its elements.
use Rattle.std.specs.Prelude.{ℕ, zero, suc, ◌+◌, ◌*◌, ◌/◌, ◌%◌, ◌<◌, List, [], ◌∷◌, ◌++◌, cond, ltb}
use Rattle.lists.specs.Lst.{Lst, nil, atom, list, len}

-- numbers lie below 2^33
abbrev pub numbers_end : ℕ
numbers_end = 8589934592

-- the groups of a number, at most f + 1 of them
unfoldable pub groups_f : ℕ → ℕ → List ℕ
groups_f zero v = v ∷ []
groups_f (suc f) v = cond (ltb v 128) (v ∷ []) ((128 + v % 128) ∷ groups_f f (v / 128))

-- five hold every number below 2^33
abbrev pub groups_most : ℕ
groups_most = 5

unfoldable pub number : ℕ → List ℕ
number v = groups_f 4 v

abbrev pub atom_number : ℕ → ℕ
atom_number v = 2 * v

abbrev pub list_number : Lst → ℕ
list_number l = 2 * len l + 1

-- the elements of a list
unfoldable pub elements : Lst → List ℕ
elements nil = []
elements (atom v l) = number (atom_number v) ++ elements l
elements (list e l) = number (list_number e) ++ (elements e ++ elements l)

-- a list
abbrev pub groups_of : Lst → List ℕ
groups_of l = number (list_number l) ++ elements l

-- every number of the elements is below 2^33, and that of the list too
unfoldable pub Fit : Lst → Type 0
Fit nil = Unit {0}
Fit (atom v l) = (atom_number v < numbers_end) × Fit l
Fit (list e l) = (list_number e < numbers_end) × Fit e × Fit l

abbrev pub Fits : Lst → Type 0
Fits l = (list_number l < numbers_end) × Fit l
