-- Where a list opens a level, in groups: the number that begins it, and the bytes before that number.
use Rattle.std.specs.Prelude.{ℕ, ◌+◌, ◌≡◌, ◌⊎◌, length}
use Rattle.lists.specs.Lst.{Lst, nil, atom, list}
use Rattle.groups.specs.Groups.{number, atom_number, list_number, elements}

-- among the elements of a list on level d the number v opens level e, behind k bytes: it begins a list there, or inside
-- one, or behind an element
unfoldable pub Opens : ℕ → Lst → ℕ → ℕ → ℕ → Type 0
Opens d nil e k v = ⊥
Opens d (atom w l) e k v = (j : ℕ) × (k ≡ length (number (atom_number w)) + j) × Opens d l e j v
Opens d (list m l) e k v =
    ((e ≡ d + 1) × (k ≡ 0) × (v ≡ list_number m))
    ⊎ ((j : ℕ) × (k ≡ length (number (list_number m)) + j) × Opens (d + 1) m e j v)
    ⊎ ((j : ℕ) × (k ≡ length (number (list_number m)) + length (elements m) + j) × Opens d l e j v)

-- the same in a whole list
abbrev pub OpensIn : Lst → ℕ → ℕ → ℕ → Type 0
OpensIn l e k v = (j : ℕ) × (k ≡ length (number (list_number l)) + j) × Opens 1 l e j v
