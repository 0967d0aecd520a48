-- Writing groups as it is judged: the output that may be used, and the earliest of DEEP and OUTPUT over the numbers of
-- a list.
use Rattle.std.specs.Prelude.{ℕ, ◌+◌, ◌-◌, ◌%◌, min, List, [], ◌∷◌, ◌++◌, Bool, cond, ◌&&◌, eqb, leb, ltb, length}
use Rattle.answers.specs.Answers.{DONE, DEEP, OUTPUT}
use Rattle.lists.specs.Lst.{Lst, nil, atom, list}
use Rattle.text.specs.Limits.{levels, text_most}
use Rattle.groups.specs.Groups.{number, atom_number, list_number}

-- the bytes that fit into the room lent, and into a stored list
abbrev pub usable : ℕ → ℕ
usable room = min room text_most

-- a number of a list, and the levels that are open before it
pub record Item : Type 0 where
  pub value : ℕ
  pub depth : ℕ

abbrev pub item : ℕ → ℕ → Item
item v d = record { value = v; depth = d }

-- the numbers of the elements of a list on level d, in order
unfoldable pub items_at : ℕ → Lst → List Item
items_at d nil = []
items_at d (atom v l) = item (atom_number v) d ∷ items_at d l
items_at d (list e l) = item (list_number e) d ∷ (items_at (d + 1) e ++ items_at d l)

-- and those of the list
abbrev pub items : Lst → List Item
items l = item (list_number l) 0 ∷ items_at 1 l

-- a list number that opens level 201
abbrev pub too_deep : Item → Bool
too_deep i = eqb (i.value % 2) 1 && leb levels i.depth

-- the earliest of DEEP and OUTPUT, DONE where there is none: u bytes are left to use
unfoldable pub judged : ℕ → List Item → ℕ
judged u [] = DONE
judged u (i ∷ is) =
    let k = length (number i.value) in
    cond (too_deep i) DEEP (cond (ltb u k) OUTPUT (judged (u - k) is))
