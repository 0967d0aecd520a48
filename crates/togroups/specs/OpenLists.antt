-- The lists that are open at a place of a text, innermost first: their elements in groups, and how they lie within the
-- whole list.
use Rattle.std.specs.Prelude.{ℕ, ◌+◌, ◌<◌, ◌≤◌, List, [], ◌∷◌, ◌++◌, length}
use Rattle.groups.specs.Groups.{elements}
use Rattle.lists.specs.Lst.{Lst, order, Atoms}
use Rattle.text.specs.Limits.{levels, atoms_end}
use Rattle.text.specs.Marks.{Mark, opened, shut, value}

abbrev pub groups_in : List Lst → List ℕ
groups_in [] = []
groups_in (l ∷ ls) = elements l ++ groups_in ls

-- none goes below the last level
abbrev pub Shallow : List Lst → Type 0
Shallow [] = Unit {0}
Shallow (l ∷ ls) = (length ls + order l ≤ levels) × Shallow ls

abbrev pub AllAtoms : List Lst → Type 0
AllAtoms [] = Unit {0}
AllAtoms (l ∷ ls) = Atoms l × AllAtoms ls

-- parts of the list l
pub record Within (l : Lst) (ls : List Lst) : Type 0 where
  pub shallow : Shallow ls
  pub atoms : AllAtoms ls
  pub small : length (groups_in ls) ≤ length (elements l)

-- what a mark before them asks of the lists that are open
abbrev pub Pushable : Mark → List Lst → Type 0
Pushable shut ls = Unit {0}
Pushable (value v) ls = (v < atoms_end) × (1 ≤ length ls)
Pushable opened ls = 2 ≤ length ls
