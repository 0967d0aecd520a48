-- One turn of the walk through a list, as the code makes it: the end of a list, an atom's number, or a list's; and
-- where the walk then stands.
use Rattle.std.specs.Prelude.{ℕ, ◌+◌, ◌*◌, ◌≤◌, ◌<◌, ◌≡◌, ◌≢◌, cond, List, [], ◌∷◌, eqb, length}
use Rattle.groups.specs.Groups.{number, atom_number}
use Rattle.groups.specs.Writing.{Item, item}
use Rattle.pool.specs.Operations.{span}
use Rattle.pool.specs.Pool.{Cell, kind_of, elem_of}
use Rattle.pool.specs.Laws.Level.{Left}
use Rattle.table.specs.declared.Shape.{Shape}
use Rattle.table.specs.View.{IsCell}
use Rattle.text.specs.Limits.{levels, text_most}
use Rattle.walks.specs.declared.walk.Walk.{Walk}
use Rattle.walks.specs.Steps.{shut_at, pass_at, open_at, kept_at}

-- the elements of the list at x, and its number
abbrev pub elements_at : List Cell → ℕ → ℕ
elements_at cs x = span (length cs) cs x

abbrev pub list_number_at : List Cell → ℕ → ℕ
list_number_at cs x = 2 * elements_at cs x + 1

-- the number of the element of the cell x: an atom's, and a list's
abbrev pub atom_in : List Cell → ℕ → ℕ
atom_in cs x = atom_number (elem_of cs x)

abbrev pub list_in : List Cell → ℕ → ℕ
list_in cs x = list_number_at cs (elem_of cs x)

-- 1 for a turn on the outermost level
abbrev pub bottom : Walk → ℕ
bottom w = cond (eqb w.depth 1) 1 0

-- where the number v ends that begins at a place of the walk
abbrev pub ending : Walk → ℕ → ℕ
ending w v = w.size + length (number v)

-- a turn from w to r, by its numbers: one at most
pub data Turn (cs : List Cell) (after : List ℕ) (w : Walk) (next : List ℕ) (r : Walk) : List Item → Type 0 where
  shuts : w.at ≡ 0 → r ≡ shut_at after w → next ≡ after → Turn cs after w next r []
  passes : w.at ≢ 0 → kind_of cs w.at ≡ 0 → r ≡ pass_at cs w (ending w (atom_in cs w.at)) → next ≡ after
      → Turn cs after w next r (item (atom_in cs w.at) w.depth ∷ [])
  opens : w.at ≢ 0 → kind_of cs w.at ≢ 0 → r ≡ open_at cs w (ending w (list_in cs w.at))
      → next ≡ kept_at cs after w → Turn cs after w next r (item (list_in cs w.at) w.depth ∷ [])

abbrev pub Turns : List Cell → List ℕ → Walk → List ℕ → Walk → Type 0
Turns cs after w next r = (is : List Item) × Turn cs after w next r is

-- what a turn asks
pub record MayTurn (s : Shape) (cs : List Cell) (w : Walk) : Type 0 where
  pub some : 1 ≤ w.depth
  pub low : w.depth ≤ levels
  pub short : w.size ≤ text_most
  pub cell : w.at ≢ 0 → IsCell s w.at
  pub room : w.at ≢ 0 → kind_of cs w.at ≢ 0 → w.depth < levels
  pub list : w.at ≢ 0 → kind_of cs w.at ≢ 0 → Left cs (elem_of cs w.at)
