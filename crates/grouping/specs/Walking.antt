-- Where the walk through a list stands: the numbers that are still to come, from the list at hand and those with which
-- the open levels go on. A turn takes its number off the front of them.
use Rattle.std.specs.Prelude.{ℕ, suc, ◌+◌, ◌-◌, ◌*◌, ◌≤◌, ◌<◌, ◌≡◌, List, [], ◌∷◌, ◌++◌, length, drop}
use Rattle.groups.specs.Groups.{groups_of}
use Rattle.groups.specs.Writing.{Item, items_at, items, judged}
use Rattle.walks.specs.declared.walk.Walk.{Walk}
use Rattle.grouping.specs.Items.{bytes_in, Shallow}
use Rattle.grouping.specs.Steps.{bottom}
use Rattle.lists.specs.Lst.{Lst, len}
use Rattle.pool.specs.Pool.{Cell}
use Rattle.walks.specs.Levels.{Levels}

-- the numbers of the open levels, innermost first
abbrev pub rest : List Lst → List Item
rest [] = []
rest (l ∷ ls) = items_at (suc (length ls)) l ++ rest ls

-- the turns on the outermost level: one for each element, and one for its end
abbrev pub turns_below : List Lst → ℕ
turns_below [] = 0
turns_below (l ∷ []) = suc (len l)
turns_below (l ∷ (k ∷ ls)) = turns_below (k ∷ ls)

-- in the groups of the list l, of which u bytes may be written, with the levels `opened`
pub record Walking (cs : List Cell) (l : Lst) (u : ℕ) (after : List ℕ) (w : Walk) (opened : List Lst) : Type 0 where
  pub stands : Levels cs after w.at w.depth opened
  pub is : drop w.size (groups_of l) ≡ bytes_in (rest opened)
  pub within : w.size ≤ length (groups_of l)
  pub short : w.size ≤ u
  pub judges : judged u (items l) ≡ judged (u - w.size) (rest opened)

-- a turn from the levels `opened`, with its numbers `is`
pub record Turned (cs : List Cell) (opened : List Lst) (next : List ℕ) (w r : Walk) (is : List Item) : Type 0 where
  pub left : List Lst
  pub stands : Levels cs next r.at r.depth left
  pub size : r.size ≡ w.size + length (bytes_in is)
  pub numbers : rest opened ≡ is ++ rest left
  pub shallow : Shallow is
  pub below : turns_below opened ≡ bottom w + turns_below left
  -- a turn without a number ends a level, and one with a number opens one at most
  pub falls : r.depth < w.depth + 2 * length (bytes_in is)

-- measuring, with n turns made on the outermost level
pub record Measuring (cs : List Cell) (l : Lst) (u : ℕ) (after : List ℕ) (w : Walk) (n : ℕ) : Type 0 where
  pub opened : List Lst
  pub walks : Walking cs l u after w opened
  pub count : n + turns_below opened ≡ suc (len l)

-- what falls with each turn, where u bytes are those of all turns
abbrev pub to_go : ℕ → Walk → ℕ
to_go u w = 2 * (u - w.size) + w.depth
