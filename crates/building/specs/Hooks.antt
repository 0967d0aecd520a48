-- Where the code keeps the link: a hook, at which a cell is hung. And the cells of the lists that are open.
use Rattle.std.specs.Prelude.{◌≡◌, cond, List, [], ◌∷◌, ℕ, ◌≤◌, eqb}
use Rattle.cells.specs.Range.{Spare}
use Rattle.table.specs.declared.Shape.{Shape}
use Rattle.table.specs.View.{view, IsCell, Shows}
use Rattle.building.specs.Build.{Open, Link, in_holder, in_next, in_elem}
use Rattle.building.specs.Reading.{hang, hang_new}
use Rattle.building.specs.declared.hook.Hook.{Hook}
use Rattle.building.specs.declared.hook.Hook.TheVariants.{Next, Elem}

-- cell 0 stands for the holder; else `inside` 0 is the successor of the cell, and any other its element
abbrev pub link_at : ℕ → ℕ → Link
link_at cell inside = cond (eqb cell 0) in_holder (cond (eqb inside 0) (in_next cell) (in_elem cell))

abbrev pub link_of : Hook → Link
link_of (Next c) = cond (eqb c 0) in_holder (in_next c)
link_of (Elem c) = in_elem c

-- the holder's, for which the successor of cell 0 stands
abbrev pub hook_holder : Hook
hook_holder = Next 0

abbrev pub hook_cell : Hook → ℕ
hook_cell (Next c) = c
hook_cell (Elem c) = c

-- it is in the table
abbrev pub InTable : Shape → Hook → Type 0
InTable s (Next c) = c ≤ s.cells
InTable s (Elem c) = IsCell s c

-- the cells of the open lists, innermost first; the outermost list has none, and 0 stands for it
unfoldable pub open_cells : List Open → List ℕ
open_cells [] = 0 ∷ []
open_cells (o ∷ os) = o.cell ∷ open_cells os

-- what a new cell at the hook asks, and what it does
pub record Hangs (s : Shape) (h : ℕ) (ts : List ℕ) (k : Hook) : Type 0 where
  pub hook : InTable s k
  pub spare : Spare s (hang (link_of k) h (view s ts).free (view s ts))

pub record Hung (s : Shape) (h : ℕ) (ts : List ℕ) (k : Hook) (kind elem : ℕ) (us : List ℕ) (c : ℕ) : Type 0 where
  pub cell : c ≡ (view s ts).free
  pub shows : Shows s us (hang_new kind elem (link_of k) h (view s ts))
