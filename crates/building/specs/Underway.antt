-- Reading mark by mark, whatever stored form the marks come from: what holds between two marks, and what each of them
-- does.
use Rattle.std.specs.Prelude.{◌≡◌, List, [], ◌∷◌, ◌++◌, false, ℕ}
use Rattle.lists.specs.Lst.{Lst}
use Rattle.pool.specs.Pool.{Pool}
use Rattle.table.specs.declared.Shape.{Shape}
use Rattle.table.specs.View.{view, Table}
use Rattle.text.specs.Marks.{Mark, opened, shut, value, marks_of}
use Rattle.building.specs.Build.{Open}
use Rattle.building.specs.Hooks.{link_of, hook_cell, open_cells}
use Rattle.building.specs.Reading.{Reading}
use Rattle.building.specs.declared.hook.Hook.{Hook}

-- the marks behind the end of the innermost list, and those that are left with l still to read in it
unfoldable pub marks_after : List Open → List Mark
marks_after [] = []
marks_after (o ∷ os) = marks_of false o.rest ++ marks_after os

abbrev pub marks_left : Lst → List Open → List Mark
marks_left l os = marks_of false l ++ marks_after os

-- the marks ms are still to come, cs are the cells of the open lists, and q is the pool when all is read
pub record Underway (p : Pool) (h : ℕ) (k : Hook) (cs : List ℕ) (q : Pool) (ms : List Mark) : Type 0 where
  pub rest : Lst
  pub opens : List Open
  pub reading : Reading p h (link_of k) rest opens q
  pub cells : open_cells opens ≡ cs
  pub left : ms ≡ marks_left rest opens

-- the same where all may be read, which is so when no list is open
abbrev pub LeadsTo : Pool → ℕ → Hook → List ℕ → Pool → List Mark → Type 0
LeadsTo p h k [] q ms = (p ≡ q) × (ms ≡ [])
LeadsTo p h k (c ∷ cs) q ms = Underway p h k (c ∷ cs) q ms

-- the marks ms come next, whatever comes then
pub record Coming (p : Pool) (h : ℕ) (k : Hook) (cs : List ℕ) (ms : List Mark) : Type 0 where
  pub goal : Pool
  pub later : List Mark
  pub now : LeadsTo p h k cs goal (ms ++ later)

abbrev pub Comes : Pool → ℕ → Hook → List Mark → Type 0
Comes p h k ms = (cs : List ℕ) × Coming p h k cs ms

-- the marks ms are read: from the table ts, the hook k and the open lists cs to us, j and ds
pub record Steps (s : Shape) (h : ℕ) (ts : List ℕ) (k : Hook) (cs : List ℕ) (ms : List Mark)
    (us : List ℕ) (j : Hook) (ds : List ℕ) : Type 0 where
  pub table : Table s us
  pub leads : (q : Pool) (later : List Mark)
      → LeadsTo (view s ts) h k cs q (ms ++ later) → LeadsTo (view s us) h j ds q later

-- a list begins, and its cell is that of the new hook
abbrev pub BeginsList : Shape → ℕ → List ℕ → Hook → List ℕ → Hook → Type 0
BeginsList s h ts k us j = (cs : List ℕ) → Steps s h ts k cs (opened ∷ []) us j (hook_cell j ∷ cs)

-- an atom v
abbrev pub AddsAtom : ℕ → Shape → ℕ → List ℕ → Hook → List ℕ → Hook → Type 0
AddsAtom v s h ts k us j = (cs : List ℕ) → Steps s h ts k cs (value v ∷ []) us j cs

-- the list of the cell c ends
abbrev pub ShutsList : ℕ → Shape → ℕ → List ℕ → Hook → List ℕ → Hook → Type 0
ShutsList c s h ts k us j = (cs : List ℕ) → Steps s h ts k (c ∷ cs) (shut ∷ []) us j cs
