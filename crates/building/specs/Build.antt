-- Reading cell by cell, as the code does it: a new cell's fields are known when its element begins, but for the
-- successor of a list, which is stored when the list has ended. What is still to be read is the rest of each open list,
-- innermost first.
use Rattle.std.specs.Prelude.{List, [], ◌∷◌, ℕ, ◌+◌, set}
use Rattle.lists.specs.Lst.{Lst, nil, atom, list, extent}
use Rattle.pool.specs.Operations.{load}
use Rattle.pool.specs.Pool.{Cell, put, kind_of, count_of, next_of, set_next}
use Rattle.pool.specs.Setters.{cell}

-- where a list goes on: null, or the next free cell
abbrev pub link : Lst → ℕ → ℕ
link nil f = 0
link (atom v l) f = f
link (list e l) f = f

-- a list that is open: its cell, and what follows it
pub record Open : Type 0 where
  pub cell : ℕ
  pub rest : Lst

-- the first free cell, and the cells
pub record Built : Type 0 where
  pub free : ℕ
  pub cells : List Cell

abbrev pub built : ℕ → List Cell → Lst → Built
built f cs l = record { free = (load l f cs).free; cells = (load l f cs).cells }

-- the innermost list is read: its cell gets its successor, and the list around it goes on
abbrev pub linked : Built → Open → List Cell
linked b o = set_next b.cells o.cell (link o.rest b.free)

unfoldable pub finished : Built → List Open → Built
finished b [] = b
finished b (o ∷ os) = finished (built b.free (linked b o) o.rest) os

-- what will be there when all is read: l is the rest of the innermost list
abbrev pub completed : ℕ → List Cell → Lst → List Open → Built
completed f cs l os = finished (built f cs l) os

-- the cells that are still to be taken
unfoldable pub wanted : Lst → List Open → ℕ
wanted l [] = extent l
wanted l (o ∷ os) = extent l + wanted o.rest os

-- where the next cell is to be named: by the holder, by the cell before it, or by the cell whose element it begins
pub data Link : Type 0 where
  in_holder : Link
  in_next : ℕ → Link
  in_elem : ℕ → Link

-- the element of a cell replaced
abbrev pub set_elem : List Cell → ℕ → ℕ → List Cell
set_elem cs c e = put cs c (cell (kind_of cs c) e (count_of cs c) (next_of cs c))

-- the cells, and the holders, with c named there
abbrev pub hung : Link → ℕ → List Cell → List Cell
hung in_holder c cs = cs
hung (in_next x) c cs = set_next cs x c
hung (in_elem x) c cs = set_elem cs x c

abbrev pub held_by : Link → ℕ → ℕ → List ℕ → List ℕ
held_by in_holder h c hs = set hs h c
held_by (in_next x) h c hs = hs
held_by (in_elem x) h c hs = hs
