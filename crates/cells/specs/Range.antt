-- What the small steps ask and give: a head of the free chain that may be taken, and the cell that it becomes.
use Rattle.std.specs.Prelude.{◌≡◌, List, ℕ, ◌≤◌}
use Rattle.table.specs.declared.Shape.{Shape}
use Rattle.pool.specs.Pool.{Cell, Pool, next_of}
use Rattle.pool.specs.Setters.{new_cell}
use Rattle.table.specs.View.{IsCell, Shows}

-- the head of the free chain is a cell, and what follows it is in range
pub record Spare (s : Shape) (p : Pool) : Type 0 where
  pub cell : IsCell s p.free
  pub next : next_of p.cells p.free ≤ s.cells

-- r is the head of the free chain, and the words show the pool in which it has become x
abbrev pub NewCell : Shape → List ℕ → Pool → Cell → ℕ → Type 0
NewCell s ws p x r = (r ≡ p.free) × Shows s ws (new_cell r x p)
