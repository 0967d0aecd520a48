-- INV in code: where its loop stands, one turn, and what a turn asks.
use Rattle.std.specs.Prelude.{Bool, List, ℕ, ◌≤◌, eqb, length}
use Rattle.loops.specs.Loop.{Ends}
use Rattle.pool.specs.Operations.{flip}
use Rattle.pool.specs.Pool.{Cell, Pool, next_of, set_next, InPool}

-- the cells, the first still to turn, and the first of those turned
pub record Turning : Type 0 where
  pub cells : List Cell
  pub left : ℕ
  pub turned : ℕ

abbrev pub turning : List Cell → ℕ → ℕ → Turning
turning cs x y = record { cells = cs; left = x; turned = y }

abbrev pub over : Turning → Bool
over w = eqb w.left 0

unfoldable pub moved : Turning → Turning
moved w = turning (set_next w.cells w.left w.turned) (next_of w.cells w.left) w.left

pub record Sure (w : Turning) : Type 0 where
  pub here : InPool w.cells w.left
  pub back : w.turned ≤ length w.cells

-- the main level from x turned round: the cells, and its new first
abbrev pub turned : Pool → ℕ → List Cell × ℕ
turned p x = flip (length p.cells) p.cells x 0

abbrev pub Turns : Pool → ℕ → Type 0
Turns p x = Ends over moved Sure (length p.cells) (turning p.cells x 0)
