-- CINV in code: where its loop stands, one turn, and what a turn asks.
use Rattle.std.specs.Prelude.{◌≢◌, Bool, List, ℕ, ◌+◌, ◌*◌, ◌≤◌, ◌<◌, eqb, length}
use Rattle.loops.specs.Loop.{Ends}
use Rattle.pool.specs.Operations.{share, item, Made, with_twin, copy}
use Rattle.pool.specs.Pool.{Cell, Pool, kind_of, count_of, next_of, InPool}
use Rattle.pool.specs.Setters.{put_free, celled}

-- the cells, the head of the free chain, the first still to copy, and the first of the copy
pub record Copying : Type 0 where
  pub cells : List Cell
  pub free : ℕ
  pub left : ℕ
  pub head : ℕ

abbrev pub copying : List Cell → ℕ → ℕ → ℕ → Copying
copying cs f x y = record { cells = cs; free = f; left = x; head = y }

abbrev pub over : Copying → Bool
over w = eqb w.left 0

unfoldable pub moved : Copying → Copying
moved w =
    copying (with_twin w.free w.cells w.left w.head)
    (next_of (share w.cells (item w.cells w.left)) w.free) (next_of w.cells w.left) w.free

-- what the loop has made
abbrev pub told : Copying → Made
told w = record { free = w.free; cells = w.cells; head = w.head }

-- free cell f can become the copy of cell x before y, where there are m holders
pub record Copyable (m : ℕ) (cs : List Cell) (f x y : ℕ) : Type 0 where
  pub here : InPool cs x
  pub free : InPool cs f
  pub next : y ≤ length cs
  pub kind : kind_of cs x ≤ 1
  pub elem : item cs x ≤ length cs
  pub more : item cs x ≢ 0 → count_of cs (item cs x) < 2 * length cs + m

abbrev pub Sure : ℕ → Copying → Type 0
Sure m w = Copyable m w.cells w.free w.left w.head

-- the copy of the main level from x, and the pool with it
abbrev pub made : Pool → ℕ → Made
made p x = copy (length p.cells) p.free p.cells x 0

abbrev pub placed : Made → Pool → Pool
placed z p = put_free z.free (celled z.cells p)

-- the loop ends, and what it leaves as the free chain is in range
pub record Copies (m : ℕ) (p : Pool) (x : ℕ) : Type 0 where
  pub ends : Ends over moved (Sure m) (length p.cells) (copying p.cells p.free x 0)
  pub top : (made p x).free ≤ length (made p x).cells
