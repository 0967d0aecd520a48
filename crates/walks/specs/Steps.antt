-- One step of a walk along the cells: a list has ended, an atom is passed, a list is opened; and what is kept for later.
use Rattle.std.specs.Prelude.{ℕ, ◌+◌, ◌-◌, ◌≡◌, List, get_or, set}
use Rattle.pool.specs.Pool.{Cell, elem_of, next_of}
use Rattle.walks.specs.declared.walk.Walk.{Walk}

abbrev pub walk : ℕ → ℕ → ℕ → Walk
walk x d k = record { at = x; depth = d; size = k }

abbrev pub shut_at : List ℕ → Walk → Walk
shut_at after w = walk (get_or after (w.depth - 1) 0) (w.depth - 1) w.size

-- past an atom that ends at `end`, and into a list whose beginning ends there
abbrev pub pass_at : List Cell → Walk → ℕ → Walk
pass_at cs w end = walk (next_of cs w.at) w.depth end

abbrev pub open_at : List Cell → Walk → ℕ → Walk
open_at cs w end = walk (elem_of cs w.at) (w.depth + 1) end

-- the cell with which the level goes on is kept
abbrev pub kept_at : List Cell → List ℕ → Walk → List ℕ
kept_at cs after w = set after w.depth (next_of cs w.at)

abbrev pub Opened : List Cell → List ℕ → Walk → ℕ → List ℕ → Walk → Type 0
Opened cs after w end next r = (r ≡ open_at cs w end) × (next ≡ kept_at cs after w)
