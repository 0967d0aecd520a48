-- Erasing in code: the state of the loops, what a step asks and gives, and what following the successors gives.
use Rattle.std.specs.Prelude.{◌≡◌, Bool, false, ℕ, ◌+◌, ◌≤◌, eqb, length}
use Rattle.erasing.specs.declared.Erasing.{Erasing}
use Rattle.loops.specs.Loop.{choose, steps, Ends, Going}
use Rattle.pool.specs.Erase.{Dropping, total, dropped, stepped}
use Rattle.pool.specs.Laws.Held.{Held}
use Rattle.pool.specs.Pool.{Pool, count_of}
use Rattle.pool.specs.Setters.{put_free, celled}
use Rattle.pool.specs.Laws.SoundLaws.{none_aside}
use Rattle.pool.specs.Tally.{same}
use Rattle.table.specs.View.{greatest_count}
use Rattle.cells.specs.Lent.{Lent, Kept}

unfoldable pub halted : Dropping → Bool
halted w = choose (eqb w.here 0) (eqb w.waiting 0) false

-- what a step asks, where no count is over m
pub record Fine (m : ℕ) (w : Dropping) : Type 0 where
  pub here_high : w.here ≤ length w.cells
  pub waiting_high : w.waiting ≤ length w.cells
  pub free_high : w.free ≤ length w.cells
  pub few : w.freed ≤ length w.cells
  pub counted : 1 ≤ w.here → 1 ≤ count_of w.cells w.here
  pub small : count_of w.cells w.here ≤ m

abbrev pub state : Lent → Erasing → Dropping
state v e = record { free = v.pool.free; cells = v.pool.cells; here = e.here; waiting = e.waiting; freed = e.freed }

-- u is v but for cells and free chain, and u and e stand for w
pub record Does (v u : Lent) (e : Erasing) (w : Dropping) : Type 0 where
  pub kept : Kept v u
  pub is : state u e ≡ w

-- from v and e erasing ends, and each step finds what it asks
pub record ErasingEnds (v : Lent) (e : Erasing) : Type 0 where
  pub turns : ℕ
  pub ends : Ends halted stepped (Fine (greatest_count v.shape)) turns (state v e)

-- v is on the way from w: what holds of erasing from w holds of erasing from v, and no more steps are left
pub record Later (w v : Dropping) : Type 0 where
  pub on : (m k : ℕ) (w₀ : Dropping) → Going halted stepped (Fine m) k w₀ w → Going halted stepped (Fine m) k w₀ v
  pub fewer : (m k : ℕ) (w₀ : Dropping) → Going halted stepped (Fine m) k w₀ w
      → steps halted stepped k v ≤ steps halted stepped k w

-- u and f are where erasing from v and e comes to an end
pub record AtAnEnd (v : Lent) (e : Erasing) (u : Lent) (f : Erasing) : Type 0 where
  pub kept : Kept v u
  pub end : f.here ≡ 0
  pub later : Later (state v e) (state u f)

-- the arrow to x is still to be dropped
abbrev pub dropping_at : Pool → ℕ → Dropping
dropping_at p x = record { free = p.free; cells = p.cells; here = x; waiting = 0; freed = 0 }

-- enough turns
abbrev pub most : Pool → ℕ
most p = total p.cells + total p.cells

-- x is one of the roots, and no count is over m
pub record Rooted (m : ℕ) (p : Pool) (x : ℕ) : Type 0 where
  pub rest : ℕ → ℕ
  pub held : Held p.free p.cells (λ c. same x c + rest c) none_aside
  pub counts : (c : ℕ) → count_of p.cells c ≤ m

-- the pool with one root at x less
abbrev pub less : Pool → ℕ → Pool
less p x = let z = dropped p.free p.cells x in put_free z.free (celled z.cells p)
