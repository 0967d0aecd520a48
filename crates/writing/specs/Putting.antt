-- Where the writing of a text stands: as many of its characters as the walk has passed are in their places.
use Rattle.std.specs.Prelude.{ℕ, ◌≡◌, List, length, take, drop}
use Rattle.pool.specs.Pool.{Cell}
use Rattle.walks.specs.declared.walk.Walk.{Walk}
use Rattle.writing.specs.Walking.{Walking}

pub record Putting (cs : List Cell) (t old : List ℕ) (end : ℕ) (out after : List ℕ) (w : Walk) : Type 0 where
  pub walks : Walking cs t end after w
  pub front : take w.size out ≡ take w.size t
  pub behind : drop end out ≡ drop end old
  pub room : length out ≡ length old
