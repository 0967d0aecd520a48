-- What an operation asks that uses one holder of a lent pool, and two. Any lent pool is `Sized`, and `sizes` says so.
use Rattle.std.specs.Prelude.{◌≢◌, ℕ, ◌<◌}
use Rattle.pool.specs.Pool.{Sound}
use Rattle.table.specs.View.{holder_count}
use Rattle.cells.specs.Lent.{Lent, Sized}

pub record OnOne (v : Lent) (a : ℕ) : Type 0 where
  pub sized : Sized v
  pub a_bound : a < holder_count v.shape
  pub sound : Sound v.pool

pub record OnTwo (v : Lent) (a b : ℕ) : Type 0 where
  pub sized : Sized v
  pub a_bound : (a < holder_count v.shape) × (b < holder_count v.shape) × (a ≢ b)
  pub sound : Sound v.pool
