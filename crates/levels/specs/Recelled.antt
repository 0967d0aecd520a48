-- What a loop that changes only cells leaves.
use Rattle.std.specs.Prelude.{◌≡◌}
use Rattle.cells.specs.Lent.{Lent, on}
use Rattle.pool.specs.Setters.{celled}

-- u is v with other cells
pub record Recelled (v u : Lent) : Type 0 where
  pub same : u ≡ on (celled u.pool.cells) v
