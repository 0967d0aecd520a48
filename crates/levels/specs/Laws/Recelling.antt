-- Cells changed again.
use Rattle.std.specs.Prelude.{List}
use Rattle.std.proofs.Common.{ap}
use Rattle.cells.specs.Lent.{Lent, on}
use Rattle.pool.specs.Pool.{Cell}
use Rattle.pool.specs.Setters.{celled}
use Rattle.levels.specs.Recelled.{Recelled}

pub recelled : {v u : Lent} (cs : List Cell) → Recelled v u → Recelled v (on (celled cs) u)
recelled cs r = record { same = ap (on (celled cs)) r.same }
