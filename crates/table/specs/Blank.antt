-- Words that are 0 but for what tells their shape, and the pool that they show.
use Rattle.std.specs.Prelude.{ℕ, List, set, replicate}
use Rattle.pool.specs.Pool.{Pool, blank}
use Rattle.table.specs.declared.Form.{Form}
use Rattle.table.specs.declared.Form.TheVariants.{Four, Packed, Wide}

-- the number of cells stored, and that of holders where the form tells it
abbrev pub headed : Form → ℕ → ℕ → List ℕ → List ℕ
headed Four h n ws = set ws 0 n
headed Packed h n ws = set ws 0 n
headed Wide h n ws = set (set ws 0 n) 2 h

-- n cells and h holders, none of them linked
abbrev pub blank_pool : ℕ → ℕ → Pool
blank_pool n h = record { free = 0; holders = replicate h 0; cells = replicate n blank }
