-- What a walk meets at the cell x, or at null.
use Rattle.std.specs.Prelude.{ℕ, ◌≡◌, ◌≢◌, List}
use Rattle.pool.specs.Pool.{Cell, kind_of, elem_of}
use Rattle.walks.specs.declared.met.Met.{Met}
use Rattle.walks.specs.declared.met.Met.TheVariants as met

abbrev pub Meets : List Cell → ℕ → Met → Type 0
Meets cs x met.End = x ≡ 0
Meets cs x (met.Atom v) = (x ≢ 0) × (kind_of cs x ≡ 0) × (v ≡ elem_of cs x)
Meets cs x (met.List e) = (x ≢ 0) × (kind_of cs x ≢ 0) × (e ≡ elem_of cs x)
