-- What a lent pool is to a contract: the words' name, by which the lender knows them again, the shape, and the pool.
use Rattle.std.specs.Prelude.{◌≡◌, ◌≤◌, ℕ, List, length}
use base.Fml.{GName}
use Rattle.table.specs.declared.Shape.{Shape}
use Rattle.pool.specs.Pool.{Pool}
use Rattle.pool.specs.Setters.{put_free, celled}
use Rattle.table.specs.View.{holder_count, view}

pub record Lent : Type 0 where
  pub name : GName
  pub shape : Shape
  pub pool : Pool

-- words of that name and shape
abbrev pub lent : GName → Shape → List ℕ → Lent
lent n s ws = record { name = n; shape = s; pool = view s ws }

-- the same words, and another pool in them
abbrev pub on : (Pool → Pool) → Lent → Lent
on f v = record { name = v.name; shape = v.shape; pool = f v.pool }

-- the pool has as many cells and holders as the shape, and a table has room for them
pub record Sized (v : Lent) : Type 0 where
  pub few : v.shape.cells ≤ 8000
  pub wide : v.shape.holders ≤ 256
  pub measured : length v.pool.cells ≡ v.shape.cells
  pub held : length v.pool.holders ≡ holder_count v.shape

-- u is v with other cells and another first free cell
pub record Kept (v u : Lent) : Type 0 where
  pub same : u ≡ on (λ p. put_free u.pool.free (celled u.pool.cells p)) v
