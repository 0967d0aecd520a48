-- CONC in code: what the walk over a main level finds, and what joining another to it asks.
use Rattle.std.specs.Prelude.{◌≡◌, ◌≢◌, false, ℕ, length, Option, is_none, IfSome}
use Rattle.pool.specs.Operations.{last_of, shared_at}
use Rattle.pool.specs.Pool.{Pool, holder}

-- the last cell of the main level of a
abbrev pub last_cell : Pool → ℕ → ℕ
last_cell p a = last_of (length p.cells) p.cells (holder p a)

-- the last, and none exactly if a cell of it is shared
abbrev pub EndsWith : Pool → ℕ → Option ℕ → Type 0
EndsWith p a r = (is_none r ≡ shared_at p a) × IfSome r (λ z. holder p a ≢ 0 → z ≡ last_cell p a)

-- the list of b can be joined to that of a, behind z
abbrev pub Joins : Pool → ℕ → ℕ → ℕ → Type 0
Joins p a b z = holder p b ≢ 0 → (shared_at p a ≡ false) × (holder p a ≢ 0 → z ≡ last_cell p a)
