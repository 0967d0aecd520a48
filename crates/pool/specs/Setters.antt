-- One part of a pool replaced, and the rest as it is. The operations are written with these, so that they alone know
-- what parts a pool has.
use Rattle.std.specs.Prelude.{List, ℕ, set}
use Rattle.pool.specs.Pool.{Cell, Pool, put, next_of, set_count, set_next}

abbrev pub put_free : ℕ → Pool → Pool
put_free f p = record { free = f; holders = p.holders; cells = p.cells }

abbrev pub put_holder : ℕ → ℕ → Pool → Pool
put_holder h c p = record { free = p.free; holders = set p.holders h c; cells = p.cells }

-- other cells
abbrev pub celled : List Cell → Pool → Pool
celled cs p = record { free = p.free; holders = p.holders; cells = cs }

-- one cell, its count, its successor
abbrev pub put_cell : ℕ → Cell → Pool → Pool
put_cell c x p = celled (put p.cells c x) p

abbrev pub put_count : ℕ → ℕ → Pool → Pool
put_count c k p = celled (set_count p.cells c k) p

abbrev pub put_next : ℕ → ℕ → Pool → Pool
put_next c s p = celled (set_next p.cells c s) p

-- a cell by type, element, count and successor
abbrev pub cell : ℕ → ℕ → ℕ → ℕ → Cell
cell k e n s = record { kind = k; elem = e; count = n; next = s }

-- a new cell comes from the head of the free chain, and becomes x
abbrev pub new_cell : ℕ → Cell → Pool → Pool
new_cell c x p = put_cell c x (put_free (next_of p.cells c) p)

-- a cell freed goes to the head of the free chain
abbrev pub release : ℕ → Pool → Pool
release c p = put_free c (put_next c p.free p)
