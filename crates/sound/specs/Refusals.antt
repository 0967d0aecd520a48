-- The check run on small pools: what it takes, and each thing that it refuses, as one table.
use Rattle.std.specs.Prelude.{◌≡◌, refl, true, false, List, [], ◌∷◌, ℕ}
use Rattle.pool.specs.Tally.{same, tally}
use Rattle.pool.specs.Pool.{Cell, Pool, mark, frees}
use Rattle.pool.specs.Operations.{laid, fresh}
use Rattle.pool.specs.Check.{lowered, meet, arrow, pop, popped, turns, named, chained, peeled?, check}

-- type, element, count, successor
abbrev cell : ℕ → ℕ → ℕ → ℕ → Cell
cell t e r s = record { kind = t; elem = e; count = r; next = s }

-- first free cell, holders, cells
abbrev pool : ℕ → List ℕ → List Cell → Pool
pool f hs cs = record { free = f; holders = hs; cells = cs }

abbrev Takes : Pool → Type 0
Takes p = check p ≡ true

abbrev Refuses : Pool → Type 0
Refuses p = check p ≡ false

pub refusals :
    -- just set up; a list shared by a holder's element, its tail and another tail; a free cell may have any type
    Takes (fresh 3 2)
    × Takes (pool 4 (1 ∷ 2 ∷ []) (cell 1 3 1 3 ∷ cell 0 5 1 3 ∷ cell 0 7 3 0 ∷ cell 0 9 0 0 ∷ []))
    × Takes (pool 1 (0 ∷ []) (cell 2 7 0 0 ∷ []))
    -- a ring that no holder reaches, though every count is right; a cell that is its own element
    × Refuses (pool 0 (0 ∷ []) (cell 0 7 1 2 ∷ cell 0 8 1 1 ∷ []))
    × Refuses (pool 0 (1 ∷ []) (cell 1 1 2 0 ∷ []))
    -- the free chain loops, stops early, runs into a live cell
    × Refuses (pool 1 (0 ∷ []) (cell 0 7 0 2 ∷ cell 0 8 0 1 ∷ []))
    × Refuses (pool 1 (0 ∷ []) (cell 0 7 0 0 ∷ cell 0 8 0 0 ∷ []))
    × Refuses (pool 1 (2 ∷ []) (cell 0 7 0 2 ∷ cell 0 8 1 0 ∷ []))
    -- a count too large, too small
    × Refuses (pool 0 (1 ∷ 1 ∷ []) (cell 0 7 3 0 ∷ []))
    × Refuses (pool 0 (1 ∷ 1 ∷ []) (cell 0 7 1 0 ∷ []))
    -- a live cell of type 2
    × Refuses (pool 0 (1 ∷ []) (cell 2 0 1 0 ∷ []))
    -- a holder, a successor, an element out of range
    × Refuses (pool 0 (1 ∷ 2 ∷ []) (cell 0 7 1 0 ∷ []))
    × Refuses (pool 0 (1 ∷ 0 ∷ []) (cell 0 7 1 2 ∷ []))
    × Refuses (pool 0 (1 ∷ 0 ∷ []) (cell 1 2 1 0 ∷ []))
    -- and to a free cell
    × Refuses (pool 2 (1 ∷ 2 ∷ []) (cell 0 7 1 0 ∷ cell 0 8 0 0 ∷ []))
    × Refuses (pool 2 (1 ∷ 0 ∷ []) (cell 0 7 1 2 ∷ cell 0 8 0 0 ∷ []))
    × Refuses (pool 2 (1 ∷ 0 ∷ []) (cell 1 2 1 0 ∷ cell 0 8 0 0 ∷ []))
unfolding check chained frees mark peeled? turns popped pop named meet lowered arrow same tally fresh laid
refusals = (refl, refl, refl, refl, refl, refl, refl, refl, refl, refl, refl, refl, refl, refl, refl, refl, refl)
