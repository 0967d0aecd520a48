-- Erasing by the report's steps: one arrow dropped, the waiting chain, and the cells freed.
use Rattle.std.specs.Prelude.{List, ℕ, zero, suc, ◌+◌, ◌-◌}
use Rattle.pool.specs.Tally.{tally}
use Rattle.pool.specs.Pool.{Cell, kind_of, elem_of, count_of, next_of, set_count, set_next}

-- the state of the loop: first free cell, cells, x, head of the waiting chain, cells freed so far
pub record Dropping : Type 0 where
  pub free : ℕ
  pub cells : List Cell
  pub here : ℕ
  pub waiting : ℕ
  pub freed : ℕ

-- what is done at cell x, by its count less one and its type
unfoldable pub visit : ℕ → List Cell → ℕ → ℕ → ℕ → ℕ → ℕ → Dropping
visit f cs x b n (suc k) t = record { free = f; cells = set_count cs x (suc k); here = 0; waiting = b; freed = n }
visit f cs x b n zero zero =
    record { free = x; cells = set_next (set_count cs x 0) x f; here = next_of cs x; waiting = b; freed = suc n }
visit f cs x b n zero (suc t) =
    record { free = f; cells = set_next (set_count cs x 0) x b; here = next_of cs x; waiting = x; freed = n }

unfoldable pub step : ℕ → List Cell → ℕ → ℕ → ℕ → Dropping
step f cs zero zero n = record { free = f; cells = cs; here = 0; waiting = 0; freed = n }
step f cs zero (suc j) n =
    let x = suc j in
    record { free = x; cells = set_next cs x f; here = elem_of cs x; waiting = next_of cs x; freed = suc n }
step f cs (suc i) b n = visit f cs (suc i) b n (count_of cs (suc i) - 1) (kind_of cs (suc i))

abbrev pub stepped : Dropping → Dropping
stepped s = step s.free s.cells s.here s.waiting s.freed

unfoldable pub dropping : ℕ → Dropping → Dropping
dropping zero s = s
dropping (suc k) s = dropping k (stepped s)

-- twice the sum of the counts is enough
unfoldable pub total : List Cell → ℕ
total cs = tally (λ x. x.count) cs

unfoldable pub dropped : ℕ → List Cell → ℕ → Dropping
dropped f cs x = dropping (total cs + total cs) (record { free = f; cells = cs; here = x; waiting = 0; freed = 0 })
