-- Erasing as a relation, in document 01's words: one constructor for each thing that a step can find. The waiting chain
-- is a list of cells, the last to come first.
use Rattle.std.specs.Prelude.{◌≡◌, List, [], ◌∷◌, ℕ, suc, ◌-◌, ◌<◌}
use Rattle.pool.specs.Pool.{Cell, put, kind_of, elem_of, count_of, next_of, set_count}

-- the cells with x at the head of a chain by S that began with h, its count 0; T and E are kept
abbrev pub at_head : List Cell → ℕ → ℕ → List Cell
at_head cs x h = put cs x (record { kind = kind_of cs x; elem = elem_of cs x; count = 0; next = h })

-- the first of the cells that wait, 0 where none does
abbrev pub first_of : List ℕ → ℕ
first_of [] = 0
first_of (w ∷ ws) = w

-- from the free chain at f, the cells cs, x at hand (0 for an end) and the cells ws waiting, erasing comes to the free
-- chain at g and the cells ds, and frees n cells
pub data Erased (g : ℕ) (ds : List Cell) : ℕ → List Cell → ℕ → List ℕ → ℕ → Type 0 where
  -- one off the count of x, and it is still positive: stop that way
  shared : {f : ℕ} {cs : List Cell} {x : ℕ} {ws : List ℕ} {n : ℕ} → 1 < count_of cs x
      → Erased g ds f (set_count cs x (count_of cs x - 1)) 0 ws n → Erased g ds f cs x ws n
  -- an atom goes to the head of the free chain, and its successor is next
  atom : {f : ℕ} {cs : List Cell} {x : ℕ} {ws : List ℕ} {n : ℕ} → count_of cs x ≡ 1 → kind_of cs x ≡ 0
      → Erased g ds x (at_head cs x f) (next_of cs x) ws n → Erased g ds f cs x ws (suc n)
  -- a list goes to the head of the waiting chain, and its successor is next
  list : {f : ℕ} {cs : List Cell} {x : ℕ} {ws : List ℕ} {n : ℕ} → count_of cs x ≡ 1 → kind_of cs x ≡ 1
      → Erased g ds f (at_head cs x (first_of ws)) (next_of cs x) (x ∷ ws) n → Erased g ds f cs x ws n
  -- at an end the head of the waiting chain is freed, and its element is next
  waited : {f : ℕ} {cs : List Cell} {w : ℕ} {ws : List ℕ} {n : ℕ}
      → Erased g ds w (at_head cs w f) (elem_of cs w) ws n → Erased g ds f cs 0 (w ∷ ws) (suc n)
  -- until none waits
  ended : Erased g ds g ds 0 [] 0
