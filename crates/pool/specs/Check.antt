-- The test for soundness: every arrow met takes one off the count of its end, and the arrows of a cell are met when its
-- count has run out; so all counts run out exactly if they are right and nothing reaches itself. The type is looked at
-- when a cell's arrows are met, and so in every live cell if all goes well. With it the free chain.
use Rattle.std.specs.Prelude.{Bool, true, false, cond, ◌&&◌, List, [], ◌∷◌, ℕ, zero, suc, ◌+◌, eqb, leb, length, get_or}
use Rattle.pool.specs.Pool.{Cell, Pool, at, kind_of, count_of, next_of, set_count, mark, frees}

-- cells have the counts that are left; ok: no arrow was met that its end did not count, and no type over 1;
-- gone: cells taken off the stack
pub record Peeling : Type 0 where
  pub ok : Bool
  pub cells : List Cell
  pub stack : List ℕ
  pub gone : ℕ

-- an arrow to x dropped, where n are left
unfoldable pub lowered : Peeling → ℕ → ℕ → Peeling
lowered st x zero = record { ok = false; cells = st.cells; stack = st.stack; gone = st.gone }
lowered st x (suc zero) =
    record { ok = st.ok; cells = set_count st.cells x 0; stack = x ∷ st.stack; gone = st.gone }
lowered st x (suc (suc k)) =
    record { ok = st.ok; cells = set_count st.cells x (suc k); stack = st.stack; gone = st.gone }

unfoldable pub meet : ℕ → Peeling → Peeling
meet zero st = st
meet (suc i) st = lowered st (suc i) (count_of st.cells (suc i))

-- the list that a cell's element is, 0 where it is an atom
unfoldable pub arrow : Cell → ℕ
arrow x = cond (eqb x.kind 1) x.elem 0

-- the cell on top taken off and its type looked at; then its arrows are met
abbrev pub taken : List Cell → Peeling → ℕ → List ℕ → Peeling
taken cs st c xs = record { ok = leb (kind_of cs c) 1 && st.ok; cells = st.cells; stack = xs; gone = suc st.gone }

unfoldable pub pop : List Cell → List ℕ → Peeling → Peeling
pop cs [] st = st
pop cs (c ∷ xs) st = meet (next_of cs c) (meet (arrow (at cs c)) (taken cs st c xs))

unfoldable pub popped : List Cell → Peeling → Peeling
popped cs st = pop cs st.stack st

unfoldable pub turns : ℕ → List Cell → Peeling → Peeling
turns zero cs st = st
turns (suc k) cs st = popped cs (turns k cs st)

-- the first k holders
unfoldable pub named : ℕ → List ℕ → Peeling → Peeling
named zero hs st = st
named (suc k) hs st = meet (get_or hs k 0) (named k hs st)

abbrev pub unmet : List Cell → Peeling
unmet cs = record { ok = true; cells = cs; stack = []; gone = 0 }

abbrev pub after_holders : Pool → Peeling
after_holders p = named (length p.holders) p.holders (unmet p.cells)

-- the free chain: n free cells from c, and then 0
unfoldable pub chained : ℕ → List Cell → ℕ → Bool
chained zero cs c = eqb c 0
chained (suc n) cs c = let r = chained n cs (next_of cs c) in leb 1 (mark cs c) && r

-- the check
unfoldable pub peeled? : List Cell → Peeling → Bool
peeled? cs st = st.ok && eqb (st.gone + frees cs) (length cs)

unfoldable pub check : Pool → Bool
check p =
    chained (frees p.cells) p.cells p.free
    && peeled? p.cells (turns (length p.cells) p.cells (after_holders p))
