-- The cells of a new pool while they are linked: those below number k have their successor. Linked to the end they are the cells of a fresh pool.
use Rattle.std.specs.Prelude.{ℕ, zero, suc, ◌+◌, ◌≤◌, ◌<◌, ◌≡◌, refl, ◌≢◌, Bool, true, false, cond, List, ◌∷◌, ltb, set, replicate}
use Rattle.std.proofs.Common.{sym, ap, ◌∙◌, ap₂, arith, lt-ltb, le-ltb}
use Rattle.std.proofs.lemmas.Bool.{false≢true}
use Rattle.std.proofs.Math.Decide.{dec_lt}
use Rattle.pool.specs.Operations.{laid}
use Rattle.pool.specs.Pool.{Cell, blank, at, followed, set_next}
use Rattle.pool.specs.Setters.{cell}
use Rattle.table.specs.Tab.{tab}
use Rattle.table.specs.Laws.TabLaws.{get_or-tab, tab-same, tab-set, tab_always}

-- the successor of the cell with number i + 1
abbrev pub following : ℕ → ℕ → ℕ
following k i = cond (ltb (suc i) k) (suc (suc i)) 0

unfoldable pub linked : ℕ → ℕ → List Cell
linked k n = tab n (λ i. cell 0 0 0 (following k i))

pub following-on : (k i : ℕ) → suc i < k → following k i ≡ suc (suc i)
following-on k i h = rw (lt-ltb (suc i) k h)

pub following-off : (k i : ℕ) → k ≤ suc i → following k i ≡ 0
following-off k i h = rw (le-ltb (suc i) k h)

-- at first none is linked
pub linked-none : (n : ℕ) → replicate n blank ≡ linked 1 n
unfolding linked
linked-none n = sym (tab_always n (λ i. cell 0 0 0 (following 1 i)) blank (λ i l. ap (cell 0 0 0) (following-off 1 i (omega arith))))

-- only the cell with number k changes when one more is linked
following-same : (k i : ℕ) → suc i ≢ k → following (k + 1) i ≡ following k i
following-same k i n = go (dec_lt (suc i) k)
  where
    go : Dec (suc i < k) → following (k + 1) i ≡ following k i
    go (yes h) = following-on (k + 1) i (omega arith) ∙ sym (following-on k i h)
    go (no h) = following-off (k + 1) i (omega arith) ∙ sym (following-off k i (omega arith))

pub linked-step : (k n : ℕ) → 1 ≤ k → k < n → set_next (linked k n) k (k + 1) ≡ linked (k + 1) n
unfolding linked
linked-step zero n l h = absurd (omega arith)
linked-step (suc j) n l h =
    let f : ℕ → Cell = λ i. cell 0 0 0 (following (suc j) i) in
    let g : ℕ → Cell = λ i. cell 0 0 0 (following (suc j + 1) i) in
    let one : g j ≡ cell 0 0 0 (suc j + 1) = ap (cell 0 0 0) (following-on (suc j + 1) j (omega arith) ∙ omega arith) in
    ap (λ (x : Cell). set (tab n f) j (followed x (suc j + 1))) (get_or-tab n f j blank (omega arith))
    ∙ ap (set (tab n f) j) (sym one)
    ∙ sym (tab-set n f g j (omega arith) (λ i m ne. ap (cell 0 0 0) (following-same (suc j) i (λ e. ne (omega arith)))))

-- m cells after the first i, linked to the end
laid-linked : (m i : ℕ) → tab m (λ j. cell 0 0 0 (cond (ltb (suc j) m) (suc (suc (i + j))) 0)) ≡ laid i m
unfolding tab laid
laid-linked zero i = refl
laid-linked (suc zero) i = refl
laid-linked (suc (suc m)) i =
    ap₂ ◌∷◌ (ap (cell 0 0 0) (first (ltb 1 (suc (suc m))) (lt-ltb 1 (suc (suc m)) (omega arith))))
    (tab-same (suc m) (λ j. cell 0 0 0 (cond (ltb (suc (suc j)) (suc (suc m))) (suc (suc (i + suc j))) 0)) (λ j. cell 0 0 0 (cond (ltb (suc j) (suc m)) (suc (suc (suc i + j))) 0)) (λ j l. ap (cell 0 0 0) (later j (dec_lt (suc j) (suc m))))
    ∙ laid-linked (suc m) (suc i))
  where
    first : (b : Bool) → b ≡ true → cond b (suc (suc (i + 0))) 0 ≡ suc (suc i)
    first true e = omega arith
    first false e = absurd (false≢true e)

    later : (j : ℕ) → Dec (suc j < suc m) → cond (ltb (suc (suc j)) (suc (suc m))) (suc (suc (i + suc j))) 0 ≡ cond (ltb (suc j) (suc m)) (suc (suc (suc i + j))) 0
    later j (yes h) = rw (lt-ltb (suc (suc j)) (suc (suc m)) (omega arith), lt-ltb (suc j) (suc m) h) (omega arith)
    later j (no h) = rw (le-ltb (suc (suc j)) (suc (suc m)) (omega arith), le-ltb (suc j) (suc m) (omega arith)) refl

pub linked-all : (n : ℕ) → linked n n ≡ laid 0 n
unfolding linked
linked-all n =
    tab-same n (λ i. cell 0 0 0 (following n i)) (λ i. cell 0 0 0 (cond (ltb (suc i) n) (suc (suc (0 + i))) 0)) (λ i l. ap (λ (k : ℕ). cell 0 0 0 (cond (ltb (suc i) n) (suc (suc k)) 0)) (omega arith))
    ∙ laid-linked n 0

-- cell i + 1 of n
pub laid-at : (n i : ℕ) → i < n → at (laid 0 n) (suc i) ≡ cell 0 0 0 (following n i)
unfolding linked
laid-at n i l = ap (λ (cs : List Cell). at cs (suc i)) (sym (linked-all n)) ∙ get_or-tab n (λ j. cell 0 0 0 (following n j)) i blank l
