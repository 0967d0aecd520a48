-- What each way through a step of erasing comes to.
use Rattle.std.specs.Prelude.{ℕ, ◌+◌, ◌-◌, ◌≤◌, ◌≡◌, refl, true, false, List}
use Rattle.std.proofs.Common.{ap, sym, ◌∙◌, arith, eq-eqb, ne_eqb}
use Rattle.erasing.specs.declared.Erasing.{Erasing}
use Rattle.pool.specs.Erase.{Dropping, visit, stepped}
use Rattle.pool.specs.Pool.{Pool, kind_of, elem_of, count_of, next_of}
use Rattle.pool.specs.Laws.Visit.{step-at, step-pop, visit-shared, visit-atom, visit_list, dropping-path}
use Rattle.pool.specs.Setters.{put_count, put_next, put_free, release}
use Rattle.cells.specs.Lent.{Lent, on}
use Rattle.erasing.specs.Erasing.{halted, state, Does}

-- what shows q, and the numbers that the code goes on with, stand for w
shown : (v : Lent) {u : Lent} (q : Pool) (f : Erasing) {w : Dropping} → u ≡ on (λ _. q) v → q.holders ≡ v.pool.holders
    → ◌≡◌ {A = Dropping} (record { free = q.free; cells = q.cells; here = f.here; waiting = f.waiting; freed = f.freed }) w → Does v u f w
shown v q f is h e = record {
  kept = record { same = rw is (ap (λ (hs : List ℕ). on (λ _. record { free = q.free; holders = hs; cells = q.cells }) v) h) };
  is = ap (λ (u : Lent). state u f) is ∙ e;
}

module _ (v : Lent) (e : Erasing) (low : 1 ≤ e.here) (r y k : ℕ) (counted : r ≡ count_of v.pool.cells e.here)
    (next : y ≡ next_of v.pool.cells e.here) (kind : k ≡ kind_of v.pool.cells e.here) where
  abbrev Goal : Lent → Erasing → Type 0
  Goal u f = Does v u f (stepped (state v e))

  -- the step by the numbers that the code has
  by : stepped (state v e) ≡ visit v.pool.free v.pool.cells e.here e.waiting e.freed (r - 1) k
  by = step-at v.pool.free v.pool.cells e.here e.waiting e.freed low ∙ rw (← counted, ← kind) refl

  pub drop-shared : {u : Lent} → (r - 1 ≡ 0 → ⊥) → u ≡ on (put_count e.here (r - 1)) v
      → Goal u (record { here = 0; waiting = e.waiting; freed = e.freed })
  drop-shared ne sh =
      shown v (put_count e.here (r - 1) v.pool) (record { here = 0; waiting = e.waiting; freed = e.freed }) sh refl
      (sym (by ∙ visit-shared v.pool.free v.pool.cells e.here e.waiting e.freed (r - 1) k ne))

  pub drop-atom : {u : Lent} → r - 1 ≡ 0 → k ≡ 0
      → u ≡ on (λ p. put_free e.here (put_next e.here p.free (put_count e.here (r - 1) p))) v
      → Goal u (record { here = y; waiting = e.waiting; freed = e.freed + 1 })
  drop-atom last z sh =
      shown v (put_free e.here (put_next e.here v.pool.free (put_count e.here (r - 1) v.pool)))
      (record { here = y; waiting = e.waiting; freed = e.freed + 1 }) sh refl
      (dropping-path refl refl next refl (omega arith)
      ∙ sym (by ∙ visit-atom v.pool.free v.pool.cells e.here e.waiting e.freed (r - 1) k last z))

  pub drop_list : {u : Lent} → r - 1 ≡ 0 → (k ≡ 0 → ⊥) → u ≡ on (λ p. put_next e.here e.waiting (put_count e.here (r - 1) p)) v
      → Goal u (record { here = y; waiting = e.here; freed = e.freed })
  drop_list last z sh =
      shown v (put_next e.here e.waiting (put_count e.here (r - 1) v.pool)) (record { here = y; waiting = e.here; freed = e.freed }) sh refl
      (dropping-path refl refl next refl refl ∙ sym (by ∙ visit_list v.pool.free v.pool.cells e.here e.waiting e.freed (r - 1) k last z))

pub pop-one : (v : Lent) {u : Lent} (e : Erasing) (a y : ℕ) → e.here ≡ 0 → 1 ≤ e.waiting → a ≡ elem_of v.pool.cells e.waiting
    → y ≡ next_of v.pool.cells e.waiting
    → u ≡ on (release e.waiting) v
    → Does v u (record { here = a; waiting = y; freed = e.freed + 1 }) (stepped (state v e))
pop-one v e a y z l ha hy sh =
    shown v (release e.waiting v.pool) (record { here = a; waiting = y; freed = e.freed + 1 }) sh refl
    (dropping-path refl refl ha hy (omega arith) ∙ sym (step-pop v.pool.free v.pool.cells e.here e.waiting e.freed z l))

pub halted_yes : (w : Dropping) → w.here ≡ 0 → w.waiting ≡ 0 → halted w ≡ true
unfolding halted
halted_yes w a b = rw (eq-eqb w.here 0 a) (eq-eqb w.waiting 0 b)

pub halted-at : (w : Dropping) → (w.here ≡ 0 → ⊥) → halted w ≡ false
unfolding halted
halted-at w a = rw (ne_eqb w.here 0 a)

pub halted_wait : (w : Dropping) → w.here ≡ 0 → (w.waiting ≡ 0 → ⊥) → halted w ≡ false
unfolding halted
halted_wait w a b = rw (eq-eqb w.here 0 a) (ne_eqb w.waiting 0 b)
