-- Acyclic, found by peeling: roots are dropped one after the other from cells whose counts are right, and every cell is
-- freed in the end exactly if no live cell reached itself at the start.
use Rattle.std.specs.Prelude.{◌≡◌, refl, ◌≢◌, ◌↔◌, List, ℕ, suc, ◌+◌, ◌<◌}
use Rattle.std.proofs.Common.{sym, ◌∙◌, subst, arith}
use Rattle.std.proofs.Math.Decide.{ℕ_discrete}
use Rattle.pool.specs.Tally.{same}
use Rattle.pool.specs.Laws.TallyLaws.{same_eq, same_ne}
use Rattle.pool.specs.Pool.{Cell, at, put, count_of, counted, set_count, Live, InPool, gives, sends, StepOf, Step, Walk}
use Rattle.pool.specs.Laws.Edit.{put-length, live_cell, put-put, put-at}
use Rattle.pool.specs.Laws.Held.{Acyclic, Law, put_acyclic, source_acyclic, put_law}
use Rattle.pool.specs.Laws.Arrows.{Walk-map, sends_live, sends-free, gives-counted, step-into}
use Rattle.pool.specs.Laws.Reach.{rooted}
use Rattle.pool.specs.Laws.Frame.{put-cases}

-- one root of x dropped; the roots after it
pub data Peels : List Cell → (ℕ → ℕ) → List Cell → (ℕ → ℕ) → Type 0 where
  done : {cs : List Cell} {r : ℕ → ℕ} → Peels cs r cs r
  skip : {cs ds : List Cell} {r r₁ r₂ : ℕ → ℕ} → ((d : ℕ) → d ≢ 0 → r₁ d ≡ r d) → Peels cs r₁ ds r₂ → Peels cs r ds r₂
  less : {cs ds : List Cell} {r r₁ r₂ : ℕ → ℕ} (x k : ℕ) → count_of cs x ≡ suc (suc k) → ((d : ℕ) → d ≢ 0 → r₁ d + same x d ≡ r d)
      → Peels (set_count cs x (suc k)) r₁ ds r₂ → Peels cs r ds r₂
  away : {cs ds : List Cell} {r r₁ r₂ : ℕ → ℕ} (x : ℕ) → count_of cs x ≡ 1 → 0 < r x → ((d : ℕ) → d ≢ 0 → r₁ d + same x d ≡ r d + gives d (at cs x))
      → Peels (set_count cs x 0) r₁ ds r₂ → Peels cs r ds r₂

skip_law : (cs : List Cell) (r r₁ : ℕ → ℕ) → ((d : ℕ) → d ≢ 0 → r₁ d ≡ r d) → Law cs r → Law cs r₁
skip_law cs r r₁ e law d n = omega (arith, law d n, e d n)

less_law : (cs : List Cell) (x k : ℕ) (r r₁ : ℕ → ℕ) → count_of cs x ≡ suc (suc k) → ((d : ℕ) → d ≢ 0 → r₁ d + same x d ≡ r d) → Law cs r
    → Law (set_count cs x (suc k)) r₁
less_law cs x k r r₁ e roots law =
    let inside = live_cell cs x (omega arith) in
    let y : Cell = counted (at cs x) (suc k) in
    let alike : (d : ℕ) → sends d y ≡ sends d (at cs x) = λ d. sends_live d y (omega arith) ∙ gives-counted d (at cs x) (suc k) ∙ sym
    (sends_live d (at cs x) (omega arith)) in
    put_law cs x y inside r r₁ law (omega (arith, alike x, roots x (omega arith), same_eq x))
    (λ d n m. omega (arith, alike d, roots d m, same_ne x d (λ q. n (sym q))))

away_law : (cs : List Cell) (x : ℕ) (r r₁ : ℕ → ℕ) → count_of cs x ≡ 1 → ((d : ℕ) → d ≢ 0 → r₁ d + same x d ≡ r d + gives d (at cs x)) → Law cs r
    → Law (set_count cs x 0) r₁
away_law cs x r r₁ e roots law =
    let inside = live_cell cs x (omega arith) in
    let y : Cell = counted (at cs x) 0 in
    let old : (d : ℕ) → sends d (at cs x) ≡ gives d (at cs x) = λ d. sends_live d (at cs x) (omega arith) in
    let now : (d : ℕ) → sends d y ≡ 0 = λ d. sends-free d y refl in
    put_law cs x y inside r r₁ law (omega (arith, old x, now x, roots x (omega arith), same_eq x))
    (λ d n m. omega (arith, old d, now d, roots d m, same_ne x d (λ q. n (sym q))))

-- the laws go forwards
pub Peels_law : {cs ds : List Cell} {r s : ℕ → ℕ} → Peels cs r ds s → Law cs r → Law ds s
Peels_law done law = law
Peels_law (skip {cs = cs} {r = r} {r₁ = r₁} e t) law = Peels_law t (skip_law cs r r₁ e law)
Peels_law (less {cs = cs} {r = r} {r₁ = r₁} x k e roots t) law = Peels_law t (less_law cs x k r r₁ e roots law)
Peels_law (away {cs = cs} {r = r} {r₁ = r₁} x e l roots t) law = Peels_law t (away_law cs x r r₁ e roots law)

-- that nothing reaches itself goes forwards
pub Peels_acyclic : {cs ds : List Cell} {r s : ℕ → ℕ} → Peels cs r ds s → Acyclic cs → Acyclic ds
Peels_acyclic done h = h
Peels_acyclic (skip e t) h = Peels_acyclic t h
Peels_acyclic (less {cs = cs} x k e roots t) h =
    Peels_acyclic t (put_acyclic cs x (counted (at cs x) (suc k)) (live_cell cs x (omega arith)) h (λ d s. (omega arith, s.1)))
Peels_acyclic (away {cs = cs} x e l roots t) h =
    Peels_acyclic t (put_acyclic cs x (counted (at cs x) 0) (live_cell cs x (omega arith)) h (λ d s. (omega arith, s.1)))

-- and backwards
same_walks : (cs : List Cell) (x k : ℕ) → Live cs x → 0 < k → Acyclic (set_count cs x k) → Acyclic cs
same_walks cs x k l m h b n w = h b n (Walk-map cs (set_count cs x k) steps (suc n) b b w)
  where
    steps : (c d : ℕ) → Step cs c d → Step (set_count cs x k) c d
    steps c d = put-cases cs x (counted (at cs x) k) (live_cell cs x l) (λ c u. Step cs c d → StepOf u d) (λ s. (m, s.1)) (λ c s. s) c

away_back : (cs : List Cell) (x : ℕ) (r : ℕ → ℕ) → Law cs r → count_of cs x ≡ 1 → 0 < r x → Acyclic (set_count cs x 0) → Acyclic cs
away_back cs x r law e l h =
    let inside = live_cell cs x (omega arith) in
    let o : Cell = counted (at cs x) 0 in
    let q : put (put cs x o) x (at cs x) ≡ cs = put-put cs x o (at cs x) ∙ put-at cs x in
    let len : InPool (put cs x o) x = (inside.0, rw put-length inside.1) in
    subst Acyclic q (source_acyclic (put cs x o) x (at cs x) len h (λ b s. none b (subst (λ u. Step u b x) q s)))
  where
    none : (b : ℕ) → Step cs b x → ⊥
    none b s = omega (arith, step-into cs b x s, law x (omega (arith, live_cell cs x (omega arith))))

pub Peels_back : {cs ds : List Cell} {r s : ℕ → ℕ} → Peels cs r ds s → Law cs r → Acyclic ds → Acyclic cs
Peels_back done law h = h
Peels_back (skip {cs = cs} {r = r} {r₁ = r₁} e t) law h = Peels_back t (skip_law cs r r₁ e law) h
Peels_back (less {cs = cs} {r = r} {r₁ = r₁} x k e roots t) law h =
    same_walks cs x (suc k) (omega arith) (omega arith) (Peels_back t (less_law cs x k r r₁ e roots law) h)
Peels_back (away {cs = cs} {r = r} {r₁ = r₁} x e l roots t) law h = away_back cs x r law e l (Peels_back t (away_law cs x r r₁ e roots law) h)

-- when no root is left: no cell is live exactly if nothing reached itself
pub peeled : {cs ds : List Cell} {r s : ℕ → ℕ} → Peels cs r ds s → Law cs r → ((c : ℕ) → c ≢ 0 → s c ≡ 0) → ((c : ℕ) → count_of ds c ≡ 0) ↔ Acyclic cs
unfolding Walk
peeled {ds = ds} {s = s} t law none =
    ((λ z. Peels_back t law (λ b n w. omega (arith, w.1.0, z b))), λ h c. empty (Peels_acyclic t h) c (ℕ_discrete (count_of ds c) 0))
  where
    empty : Acyclic ds → (c : ℕ) → Dec (count_of ds c ≡ 0) → count_of ds c ≡ 0
    empty h c (yes e) = e
    empty h c (no n) =
        let (b, nb, k, w) = rooted ds s (Peels_law t law) h c (omega arith) in
        absurd (omega (arith, none b nb))
