-- Three steps of a pool with nothing set aside: a new cell, a cell freed, a list shared.
use Rattle.std.specs.Prelude.{◌≡◌, refl, ◌≢◌, List, ℕ, zero, suc, ◌+◌, ◌≤◌, ◌<◌}
use Rattle.std.proofs.Common.{sym, inl, inr, arith}
use Rattle.pool.specs.Tally.{same}
use Rattle.pool.specs.Laws.TallyLaws.{same_eq, same_ne}
use Rattle.pool.specs.Pool.{Cell, at, put, count_of, next_of, counted, followed, set_count, set_next, Live, NullOrLive, InPool, gives}
use Rattle.pool.specs.Operations.{share}
use Rattle.pool.specs.Laws.Edit.{put_same, live_cell}
use Rattle.pool.specs.Laws.Held.{Held, reroot}
use Rattle.pool.specs.Laws.HeldSteps.{raise, unlock, aside_cell, shelve, take, fill}
use Rattle.pool.specs.Laws.Frame.{Kept, Kept_trans, put-cases, kept_count, kept_free}
use Rattle.pool.specs.Laws.SoundLaws.{none_aside}

-- the head of the free chain becomes a new cell
pub record New (f : ℕ) (cs : List Cell) (y : Cell) (r : ℕ → ℕ) : Type 0 where
  pub held : Held (next_of cs f) (put cs f y) r none_aside
  pub grown : Kept (put cs f y) cs
  pub here : at (put cs f y) f ≡ y
  pub inside : InPool cs f
  pub was : count_of cs f ≡ 0

pub new : (f : ℕ) (cs : List Cell) (r r' rest : ℕ → ℕ) (y : Cell) → Held f cs r none_aside → f ≢ 0 → y.count ≡ 1 → y.kind ≤ 1
    → ((d : ℕ) → d ≢ 0 → r d ≡ rest d + gives d y)
    → ((d : ℕ) → d ≢ 0 → r' d ≡ rest d + same f d)
    → New f cs y r'
new f cs r r' rest y h n one kind from to =
    let h₁ : Held (next_of cs f) cs r (same f) = take f cs r none_aside (same f) h n (λ d. omega arith) in
    let (inside, z) = aside_cell (next_of cs f) cs r (same f) f h₁ (omega (arith, same_eq f)) in
    record {
      held = fill (next_of cs f) cs r (same f) r' none_aside rest f y h₁ (omega (arith, same_eq f)) one kind from to (λ d. omega arith);
      grown = put-cases cs f y inside (λ d x. Live cs d → (0 < x.count) × (counted (at cs d) 0 ≡ counted x 0)) (λ l. absurd (omega arith)) (λ d l. (l, refl));
      here = put_same cs f y inside.0 inside.1;
      inside = inside;
      was = z;
    }

-- a cell with one root is freed, and its arrows become roots
pub record Freed (f : ℕ) (cs : List Cell) (x : ℕ) (r : ℕ → ℕ) : Type 0 where
  pub held : Held x (set_next (set_count cs x 0) x f) r none_aside
  pub kept : Kept cs (set_next (set_count cs x 0) x f)

pub freed : (f : ℕ) (cs : List Cell) (r r' : ℕ → ℕ) (x : ℕ) → Held f cs r none_aside → count_of cs x ≡ 1
    → ((d : ℕ) → d ≢ 0 → r' d + same x d ≡ r d + gives d (at cs x))
    → Freed f cs x r'
freed f cs r r' x h e roots =
    let inside = live_cell cs x (omega arith) in
    let y : Cell = counted (at cs x) 0 in
    let cs₁ : List Cell = put cs x y in
    let h₁ : Held f cs₁ r' (same x) = unlock f cs r none_aside r' (same x) x h e roots (λ d. omega arith) in
    let (inside₁, z₁) = aside_cell f cs₁ r' (same x) x h₁ (omega (arith, same_eq x)) in
    record {
      held = shelve f cs₁ r' (same x) none_aside x h₁ (λ d. omega arith);
      kept = Kept_trans cs cs₁ (set_next cs₁ x f) (kept_free cs x y inside refl) (kept_free cs₁ x (followed (at cs₁ x) f) inside₁ z₁);
    }

pub record Shared (f : ℕ) (cs : List Cell) (c : ℕ) (r : ℕ → ℕ) : Type 0 where
  pub held : Held f (share cs c) r none_aside
  pub kept : Kept cs (share cs c)
  pub grown : Kept (share cs c) cs

pub shared : (f : ℕ) (cs : List Cell) (r r' : ℕ → ℕ) (c : ℕ) → Held f cs r none_aside → NullOrLive cs c
    → ((d : ℕ) → d ≢ 0 → r' d ≡ r d + same c d)
    → Shared f cs c r'
unfolding share
shared f cs r r' zero h o roots = record {
  held = reroot f cs r none_aside r' none_aside h (λ d n. omega (arith, roots d n, same_ne 0 d (λ q. n (sym q)))) (λ d. refl);
  kept = λ c l. (l, refl);
  grown = λ c l. (l, refl);
}
shared f cs r r' (suc i) h (inl e) roots = absurd (omega arith)
shared f cs r r' (suc i) h (inr l) roots =
    let c = suc i in
    let inside = live_cell cs c l in
    let y : Cell = counted (at cs c) (suc (count_of cs c)) in
    record {
      held = raise f cs r none_aside r' c h l roots;
      kept = kept_count cs c y inside refl (λ _. l);
      grown = put-cases cs c y inside (λ d x. Live cs d → (0 < x.count) × (counted (at cs d) 0 ≡ counted x 0)) (λ _. (omega arith, refl)) (λ d m. (m, refl));
    }
