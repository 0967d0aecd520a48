-- The loop of erasing keeps its invariant, ends, and leaves the invariant with one root less.
use Rattle.std.specs.Prelude.{◌≡◌, ◌⊎◌, length}
use Rattle.std.proofs.Math.Path.{refl, subst}
use Rattle.std.proofs.Common.{sym, ap, ◌∙◌, arith}
use Rattle.std.proofs.Math.Logic.{inl, inr}
use mathlib.Core.List.{List, [], ◌∷◌}
use Prim.Native.Nat.{ℕ, zero, suc, ◌+◌, ◌-◌, ◌≤◌, ◌<◌}
use Rattle.pool.specs.Tally.{same, tally}
use Rattle.pool.specs.Laws.TallyLaws.{same_eq, same_ne}
use Rattle.pool.specs.Pool.{Cell, kind_of, elem_of, count_of, Live, lives}
use Rattle.pool.specs.Erase.{Dropping, visit, step, stepped, dropping, total, dropped}
use Rattle.pool.specs.Laws.Held.{Held, reroot, root_live}
use Rattle.pool.specs.Laws.Frame.{Kept}
use Rattle.pool.specs.Laws.Drop.{Wait, Waits, waits, items, DropInv, case_shared, case_atom, case_list, case_pop}

abbrev pub todo : Dropping → List Wait → ℕ
todo s ws = total s.cells + total s.cells + length ws

abbrev pub stopped : Dropping → Dropping
stopped s = record { free = s.free; cells = s.cells; here = 0; waiting = 0; freed = s.freed }

module _ (r : ℕ → ℕ) (bs : List Cell) where
  abbrev pub DropInvAt : Dropping → List Wait → Type 0
  DropInvAt s ws = DropInv r bs s.free s.cells s.here s.waiting s.freed ws

  abbrev After : Dropping → ℕ → Type 0
  After s m = (ws : List Wait) × DropInvAt s ws × (todo s ws < m)

  visit-inv : (f : ℕ) (cs : List Cell) (x b n k t : ℕ) (ws : List Wait) → DropInv r bs f cs x b n ws → count_of cs x ≡ suc k → kind_of cs x ≡ t
      → After (visit f cs x b n k t) (total cs + total cs + length ws)
  unfolding visit
  visit-inv f cs x b n (suc k) t ws v e g = let (v', l) = case_shared r bs f cs x b n k ws v e in (ws, v', omega arith)
  visit-inv f cs x b n zero zero ws v e g = let (v', l) = case_atom r bs f cs x b n ws v e g in (ws, v', omega arith)
  visit-inv f cs x b n zero (suc zero) ws v e g =
      let (v', l) = case_list r bs f cs x b n ws v e g in (record { cell = x; item = elem_of cs x } ∷ ws, v', omega arith)
  visit-inv f cs x b n zero (suc (suc t)) ws v e g = absurd (omega (arith, v.held.kinds x (omega arith)))

  pub here_live : (f : ℕ) (cs : List Cell) (i b n : ℕ) (ws : List Wait) → DropInv r bs f cs (suc i) b n ws → Live cs (suc i)
  here_live f cs i b n ws v =
      root_live f cs (λ c. same (suc i) c + items ws c + r c) (waits ws) (suc i) v.held (omega arith) (omega (arith, same_eq (suc i)))

  -- at its end, or one step nearer to it
  pub step-inv : (f : ℕ) (cs : List Cell) (x b n : ℕ) (ws : List Wait) → DropInv r bs f cs x b n ws
      → ((x ≡ 0) × (b ≡ 0) × (ws ≡ [])) ⊎ After (step f cs x b n) (total cs + total cs + length ws)
  unfolding step Waits
  step-inv f cs zero zero n [] v = inl (refl, refl, refl)
  step-inv f cs zero zero n (w ∷ ws) v = absurd (v.chained.1 (sym v.chained.0))
  step-inv f cs zero (suc j) n [] v = absurd (omega (arith, v.chained))
  step-inv f cs zero (suc j) n (w ∷ ws) v = let (v', l) = case_pop r bs f cs (suc j) n w ws v in inr (ws, v', omega arith)
  step-inv f cs (suc i) b n ws v =
      let live = here_live f cs i b n ws v in
      inr (visit-inv f cs (suc i) b n (count_of cs (suc i) - 1) (kind_of cs (suc i)) ws v (omega arith) refl)

  -- what the loop leaves
  abbrev pub Done : Dropping → Type 0
  Done s = DropInv r bs s.free s.cells 0 0 s.freed [] × (s.here ≡ 0) × (s.waiting ≡ 0)

  step_end : (s : Dropping) → s.here ≡ 0 → s.waiting ≡ 0 → stepped s ≡ stopped s
  unfolding step
  step_end s e g = rw (e, g) refl

  dropping_end : (k : ℕ) (s : Dropping) → dropping k (stopped s) ≡ stopped s
  unfolding dropping step
  dropping_end zero s = refl
  dropping_end (suc k) s = dropping_end k s

  ended : (s : Dropping) (ws : List Wait) → DropInvAt s ws → s.here ≡ 0 → s.waiting ≡ 0 → ws ≡ [] → DropInv r bs s.free s.cells 0 0 s.freed []
  ended s ws v e g q =
      subst (λ u. DropInv r bs s.free s.cells 0 0 s.freed u) q
      (subst (λ u. DropInv r bs s.free s.cells 0 u s.freed ws) g (subst (λ u. DropInv r bs s.free s.cells u s.waiting s.freed ws) e v))

  pub dropping-done : (k : ℕ) (s : Dropping) (ws : List Wait) → DropInvAt s ws → todo s ws ≤ k → Done (dropping k s)
  unfolding dropping
  dropping-done zero s ws v l = go (step-inv s.free s.cells s.here s.waiting s.freed ws v)
    where
      go : ((s.here ≡ 0) × (s.waiting ≡ 0) × (ws ≡ [])) ⊎ After (stepped s) (todo s ws) → Done s
      go (inl (e, g, q)) = (ended s ws v e g q, e, g)
      go (inr (ws', v', m)) = absurd (omega arith)
  dropping-done (suc k) s ws v l = go (dropping-done k (stepped s)) (step-inv s.free s.cells s.here s.waiting s.freed ws v)
    where
      go : ((ws' : List Wait) → DropInvAt (stepped s) ws' → todo (stepped s) ws' ≤ k → Done (dropping k (stepped s)))
          → ((s.here ≡ 0) × (s.waiting ≡ 0) × (ws ≡ [])) ⊎ After (stepped s) (todo s ws) → Done (dropping k (stepped s))
      go ih (inr (ws', v', m)) = ih ws' v' (omega arith)
      go ih (inl (e, g, q)) =
          subst Done (sym (ap (dropping k) (step_end s e g) ∙ dropping_end k s)) (ended s ws v e g q, refl, refl)

-- dropping one root of a pool
pub dropped-done : (r : ℕ → ℕ) (f : ℕ) (cs : List Cell) (x : ℕ) → Held f cs (λ c. same x c + r c) (λ c. 0) → Done r cs (dropped f cs x)
unfolding dropped Waits tally
dropped-done r f cs x h = dropping-done r cs (total cs + total cs) (record { free = f; cells = cs; here = x; waiting = 0; freed = 0 }) []
    (record {
      chained = refl;
      held = reroot f cs (λ c. same x c + r c) (λ c. 0) (λ c. same x c + 0 + r c) (λ c. 0) h (λ d m. omega arith) (λ d. refl);
      kept = λ c l. (l, refl);
      number = omega arith;
      size = refl;
    })
    (omega arith)

-- what is left: the invariant with the roots that stay
pub record Dropped (r : ℕ → ℕ) (cs : List Cell) (s : Dropping) : Type 0 where
  pub held : Held s.free s.cells r (λ c. 0)
  pub kept : Kept cs s.cells
  pub number : s.freed + lives s.cells ≡ lives cs
  pub size : length s.cells ≡ length cs

pub drops : (r : ℕ → ℕ) (f : ℕ) (cs : List Cell) (x : ℕ) → Held f cs (λ c. same x c + r c) (λ c. 0) → Dropped r cs (dropped f cs x)
unfolding tally
drops r f cs x h = go (dropped f cs x) (dropped-done r f cs x h)
  where
    go : (s : Dropping) → Done r cs s → Dropped r cs s
    go s (v, e, g) = record {
      held = reroot s.free s.cells (λ c. same 0 c + items [] c + r c) (waits []) r (λ c. 0) v.held
          (λ d m. omega (arith, same_ne 0 d (λ q. m (sym q)))) (λ d. refl);
      kept = v.kept;
      number = omega (arith, v.number);
      size = v.size;
    }

-- for a loop of the code: one turn, and no more turns at the end

pub dropping-step : (j : ℕ) (s : Dropping) → dropping (suc j) s ≡ dropping j (stepped s)
unfolding dropping
dropping-step j s = refl

pub dropping-stop : (j : ℕ) (s : Dropping) → s.here ≡ 0 → s.waiting ≡ 0 → dropping j s ≡ stopped s
unfolding dropping
dropping-stop zero s e g = λ i. record { free = s.free; cells = s.cells; here = e i; waiting = g i; freed = s.freed }
dropping-stop (suc j) s e g = ap (dropping j) (step_end (λ c. 0) s.cells s e g) ∙ dropping_end (λ c. 0) s.cells j s
