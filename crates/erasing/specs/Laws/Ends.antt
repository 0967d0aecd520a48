-- In a pool where x is a root, dropping it ends, each step finds what it asks, and the loop is that of the definition.
use Rattle.std.specs.Prelude.{◌≡◌, refl, ◌⊎◌, ℕ, zero, suc, ◌+◌, ◌*◌, ◌≤◌, ◌<◌, length}
use Rattle.std.proofs.Common.{sym, ◌∙◌, inl, inr, arith}
use mathlib.Core.List.{List, [], ◌∷◌}
use Rattle.std.proofs.Math.Decide.{ℕ_discrete}
use Rattle.loops.specs.Loop.{run, stop, more, Ends}
use Rattle.loops.specs.Laws.LoopLaws.{run_halt, run_go}
use Rattle.cells.specs.Laws.RangeLaws.{free_high}
use Rattle.pool.specs.Laws.Bound.{count_bound}
use Rattle.pool.specs.Laws.Drop.{Wait, Waits, waits, items, DropInv}
use Rattle.pool.specs.Laws.DropRun.{todo, DropInvAt, here_live, step-inv, dropping-step, dropping-stop}
use Rattle.pool.specs.Laws.Edit.{live_cell}
use Rattle.pool.specs.Erase.{Dropping, dropping, dropped, stepped}
use Rattle.pool.specs.Laws.Held.{reroot}
use Rattle.pool.specs.Laws.HeldSteps.{aside_cell}
use Rattle.pool.specs.Laws.Holders.{but, occ-take}
use Rattle.pool.specs.Operations.{erase}
use Rattle.pool.specs.Pool.{Cell, Pool, count_of, holder, Live, Sound}
use Rattle.pool.specs.Laws.Room.{marks-lives}
use Rattle.pool.specs.Laws.SoundLaws.{none_aside, sound_held}
use Rattle.pool.specs.Tally.{same, tally, occ}
use Rattle.pool.specs.Laws.TallyLaws.{same_of}
use Rattle.pool.specs.Laws.Visit.{at_end_lem}
use Rattle.pool.specs.Setters.{put_holder}
use Rattle.erasing.specs.Erasing.{halted, Fine, dropping_at, most, Rooted, less}
use Rattle.erasing.specs.Laws.StepLaws.{halted_yes, halted-at, halted_wait}
use Rattle.erasing.specs.Laws.Counts.{step_low}

-- the loop that stops at the end is the definition's, which stays there
joined : (k : ℕ) (w : Dropping) → run halted stepped k w ≡ dropping k w
unfolding run dropping
joined zero w = refl
joined (suc k) w = go (joined k (stepped w)) (ℕ_discrete w.here 0) (ℕ_discrete w.waiting 0)
  where
    go : run halted stepped k (stepped w) ≡ dropping k (stepped w) → Dec (w.here ≡ 0) → Dec (w.waiting ≡ 0) → run halted stepped (suc k) w ≡ dropping (suc k) w
    go ih (yes e) (yes g) = run_halt halted stepped (suc k) w (halted_yes w e g) ∙ sym (dropping-stop (suc k) w e g ∙ at_end_lem w e g)
    go ih (yes e) (no n) = run_go halted stepped k w (halted_wait w e n) ∙ ih ∙ sym (dropping-step k w)
    go ih (no n) g = run_go halted stepped k w (halted-at w n) ∙ ih ∙ sym (dropping-step k w)

-- each step finds what it asks

module _ (r : ℕ → ℕ) (bs : List Cell) where
  waiting_top : (f : ℕ) (cs : List Cell) (x b n : ℕ) (ws : List Wait) → DropInv r bs f cs x b n ws → b ≤ length cs
  unfolding Waits tally
  waiting_top f cs x b n [] v = omega (arith, v.chained)
  waiting_top f cs x b n (w ∷ ws) v =
      (aside_cell f cs (λ c. same x c + items (w ∷ ws) c + r c) (waits (w ∷ ws)) b v.held (omega (arith, same_of w.cell b (sym v.chained.0)))).0.1

  live_at : (w : Dropping) (ws : List Wait) → DropInvAt r bs w ws → 1 ≤ w.here → Live w.cells w.here
  live_at w ws v l = go w.here v l
    where
      go : (x : ℕ) → DropInv r bs w.free w.cells x w.waiting w.freed ws → 1 ≤ x → Live w.cells x
      go zero u m = absurd (omega arith)
      go (suc i) u m = here_live r bs w.free w.cells i w.waiting w.freed ws u

  here_top : (w : Dropping) (ws : List Wait) → DropInvAt r bs w ws → Dec (w.here ≡ 0) → w.here ≤ length w.cells
  here_top w ws v (yes e) = omega arith
  here_top w ws v (no n) = (live_cell w.cells w.here (live_at w ws v (omega arith))).1

  fine : (m : ℕ) (w : Dropping) (ws : List Wait) → DropInvAt r bs w ws → ((c : ℕ) → count_of w.cells c ≤ m) → Fine m w
  fine m w ws v low = record {
    here_high = here_top w ws v (ℕ_discrete w.here 0);
    waiting_high = waiting_top w.free w.cells w.here w.waiting w.freed ws v;
    free_high = free_high w.free w.cells (λ c. same w.here c + items ws c + r c) (waits ws) v.held;
    few = omega (arith, v.number, marks-lives bs, v.size);
    counted = live_at w ws v;
    small = omega (arith, low w.here, v.size);
  }

  pub ends : (m k : ℕ) (w : Dropping) (ws : List Wait) → DropInvAt r bs w ws → ((c : ℕ) → count_of w.cells c ≤ m) → todo w ws ≤ k
      → Ends halted stepped (Fine m) k w
  ends m zero w ws v low l = go (step-inv r bs w.free w.cells w.here w.waiting w.freed ws v)
    where
      go : ((w.here ≡ 0) × (w.waiting ≡ 0) × (ws ≡ [])) ⊎ ((us : List Wait) × DropInvAt r bs (stepped w) us × (todo (stepped w) us < todo w ws))
          → Ends halted stepped (Fine m) zero w
      go (inl (e, g, q)) = record { turns = 0; runs = stop (halted_yes w e g); short = omega arith }
      go (inr (us, u, d)) = absurd (omega arith)
  ends m (suc k) w ws v low l = go (ends m k (stepped w)) (step-inv r bs w.free w.cells w.here w.waiting w.freed ws v)
    where
      low' : (c : ℕ) → count_of (stepped w).cells c ≤ m
      low' c = omega (arith, low c, step_low w.free w.cells w.here w.waiting w.freed c)

      on : Ends halted stepped (Fine m) k (stepped w) → Dec (w.here ≡ 0) → Dec (w.waiting ≡ 0) → Ends halted stepped (Fine m) (suc k) w
      on d (yes e) (yes g) = record { turns = 0; runs = stop (halted_yes w e g); short = omega arith }
      on d (yes e) (no n) = record {
        turns = suc d.turns;
        runs = more (halted_wait w e n) (fine m w ws v low) d.runs;
        short = omega (arith, d.short);
      }
      on d (no n) g = record { turns = suc d.turns; runs = more (halted-at w n) (fine m w ws v low) d.runs; short = omega (arith, d.short) }

      go : ((us : List Wait) → DropInvAt r bs (stepped w) us → ((c : ℕ) → count_of (stepped w).cells c ≤ m) → todo (stepped w) us ≤ k
          → Ends halted stepped (Fine m) k (stepped w))
          → ((w.here ≡ 0) × (w.waiting ≡ 0) × (ws ≡ [])) ⊎ ((us : List Wait) × DropInvAt r bs (stepped w) us × (todo (stepped w) us < todo w ws))
          → Ends halted stepped (Fine m) (suc k) w
      go ih (inl (e, g, q)) = record { turns = 0; runs = stop (halted_yes w e g); short = omega arith }
      go ih (inr (us, u, d)) = on (ih us u low' (omega arith)) (ℕ_discrete w.here 0) (ℕ_discrete w.waiting 0)

pub root_ends : (m : ℕ) (p : Pool) (x : ℕ) → Rooted m p x → Ends halted stepped (Fine m) (most p) (dropping_at p x)
unfolding Waits tally
root_ends m p x h = ends h.rest p.cells m (most p) (dropping_at p x) []
    (record {
      chained = refl;
      held =
          reroot p.free p.cells (λ c. same x c + h.rest c) none_aside (λ c. same x c + 0 + h.rest c) none_aside h.held (λ d n. omega arith)
          (λ d. refl);
      kept = λ c l. (l, refl);
      number = omega arith;
      size = refl;
    })
    h.counts (omega arith)

-- what the code's loop leaves
pub is_dropped : (p : Pool) (x : ℕ) → run halted stepped (most p) (dropping_at p x) ≡ dropped p.free p.cells x
unfolding dropped
is_dropped p x = joined (most p) (dropping_at p x)

-- a holder of a sound pool is a root
pub holder_rooted : (m : ℕ) (p : Pool) (h : ℕ) → Sound p → h < length p.holders → length p.holders + 2 * length p.cells ≤ m → Rooted m p (holder p h)
holder_rooted m p h s l e = record {
  rest = but p.holders h;
  held =
      reroot p.free p.cells (occ p.holders) none_aside (λ c. same (holder p h) c + but p.holders h c) none_aside (sound_held p s)
      (λ d n. omega (arith, occ-take p.holders h d l n)) (λ d. refl);
  counts = λ c. omega (arith, count_bound p s c);
}

pub is_erase : (p : Pool) (h : ℕ) → (put_holder h 0 (less p (holder p h)) ≡ (erase p h).0) × ((dropped p.free p.cells (holder p h)).freed ≡ (erase p h).1)
unfolding erase
is_erase p h = (refl, refl)
