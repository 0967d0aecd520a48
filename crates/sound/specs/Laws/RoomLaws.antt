-- What there is room for, wherever the invariant of the test holds: a cell that waits or is at hand is live, and so they are few.
use Rattle.std.specs.Prelude.{◌≡◌, ◌≢◌, List, ◌∷◌, ℕ, ◌+◌, ◌≤◌, ◌<◌, length}
use Rattle.std.proofs.Math.Path.{ap}
use Rattle.std.proofs.Common.{sym, ◌∙◌, arith}
use Rattle.std.proofs.Math.Decide.{ℕ_discrete}
use Rattle.pool.specs.Tally.{tally, occ}
use Rattle.pool.specs.Laws.TallyLaws.{same_eq}
use Rattle.pool.specs.Pool.{Cell, Pool, InPool}
use Rattle.pool.specs.Check.{Peeling, after_holders}
use Rattle.pool.specs.Laws.Edit.{live_cell}
use Rattle.pool.specs.Laws.CheckInv.{PeelInv, turns-inv, holders_inv}
use Rattle.pool.specs.Laws.CheckLaws.{stack_fits}
use Rattle.sound.specs.declared.Peel.{Peel}
use Rattle.sound.specs.Mirror.{below, Mirrors, Room, state_at}
use Rattle.sound.specs.Laws.MirrorLaws.{below_length, on_top_some, on_top-none}

module _ (cs : List Cell) (r₀ rest : ℕ → ℕ) (st : Peeling) (n : ℕ) (ws : List ℕ) (e : Peel) (i : PeelInv cs r₀ rest st) (m : Mirrors n ws e st)
    (len : length cs ≡ n) where
  pub held : e.at ≢ 0 → st.stack ≡ e.at ∷ below n ws e.top
  held s = sym m.stack ∙ on_top_some e.at (below n ws e.top) s

  fits : st.gone + length st.stack ≤ n
  fits = omega (arith, stack_fits cs r₀ rest st i)

  pub at-cell : e.at ≢ 0 → InPool cs e.at
  unfolding tally
  at-cell s = live_cell cs e.at (i.waits e.at (omega (arith, ap (λ u. occ u e.at) (held s), same_eq e.at)))

  pub done_few : e.at ≢ 0 → e.gone + 1 + e.top ≤ n
  done_few s = omega (arith, fits, m.gone, ap length (held s), below_length n ws e.top)

  pub room : n < 65536 → n + n ≤ length ws → Room n ws e
  room few long = go (ℕ_discrete e.at 0)
    where
      go : Dec (e.at ≡ 0) → Room n ws e
      go (yes z) = record {
        few = few;
        long = long;
        low = omega arith;
        high = omega (arith, fits, ap length (sym m.stack ∙ on_top-none e.at (below n ws e.top) z), below_length n ws e.top);
        more = λ s. absurd (s z);
      }
      go (no s) = record { few = few; long = long; low = omega (arith, at-cell s); high = omega (arith, done_few s); more = λ _. omega (arith, done_few s) }

-- no number 0 waits
pub none-null : (cs : List Cell) (r₀ rest : ℕ → ℕ) (st : Peeling) → PeelInv cs r₀ rest st → occ st.stack 0 ≡ 0
none-null cs r₀ rest st i = go (ℕ_discrete (occ st.stack 0) 0)
  where
    go : Dec (occ st.stack 0 ≡ 0) → occ st.stack 0 ≡ 0
    go (yes e) = e
    go (no n) = absurd (omega (arith, i.waits 0 (omega arith)))

-- the invariant after k turns
pub state-inv : (p : Pool) (k : ℕ) → PeelInv p.cells (occ p.holders) (λ d. 0) (state_at p k)
state-inv p k = turns-inv k p.cells (occ p.holders) (λ d. 0) (after_holders p) (holders_inv p)
