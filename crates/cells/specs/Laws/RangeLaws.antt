-- What soundness tells the code: cell numbers are in range.
use Rattle.std.specs.Prelude.{◌≡◌, ◌≢◌, List, [], ◌∷◌, ℕ, ◌+◌, ◌≤◌, length}
use Rattle.std.proofs.Common.{sym, ap, ◌∙◌, subst, inl, inr, arith}
use Rattle.table.specs.declared.Shape.{Shape}
use Rattle.pool.specs.Laws.Edit.{live_cell, mark-past}
use Rattle.pool.specs.Operations as operations
use Rattle.pool.specs.Pool.{Cell, Pool, kind_of, next_of, holder, NullOrLive, Chain, mark, Sound}
use Rattle.pool.specs.Laws.SoundLaws.{none_aside, sound_held}
use Rattle.table.specs.View.{IsCell}
use Rattle.pool.specs.Tally.{tally, occ}
use Rattle.pool.specs.Laws.TallyLaws.{same_of}
use Rattle.pool.specs.Laws.Held.{Held}

pub null_or_high : (cs : List Cell) (c : ℕ) → NullOrLive cs c → c ≤ length cs
null_or_high cs c (inl e) = omega arith
null_or_high cs c (inr l) = (live_cell cs c l).1

pub free_high : (f : ℕ) (cs : List Cell) (r a : ℕ → ℕ) → Held f cs r a → f ≤ length cs
unfolding Chain tally
free_high f cs r a h = go h.chain.0 h.chain.1 h.chain.2
  where
    go : (fs : List ℕ) → Chain cs f fs → ((c : ℕ) → occ fs c + a c ≡ mark cs c) → f ≤ length cs
    go [] k m = omega (arith, k)
    go (g ∷ gs) k m = (mark-past cs f (omega (arith, m f, same_of g f (sym k.0)))).1

pub free-next_high : (f : ℕ) (cs : List Cell) (r a : ℕ → ℕ) → Held f cs r a → f ≢ 0 → next_of cs f ≤ length cs
unfolding Chain tally
free-next_high f cs r a h n = go h.chain.0 h.chain.1 h.chain.2
  where
    go : (fs : List ℕ) → Chain cs f fs → ((c : ℕ) → occ fs c + a c ≡ mark cs c) → next_of cs f ≤ length cs
    go [] k m = absurd (n k)
    go (g ∷ []) k m = subst (λ u. next_of cs u ≤ length cs) (sym k.0) (omega (arith, k.2))
    go (g ∷ i ∷ gs) k m =
        let q : next_of cs f ≡ i = ap (next_of cs) k.0 ∙ k.2.0 in
        (mark-past cs (next_of cs f) (omega (arith, m (next_of cs f), same_of i (next_of cs f) (sym q)))).1

-- a sound pool, in range
pub record Ranged (p : Pool) : Type 0 where
  pub free_top : p.free ≤ length p.cells
  pub holders_top : (h : ℕ) → holder p h ≤ length p.cells

pub ranged : (p : Pool) → Sound p → Ranged p
ranged p s = record {
  free_top = free_high p.free p.cells (occ p.holders) none_aside (sound_held p s);
  holders_top = λ h. null_or_high p.cells (holder p h) (s.holds h);
}

-- the first cell of a list, and its arrows
pub record Head (s : Shape) (cs : List Cell) (x : ℕ) : Type 0 where
  pub cell : IsCell s x
  pub next : next_of cs x ≤ s.cells
  pub item : operations.item cs x ≤ s.cells
  pub kind : kind_of cs x ≤ 1
