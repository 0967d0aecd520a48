-- A count can't exceed the number of holders and twice the number of cells.
use Rattle.std.specs.Prelude.{◌≡◌, ◌≢◌, Bool, true, false, cond, List, [], ◌∷◌, ℕ, ◌+◌, ◌≤◌, ◌*◌, ◌<◌, eqb, length, get_or, set}
use Rattle.std.proofs.Common.{sym, ap, arith, length-set}
use Rattle.std.proofs.Math.Decide.{ℕ_discrete}
use Rattle.pool.specs.Tally.{same, tally, occ}
use Rattle.pool.specs.Laws.TallyLaws.{same_eq, same_ne, same_le, tally-set}
use Rattle.pool.specs.Pool.{Cell, Pool, count_of, holder, gives, sends, lives, Sound, into}
use Rattle.pool.specs.Laws.Held.{Held}
use Rattle.pool.specs.Laws.Arrows.{if_live_pos, sends_live, sends-free}
use Rattle.pool.specs.Laws.SoundLaws.{none_aside, sound_held}

pub tally_le : {A : Type 0} (f : A → ℕ) (k : ℕ) (xs : List A) → ((x : A) → f x ≤ k) → tally f xs ≤ k * length xs
unfolding tally
tally_le f k [] h = omega arith
tally_le f k (x ∷ xs) h = omega (arith, tally_le f k xs h, h x)

gives_le : (d : ℕ) (x : Cell) → gives d x ≤ 2
unfolding gives
gives_le d x = omega (arith, same_le x.next d, at_most (eqb x.kind 1) (same x.elem d) (same_le x.elem d))
  where
    at_most : (b : Bool) (n : ℕ) → n ≤ 1 → cond b n 0 ≤ 1
    at_most true n h = h
    at_most false n h = omega arith

pub sends_le : (d : ℕ) (x : Cell) → sends d x ≤ 2
sends_le d x = go (ℕ_discrete x.count 0)
  where
    go : Dec (x.count ≡ 0) → sends d x ≤ 2
    go (yes e) = omega (arith, sends-free d x e)
    go (no n) = omega (arith, sends_live d x (omega arith), gives_le d x)

-- a count is the roots of its cell and at most two arrows from each cell
pub held_bound : (f : ℕ) (cs : List Cell) (r a : ℕ → ℕ) → Held f cs r a → (c : ℕ) → c ≢ 0 → count_of cs c ≤ r c + 2 * length cs
held_bound f cs r a h c n = omega (arith, h.law c n, tally_le (sends c) 2 cs (sends_le c))

pub occ_le : (hs : List ℕ) (c : ℕ) → occ hs c ≤ length hs
occ_le hs c = omega (arith, tally_le (λ h. same h c) 1 hs (λ h. same_le h c))

-- a null holder names no cell
pub occ-less : (hs : List ℕ) (b c : ℕ) → b < length hs → get_or hs b 0 ≡ 0 → c ≢ 0 → occ hs c < length hs
occ-less hs b c l e n =
    omega (arith, tally-set (λ h. same h c) hs b c 0 l, ap (λ u. same u c) e, same_ne 0 c (λ q. n (sym q)), same_eq c, occ_le (set hs b c) c, length-set hs b c)

pub count_bound : (p : Pool) → Sound p → (c : ℕ) → count_of p.cells c ≤ length p.holders + 2 * length p.cells
count_bound p s c = go (ℕ_discrete c 0)
  where
    go : Dec (c ≡ 0) → count_of p.cells c ≤ length p.holders + 2 * length p.cells
    go (yes e) = rw e (omega arith)
    go (no n) = omega (arith, held_bound p.free p.cells (occ p.holders) none_aside (sound_held p s) c n, occ_le p.holders c)

-- and is less by one at least where a holder is null
pub count_less : (p : Pool) → Sound p → (b c : ℕ) → b < length p.holders → holder p b ≡ 0 → c ≢ 0
    → count_of p.cells c < length p.holders + 2 * length p.cells
count_less p s b c l e n = omega (arith, held_bound p.free p.cells (occ p.holders) none_aside (sound_held p s) c n, occ-less p.holders b c l e n)

-- nor the arrows from cells twice the number of live ones
pub into-lives : (cs : List Cell) (d : ℕ) → into cs d ≤ 2 * lives cs
unfolding tally lives
into-lives [] d = omega arith
into-lives (x ∷ xs) d = go (into-lives xs d) (ℕ_discrete x.count 0)
  where
    go : into xs d ≤ 2 * lives xs → Dec (x.count ≡ 0) → into (x ∷ xs) d ≤ 2 * lives (x ∷ xs)
    go r (yes e) = omega (arith, sends-free d x e)
    go r (no n) = omega (arith, sends_le d x, if_live_pos x.count 1 (omega arith))
