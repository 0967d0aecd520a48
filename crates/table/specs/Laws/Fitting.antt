-- The cells of a sound pool fit the two words of a packed cell: no count exceeds 2 N + H, and no successor N.
use Rattle.std.specs.Prelude.{◌≡◌, refl, Bool, List, [], ◌∷◌, ℕ, zero, suc, ◌≤◌, ◌<◌, length, get_or}
use Rattle.std.proofs.Common.{sym, ap, subst, inl, inr, arith}
use Rattle.std.proofs.Math.Decide.{ℕ_discrete, dec_lt}
use Rattle.std.proofs.Math.ListN.{get_or-eq_default}
use Rattle.pool.specs.Laws.Bound.{count_bound}
use Rattle.pool.specs.Laws.Edit.{live_cell, mark-cell, mark-past}
use Rattle.pool.specs.Pool.{Cell, blank, Pool, count_of, next_of, NullOrLive, Chain, Sound}
use Rattle.pool.specs.Tally.{tally, occ}
use Rattle.pool.specs.Laws.TallyLaws.{same_of, Same, eq, ne, same?}
use Rattle.table.specs.Laws.WordsLaws.{Fit}

-- of the cells of a chain, each is followed by the next or by 0
chain_next : (cs : List Cell) (n f : ℕ) (fs : List ℕ) → Chain cs f fs → ((c : ℕ) → 0 < occ fs c → c ≤ n) → (c : ℕ) → 0 < occ fs c → next_of cs c ≤ n
unfolding Chain tally
chain_next cs n f [] k h c l = absurd (omega arith)
chain_next cs n f (g ∷ gs) k h c l = go (same? g c) (chain_next cs n (next_of cs g) gs k.2 (λ d m. h d (omega (arith, m))) c)
  where
    follower : (hs : List ℕ) → hs ≡ gs → Chain cs (next_of cs g) hs → next_of cs g ≤ n
    follower [] e q = omega (arith, q)
    follower (d ∷ ds) e q =
        let z : 0 < occ gs d = subst (λ (xs : List ℕ). 0 < occ xs d) e (omega (arith, same_of d d refl)) in
        omega (arith, q.0, h d (omega (arith, z)))

    go : Same g c → (0 < occ gs c → next_of cs c ≤ n) → next_of cs c ≤ n
    go (eq e s) r = subst (λ (x : ℕ). next_of cs x ≤ n) e (follower gs refl k.2)
    go (ne e s) r = r (omega (arith, s))

pub next_bound : (p : Pool) → Sound p → (c : ℕ) → next_of p.cells c ≤ length p.cells
next_bound p s c = go (ℕ_discrete c 0) (dec_lt (length cs) c) (ℕ_discrete (count_of cs c) 0)
  where
    cs : List Cell
    cs = p.cells

    null_or_high : (d : ℕ) → NullOrLive cs d → d ≤ length cs
    null_or_high d (inl e) = omega arith
    null_or_high d (inr l) = (live_cell cs d l).1

    past : (d : ℕ) → length cs < d → next_of cs d ≡ 0
    past zero l = refl
    past (suc i) l = ap (λ (x : Cell). x.next) (get_or-eq_default cs blank {n = i} (omega arith))

    go : Dec (c ≡ 0) → Dec (length cs < c) → Dec (count_of cs c ≡ 0) → next_of cs c ≤ length cs
    go (yes e) b d = subst (λ (x : ℕ). next_of cs x ≤ length cs) (sym e) (omega arith)
    go (no n) (yes l) d = omega (arith, past c l)
    go (no n) (no m) (no l) = null_or_high (next_of cs c) (s.nexts c (omega arith))
    go (no n) (no m) (yes e) =
        let k = s.chain in
        let z : 0 < occ k.0 c = omega (arith, k.2 c, mark-cell cs c (omega arith) (omega arith), same_of (count_of cs c) 0 e) in
        chain_next cs (length cs) p.free k.0 k.1 (λ d l. (mark-past cs d (omega (arith, k.2 d))).1) c z

pub sound_fits : (b : Bool) (p : Pool) → Sound p → length p.cells ≤ 8000 → length p.holders ≤ 256 → (i : ℕ) → Fit b (get_or p.cells i blank)
sound_fits b p s n h i = λ e. (omega (arith, count_bound p s (suc i)), omega (arith, next_bound p s (suc i)))
