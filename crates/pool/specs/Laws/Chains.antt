-- Chains: one from each number, no cell twice; a chain of as many free cells as there are holds each of them once.
use Rattle.std.specs.Prelude.{◌≡◌, refl, List, [], ◌∷◌, ℕ, zero, suc, ◌+◌, ◌≤◌, ◌<◌, length}
use Rattle.std.proofs.Common.{sym, ap, ◌∙◌, subst, arith}
use Rattle.std.proofs.Math.Decide.{ℕ_discrete}
use Rattle.pool.specs.Tally.{tally, occ}
use Rattle.pool.specs.Laws.TallyLaws.{Same, eq, ne, same?}
use Rattle.pool.specs.Pool.{Cell, Pool, next_of, Chain, mark, lives, Sound}
use Rattle.pool.specs.Laws.Edit.{mark-past}
use Rattle.pool.specs.Laws.Reach.{upto, upto-occ}
use Rattle.pool.specs.Laws.Room.{upto_in, marks-lives}

pub Chain_unique : (cs : List Cell) (c : ℕ) (fs gs : List ℕ) → Chain cs c fs → Chain cs c gs → fs ≡ gs
unfolding Chain
Chain_unique cs c [] [] h k = refl
Chain_unique cs c [] (g ∷ gs) h k = absurd (k.1 (sym k.0 ∙ h))
Chain_unique cs c (f ∷ fs) [] h k = absurd (h.1 (sym h.0 ∙ k))
Chain_unique cs c (f ∷ fs) (g ∷ gs) h k =
    let e : f ≡ g = sym h.0 ∙ k.0 in
    let r = Chain_unique cs (next_of cs g) fs gs (subst (λ u. Chain cs (next_of cs u) fs) e h.2) k.2 in
    cc (e, r)

-- from each of its cells the chain goes on to its end
Chain-from : (cs : List Cell) (c : ℕ) (fs : List ℕ) (v : ℕ) → Chain cs c fs → 0 < occ fs v → (gs : List ℕ) × Chain cs v gs × (length gs ≤ length fs)
unfolding Chain tally
Chain-from cs c [] v h o = absurd (omega arith)
Chain-from cs c (f ∷ fs) v h o = go (same? f v) (Chain-from cs (next_of cs f) fs v h.2)
  where
    go : Same f v → (0 < occ fs v → (gs : List ℕ) × Chain cs v gs × (length gs ≤ length fs)) → (gs : List ℕ) × Chain cs v gs × (length gs ≤ length (f ∷ fs))
    go (eq e s) r = (f ∷ fs, subst (λ u. Chain cs u (f ∷ fs)) (h.0 ∙ e) h, omega arith)
    go (ne n s) r = let (gs, k, l) = r (omega arith) in (gs, k, omega arith)

-- so it holds no cell twice
pub Chain_once : (cs : List Cell) (c : ℕ) (fs : List ℕ) → Chain cs c fs → (v : ℕ) → occ fs v ≤ 1
unfolding Chain tally
Chain_once cs c [] h v = omega arith
Chain_once cs c (f ∷ fs) h v = go (same? f v) (ℕ_discrete (occ fs v) 0) (Chain_once cs (next_of cs f) fs h.2 v)
  where
    go : Same f v → Dec (occ fs v ≡ 0) → occ fs v ≤ 1 → occ (f ∷ fs) v ≤ 1
    go (ne n s) d r = omega arith
    go (eq e s) (yes z) r = omega arith
    go (eq e s) (no z) r =
        let (gs, k, l) = Chain-from cs (next_of cs f) fs v h.2 (omega arith) in
        let q = Chain_unique cs v (f ∷ fs) gs (subst (λ u. Chain cs u (f ∷ fs)) (h.0 ∙ e) h) k in
        absurd (omega (arith, ap length q))

-- equal sums of functions one below the other
sum_tight : (n : ℕ) (f g : ℕ → ℕ) → ((c : ℕ) → f c ≤ g c) → upto n f ≡ upto n g → (c : ℕ) → 0 < c → c ≤ n → f c ≡ g c
unfolding upto
sum_tight zero f g h e c l m = absurd (omega arith)
sum_tight (suc n) f g h e c l m = go (ℕ_discrete c (suc n)) (sum_tight n f g h (omega (arith, below n, h (suc n))) c l)
  where
    below : (k : ℕ) → upto k f ≤ upto k g
    below zero = omega arith
    below (suc k) = omega (arith, below k, h (suc k))

    go : Dec (c ≡ suc n) → (c ≤ n → f c ≡ g c) → f c ≡ g c
    go (yes q) r = rw q (omega (arith, below n, h (suc n)))
    go (no q) r = r (omega arith)

-- a chain of free cells, as many as there are, holds every free cell once and no other
pub chain_full : (cs : List Cell) (f : ℕ) (fs : List ℕ) → Chain cs f fs → ((c : ℕ) → 0 < occ fs c → 0 < mark cs c) → length fs + lives cs ≡ length cs
    → (c : ℕ) → occ fs c ≡ mark cs c
chain_full cs f fs h free number c = go (ℕ_discrete (mark cs c) 0)
  where
    below : (c : ℕ) → occ fs c ≤ mark cs c
    below c = at_c (ℕ_discrete (occ fs c) 0)
      where
        at_c : Dec (occ fs c ≡ 0) → occ fs c ≤ mark cs c
        at_c (yes e) = omega arith
        at_c (no n) = omega (arith, Chain_once cs f fs h c, free c (omega arith))

    sums : upto (length cs) (occ fs) ≡ upto (length cs) (mark cs)
    sums = omega (arith, upto-occ (length cs) fs (λ v o. mark-past cs v (free v o)), marks-lives cs)

    go : Dec (mark cs c ≡ 0) → occ fs c ≡ mark cs c
    go (yes e) = omega (arith, below c)
    go (no n) = let (l, m) = mark-past cs c (omega arith) in sum_tight (length cs) (occ fs) (mark cs) below sums c l m

-- the chain of a sound pool has as many cells as are free
pub sound_chain_length : (p : Pool) (s : Sound p) → length s.chain.0 + lives p.cells ≡ length p.cells
sound_chain_length p s =
    omega (
      arith,
      marks-lives p.cells,
      upto_in (length p.cells) (occ s.chain.0) (mark p.cells) (λ c _ _. s.chain.2 c),
      upto-occ (length p.cells) s.chain.0 (λ v o. mark-past p.cells v (omega (arith, s.chain.2 v))),
    )
