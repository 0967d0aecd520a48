-- A pool that is set up is sound, and all its cells are free.
use Rattle.std.specs.Prelude.{◌≡◌, refl, ◌≢◌, ◌⊎◌, List, [], ◌∷◌, ℕ, zero, suc, ◌+◌, ◌≤◌, ◌<◌, length, replicate, get_or}
use Rattle.std.proofs.Common.{sym, ap, ◌∙◌, subst, inl, inr, arith}
use Rattle.std.proofs.Math.Decide.{ℕ_discrete}
use Rattle.std.proofs.lemmas.List.{length-replicate}
use Rattle.pool.specs.Tally.{tally, occ}
use Rattle.pool.specs.Laws.TallyLaws.{same_ne, same_of, Same, eq, ne, same?}
use Rattle.pool.specs.Pool.{at, count_of, next_of, holder, if_live, sends, Walk, Chain, mark, lives, frees, Sound, into}
use Rattle.pool.specs.Operations.{laid, fresh}
use Rattle.pool.specs.Laws.Edit.{find_tally, mark-cell, mark-past}
use Rattle.pool.specs.Laws.Arrows.{sends-free}
use Rattle.pool.specs.Laws.SoundLaws.{held_sound}
use Rattle.pool.specs.Laws.Room.{frees-lives}

laid-length : (i m : ℕ) → length (laid i m) ≡ m
unfolding laid
laid-length i zero = refl
laid-length i (suc zero) = refl
laid-length i (suc (suc m)) = ap suc (laid-length (suc i) (suc m))

laid_count : (i m c : ℕ) → count_of (laid i m) c ≡ 0
unfolding laid
laid_count i m zero = refl
laid_count i zero (suc c) = refl
laid_count i (suc zero) (suc zero) = refl
laid_count i (suc zero) (suc (suc c)) = refl
laid_count i (suc (suc m)) (suc zero) = refl
laid_count i (suc (suc m)) (suc (suc c)) = laid_count (suc i) (suc m) (suc c)

laid_next : (i m c : ℕ) → suc c < m → next_of (laid i m) (suc c) ≡ suc (suc (i + c))
unfolding laid
laid_next i zero c h = absurd (omega arith)
laid_next i (suc zero) c h = absurd (omega arith)
laid_next i (suc (suc m)) zero h = omega arith
laid_next i (suc (suc m)) (suc c) h = omega (arith, laid_next (suc i) (suc m) c (omega arith))

laid_end : (i m : ℕ) → next_of (laid i (suc m)) (suc m) ≡ 0
unfolding laid
laid_end i zero = refl
laid_end i (suc m) = laid_end (suc i) m

-- j + 1 to j + k
unfoldable pub ups : ℕ → ℕ → List ℕ
ups j zero = []
ups j (suc k) = suc j ∷ ups (suc j) k

occ-ups : (j k c : ℕ) → ((j < c) × (c ≤ j + k) × (occ (ups j k) c ≡ 1)) ⊎ ((j < c → c ≤ j + k → ⊥) × (occ (ups j k) c ≡ 0))
unfolding ups tally
occ-ups j zero c = inr (λ l m. omega arith, refl)
occ-ups j (suc k) c = go (same? (suc j) c) (occ-ups (suc j) k c)
  where
    go : Same (suc j) c → ((suc j < c) × (c ≤ suc j + k) × (occ (ups (suc j) k) c ≡ 1)) ⊎ ((suc j < c → c ≤ suc j + k → ⊥) × (occ (ups (suc j) k) c ≡ 0))
        → ((j < c) × (c ≤ j + suc k) × (occ (ups j (suc k)) c ≡ 1)) ⊎ ((j < c → c ≤ j + suc k → ⊥) × (occ (ups j (suc k)) c ≡ 0))
    go (eq e s) (inl (l, m, o)) = absurd (omega arith)
    go (eq e s) (inr (l, o)) = inl (omega arith, omega arith, omega arith)
    go (ne n s) (inl (l, m, o)) = inl (omega arith, omega arith, omega arith)
    go (ne n s) (inr (l, o)) = inr (λ u v. l (omega arith) (omega arith), omega arith)

chain_ups : (n k j : ℕ) → j + suc k ≡ n → Chain (laid 0 n) (suc j) (ups j (suc k))
unfolding ups Chain
chain_ups n zero j e =
    let z : next_of (laid 0 (suc j)) (suc j) ≡ 0 = laid_end 0 j in
    let q : suc j ≡ n = omega arith in
    (refl, omega arith, subst (λ u. next_of (laid 0 u) (suc j) ≡ 0) q z)
chain_ups n (suc k) j e = (
  refl,
  omega arith,
  subst (λ u. Chain (laid 0 n) u (ups (suc j) (suc k))) (sym (laid_next 0 n j (omega arith) ∙ omega arith)) (chain_ups n k (suc j)
      (omega arith)),
)

zeros : (k c : ℕ) → c ≢ 0 → occ (replicate k 0) c ≡ 0
unfolding tally
zeros zero c n = refl
zeros (suc k) c n = omega (arith, zeros k c n, same_ne 0 c (λ q. n (sym q)))

pub fresh_sound : (n k : ℕ) → 0 < n → Sound (fresh n k)
unfolding fresh Walk
fresh_sound zero k l = absurd (omega arith)
fresh_sound (suc m) k l = held_sound (fresh (suc m) k) (record {
  law = λ c n. omega (arith, laid_count 0 (suc m) c, zeros k c n, no_arrows c);
  kinds = λ c v. absurd (omega (arith, laid_count 0 (suc m) c));
  chain = (ups 0 (suc m), chain_ups (suc m) m 0 (omega arith), λ c. marked c (occ-ups 0 (suc m) c));
  acyclic = λ c n w. omega (arith, w.1.0, laid_count 0 (suc m) c);
})
  where
    no_arrows : (c : ℕ) → into (laid 0 (suc m)) c ≡ 0
    no_arrows c = go (ℕ_discrete (into (laid 0 (suc m)) c) 0)
      where
        go : Dec (into (laid 0 (suc m)) c ≡ 0) → into (laid 0 (suc m)) c ≡ 0
        go (yes e) = e
        go (no n) =
            let (b, v) = find_tally (sends c) (laid 0 (suc m)) (omega arith) in
            absurd (omega (arith, sends-free c (at (laid 0 (suc m)) b) (laid_count 0 (suc m) b)))

    marked : (c : ℕ) → ((0 < c) × (c ≤ 0 + suc m) × (occ (ups 0 (suc m)) c ≡ 1)) ⊎ ((0 < c → c ≤ 0 + suc m → ⊥) × (occ (ups 0 (suc m)) c ≡ 0))
        → occ (ups 0 (suc m)) c + 0 ≡ mark (laid 0 (suc m)) c
    marked c (inl (a, b, o)) =
        omega (arith, mark-cell (laid 0 (suc m)) c a (omega (arith, laid-length 0 (suc m))), same_of (count_of (laid 0 (suc m)) c) 0 (laid_count 0 (suc m) c))
    marked c (inr (f, o)) = go (ℕ_discrete (mark (laid 0 (suc m)) c) 0)
      where
        go : Dec (mark (laid 0 (suc m)) c ≡ 0) → occ (ups 0 (suc m)) c + 0 ≡ mark (laid 0 (suc m)) c
        go (yes e) = omega arith
        go (no n) = let (u, v) = mark-past (laid 0 (suc m)) c (omega arith) in absurd (f u (omega (arith, laid-length 0 (suc m))))

pub fresh_holders : (n k : ℕ) → length (fresh n k).holders ≡ k
unfolding fresh
fresh_holders n k = length-replicate k 0

pub fresh_cells : (n k : ℕ) → length (fresh n k).cells ≡ n
unfolding fresh
fresh_cells n k = laid-length 0 n

pub zero-at : (k h : ℕ) (z : ℕ) → z ≡ 0 → get_or (replicate k z) h 0 ≡ 0
zero-at zero h z e = refl
zero-at (suc k) zero z e = e
zero-at (suc k) (suc h) z e = zero-at k h z e

pub fresh-null : (n k h : ℕ) → holder (fresh n k) h ≡ 0
unfolding fresh
fresh-null n k h = zero-at k h 0 refl

-- no cell is live, so all are free
laid-lives : (i m : ℕ) → lives (laid i m) ≡ 0
unfolding laid lives tally if_live
laid-lives i zero = refl
laid-lives i (suc zero) = refl
laid-lives i (suc (suc m)) = omega (arith, laid-lives (suc i) (suc m))

pub fresh-frees : (n k : ℕ) → frees (fresh n k).cells ≡ n
unfolding fresh
fresh-frees n k = omega (arith, frees-lives (laid 0 n), laid-lives 0 n, laid-length 0 n)
