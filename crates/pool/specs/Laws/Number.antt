-- How many cells have a property.
use Rattle.std.specs.Prelude.{◌≡◌, refl, ◌≢◌, ◌⊎◌, List, [], ◌∷◌, ℕ, zero, suc, ◌+◌, ◌-◌, ◌≤◌, length}
use Rattle.std.proofs.Common.{sym, ap, subst, inl, inr, arith}
use Rattle.std.proofs.Math.Decide.{ℕ_discrete}
use Rattle.lists.specs.Lst.{len}
use Rattle.pool.specs.Tally.{tally, Number, start, hit, miss}
use Rattle.pool.specs.Pool.{Cell, at, count_of, Live, if_live, lives}
use Rattle.pool.specs.Laws.Arrows.{if_live_pos, if_live-zero}
use Rattle.pool.specs.Laws.Reach.{upto}
use Rattle.pool.specs.Laws.Frame.{Kept}

pub Number-map : (P Q : ℕ → Type 0) → ((c : ℕ) → c ≢ 0 → P c → Q c) → ((c : ℕ) → c ≢ 0 → Q c → P c) → {k n : ℕ} → Number P k n → Number Q k n
Number-map P Q f g start = start
Number-map P Q f g (hit {k = k} p r) = hit (f (suc k) (omega arith) p) (Number-map P Q f g r)
Number-map P Q f g (miss {k = k} p r) = miss (λ q. p (g (suc k) (omega arith) q)) (Number-map P Q f g r)

upto-suc : (n : ℕ) (f : ℕ → ℕ) → upto (suc n) f ≡ f 1 + upto n (λ c. f (suc c))
unfolding upto
upto-suc zero f = omega arith
upto-suc (suc n) f = omega (arith, upto-suc n f)

pub upto-sub : (n : ℕ) (f g : ℕ → ℕ) → ((c : ℕ) → g c ≤ f c) → upto n (λ c. f c - g c) + upto n g ≡ upto n f
unfolding upto
upto-sub zero f g h = omega arith
upto-sub (suc n) f g h = omega (arith, upto-sub n f g h, h (suc n))

upto_cong : (n : ℕ) (f g : ℕ → ℕ) → ((c : ℕ) → f (suc c) ≡ g (suc c)) → upto n f ≡ upto n g
unfolding upto
upto_cong zero f g h = refl
upto_cong (suc n) f g h = omega (arith, upto_cong n f g h, h n)

pub tally-upto : (f : Cell → ℕ) (cs : List Cell) → tally f cs ≡ upto (length cs) (λ c. f (at cs c))
unfolding upto tally
tally-upto f [] = refl
tally-upto f (x ∷ xs) =
    omega (arith, tally-upto f xs, upto-suc (length xs) (λ c. f (at (x ∷ xs) c)), upto_cong (length xs) (λ c. f (at xs c)) (λ c. f (at (x ∷ xs) (suc c))) (λ c. refl))

pub number-upto : (P : ℕ → Type 0) (k : ℕ) (g : ℕ → ℕ) → ((c : ℕ) → ((g c ≡ 1) × P c) ⊎ ((g c ≡ 0) × (P c → ⊥))) → Number P k (upto k g)
unfolding upto
number-upto P zero g h = start
number-upto P (suc k) g h = go (h (suc k)) (number-upto P k g h)
  where
    go : ((g (suc k) ≡ 1) × P (suc k)) ⊎ ((g (suc k) ≡ 0) × (P (suc k) → ⊥)) → Number P k (upto k g) → Number P (suc k) (upto k g + g (suc k))
    go (inl (e, p)) r = subst (Number P (suc k)) (omega arith) (hit p r)
    go (inr (e, p)) r = subst (Number P (suc k)) (omega arith) (miss p r)

live1 : List Cell → ℕ → ℕ
live1 cs c = if_live (count_of cs c) 1

live_cases : (cs : List Cell) (c : ℕ) → ((live1 cs c ≡ 1) × Live cs c) ⊎ ((live1 cs c ≡ 0) × (Live cs c → ⊥))
unfolding live1
live_cases cs c = go (ℕ_discrete (count_of cs c) 0)
  where
    go : Dec (count_of cs c ≡ 0) → ((if_live (count_of cs c) 1 ≡ 1) × Live cs c) ⊎ ((if_live (count_of cs c) 1 ≡ 0) × (Live cs c → ⊥))
    go (yes z) = inr (if_live-zero (count_of cs c) 1 z, λ l. omega arith)
    go (no z) = inl (if_live_pos (count_of cs c) 1 (omega arith), omega arith)

-- the live cells are counted by `lives`
pub number_live : (cs : List Cell) → Number (Live cs) (length cs) (lives cs)
unfolding lives live1
number_live cs =
    subst (Number (Live cs) (length cs)) (sym (tally-upto (λ x. if_live x.count 1) cs)) (number-upto (Live cs) (length cs) (live1 cs) (live_cases cs))

-- those that were live and are not: by how much `lives` has gone down
pub number_freed : (cs ds : List Cell) (n : ℕ) → Kept cs ds → length ds ≡ length cs → n + lives ds ≡ lives cs
    → Number (λ c. Live cs c × (Live ds c → ⊥)) (length cs) n
unfolding lives live1
number_freed cs ds n k len e =
    subst (Number (λ c. Live cs c × (Live ds c → ⊥)) (length cs))
    (omega (arith, upto-sub (length cs) (live1 cs) (live1 ds) below, tally-upto (λ x. if_live x.count 1) cs, tally-upto (λ x. if_live x.count 1) ds, ap (λ m. upto m (live1 ds)) len))
    (number-upto (λ c. Live cs c × (Live ds c → ⊥)) (length cs) (λ c. live1 cs c - live1 ds c) cases)
  where
    below : (c : ℕ) → live1 ds c ≤ live1 cs c
    below c = go (live_cases ds c) (live_cases cs c)
      where
        go : ((live1 ds c ≡ 1) × Live ds c) ⊎ ((live1 ds c ≡ 0) × (Live ds c → ⊥))
            → ((live1 cs c ≡ 1) × Live cs c) ⊎ ((live1 cs c ≡ 0) × (Live cs c → ⊥)) → live1 ds c ≤ live1 cs c
        go (inr (z, _)) _ = omega arith
        go (inl (z, l)) (inl (y, _)) = omega arith
        go (inl (z, l)) (inr (y, d)) = absurd (d (k c l).0)

    cases : (c : ℕ) → ((live1 cs c - live1 ds c ≡ 1) × (Live cs c × (Live ds c → ⊥))) ⊎ ((live1 cs c - live1 ds c ≡ 0) × (Live cs c × (Live ds c → ⊥) → ⊥))
    cases c = go (live_cases cs c) (live_cases ds c)
      where
        go : ((live1 cs c ≡ 1) × Live cs c) ⊎ ((live1 cs c ≡ 0) × (Live cs c → ⊥)) → ((live1 ds c ≡ 1) × Live ds c) ⊎ ((live1 ds c ≡ 0) × (Live ds c → ⊥))
            → ((live1 cs c - live1 ds c ≡ 1) × (Live cs c × (Live ds c → ⊥))) ⊎ ((live1 cs c - live1 ds c ≡ 0) × (Live cs c × (Live ds c → ⊥) → ⊥))
        go (inl (z, l)) (inl (y, m)) = inr (omega arith, λ g. g.1 m)
        go (inl (z, l)) (inr (y, m)) = inl (omega arith, (l, m))
        go (inr (z, l)) _ = inr (omega arith, λ g. l g.0)
