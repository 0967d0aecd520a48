-- Room: how many cells are live and how many free, and that the free chain is empty exactly if all are live.
use Rattle.std.specs.Prelude.{◌≡◌, refl, ◌≢◌, List, [], ◌∷◌, ℕ, zero, suc, ◌+◌, ◌≤◌, ◌<◌, length}
use Rattle.std.proofs.Common.{sym, ◌∙◌, arith}
use Rattle.std.proofs.Math.Decide.{ℕ_discrete}
use Rattle.pool.specs.Tally.{same, tally, occ}
use Rattle.pool.specs.Laws.TallyLaws.{same_eq, same_ne, same_of, same_pos}
use Rattle.pool.specs.Pool.{Cell, count_of, Chain, mark, lives, frees}
use Rattle.pool.specs.Laws.Edit.{mark-cell}
use Rattle.pool.specs.Laws.Held.{Held}
use Rattle.pool.specs.Laws.Arrows.{if_live_pos, if_live-zero}
use Rattle.pool.specs.Laws.Reach.{upto}
use Rattle.pool.specs.Laws.Number.{tally-upto}
use Rattle.pool.specs.Laws.SoundLaws.{none_aside}

lives-full : (cs : List Cell) → ((c : ℕ) → mark cs c ≡ 0) → lives cs ≡ length cs
unfolding lives tally mark
lives-full [] h = refl
lives-full (x ∷ xs) h =
    let n : x.count ≢ 0 = λ e. let o = h 1 in let s = same_of x.count 0 e in omega arith in
    omega (arith, lives-full xs (shifted xs h), if_live_pos x.count 1 (omega arith))
  where
    shifted : (ys : List Cell) → ((c : ℕ) → mark (x ∷ ys) c ≡ 0) → (c : ℕ) → mark ys c ≡ 0
    shifted ys g zero = refl
    shifted [] g (suc c) = refl
    shifted (y ∷ ys) g (suc c) = g (suc (suc c))

pub lives_le : (cs : List Cell) → lives cs ≤ length cs
unfolding lives tally
lives_le [] = omega arith
lives_le (x ∷ xs) = go (lives_le xs) (ℕ_discrete x.count 0)
  where
    go : lives xs ≤ length xs → Dec (x.count ≡ 0) → lives (x ∷ xs) ≤ length (x ∷ xs)
    go r (yes e) = omega (arith, if_live-zero x.count 1 e)
    go r (no n) = omega (arith, if_live_pos x.count 1 (omega arith))

lives_gap : (cs : List Cell) (c : ℕ) → 0 < mark cs c → lives cs < length cs
unfolding lives tally mark
lives_gap cs zero h = absurd (omega arith)
lives_gap [] (suc i) h = absurd (omega arith)
lives_gap (x ∷ xs) (suc zero) h = omega (arith, if_live-zero x.count 1 (same_pos x.count 0 h), lives_le xs)
lives_gap (x ∷ xs) (suc (suc i)) h = go (ℕ_discrete x.count 0) (lives_gap xs (suc i) h)
  where
    go : Dec (x.count ≡ 0) → lives xs < length xs → lives (x ∷ xs) < length (x ∷ xs)
    go (yes e) r = omega (arith, if_live-zero x.count 1 e)
    go (no n) r = omega (arith, if_live_pos x.count 1 (omega arith))

pub room : (f : ℕ) (cs : List Cell) (r : ℕ → ℕ) → Held f cs r none_aside → lives cs < length cs → f ≢ 0
unfolding Chain tally
room f cs r h l e = go h.chain.0 h.chain.1 h.chain.2
  where
    go : (fs : List ℕ) → Chain cs f fs → ((c : ℕ) → occ fs c + 0 ≡ mark cs c) → ⊥
    go [] k m = omega (arith, lives-full cs (λ c. omega (arith, m c)))
    go (g ∷ gs) k m = k.1 (sym k.0 ∙ e)

pub no_room : (f : ℕ) (cs : List Cell) (r : ℕ → ℕ) → Held f cs r none_aside → f ≢ 0 → lives cs < length cs
unfolding Chain tally
no_room f cs r h n = go h.chain.0 h.chain.1 h.chain.2
  where
    go : (fs : List ℕ) → Chain cs f fs → ((c : ℕ) → occ fs c + 0 ≡ mark cs c) → lives cs < length cs
    go [] k m = absurd (n k)
    go (g ∷ gs) k m = lives_gap cs g (omega (arith, m g, same_eq g))

pub upto_in : (n : ℕ) (f g : ℕ → ℕ) → ((c : ℕ) → 0 < c → c ≤ n → f c ≡ g c) → upto n f ≡ upto n g
unfolding upto
upto_in zero f g h = refl
upto_in (suc n) f g h = omega (arith, upto_in n f g (λ c l m. h c l (omega arith)), h (suc n) (omega arith) (omega arith))

-- every cell is free or live
pub frees-lives : (cs : List Cell) → frees cs + lives cs ≡ length cs
unfolding tally lives frees
frees-lives [] = refl
frees-lives (x ∷ xs) = go (frees-lives xs) (ℕ_discrete x.count 0)
  where
    go : frees xs + lives xs ≡ length xs → Dec (x.count ≡ 0) → frees (x ∷ xs) + lives (x ∷ xs) ≡ length (x ∷ xs)
    go r (yes e) = omega (arith, if_live-zero x.count 1 e, same_of x.count 0 e)
    go r (no n) = omega (arith, if_live_pos x.count 1 (omega arith), same_ne x.count 0 n)

pub marks-lives : (cs : List Cell) → upto (length cs) (mark cs) + lives cs ≡ length cs
unfolding frees
marks-lives cs =
    omega (arith, frees-lives cs, tally-upto (λ x. same x.count 0) cs, upto_in (length cs) (mark cs) (λ c. same (count_of cs c) 0) (λ c l m. mark-cell cs c l m))

pub room_aside : (f : ℕ) (cs : List Cell) (r a : ℕ → ℕ) → Held f cs r a → upto (length cs) a + lives cs < length cs → f ≢ 0
unfolding Chain tally
room_aside f cs r a h l e = go h.chain.0 h.chain.1 h.chain.2
  where
    go : (fs : List ℕ) → Chain cs f fs → ((c : ℕ) → occ fs c + a c ≡ mark cs c) → ⊥
    go [] k m = omega (arith, marks-lives cs, upto_in (length cs) a (mark cs) (λ c _ _. omega (arith, m c)))
    go (g ∷ gs) k m = k.1 (sym k.0 ∙ e)
