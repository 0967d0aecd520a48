-- The bytes that are no blanks: none in blanks alone and in nothing else, and counted along a text.
use Rattle.std.specs.Prelude.{ℕ, zero, suc, ◌+◌, ◌<◌, ◌≤◌, ◌≡◌, ◌≢◌, Bool, true, false, cond, List, [], ◌∷◌, eqb, length, replicate, get_or, drop}
use Rattle.std.proofs.Math.Path.{refl, ap}
use Rattle.std.proofs.Common.{◌∙◌, arith, drop_of_length-le, drop-cons, eqb-true, eq-eqb, ne_eqb}
use Rattle.text.specs.Text.{others}

pub blanks_only : (k : ℕ) → others (replicate k 32) ≡ 0
unfolding others
blanks_only zero = refl
blanks_only (suc k) = blanks_only k

pub only_blanks : (s : List ℕ) → others s ≡ 0 → s ≡ replicate (length s) 32
unfolding others
only_blanks [] e = refl
only_blanks (b ∷ s) e = go (eqb b 32) refl (only_blanks s) e
  where
    go : (c : Bool) → eqb b 32 ≡ c → (others s ≡ 0 → s ≡ replicate (length s) 32) → cond c (others s) (suc (others s)) ≡ 0
        → b ∷ s ≡ 32 ∷ replicate (length s) 32
    go true q r z = ap (λ (x : ℕ). x ∷ s) (eqb-true b 32 q) ∙ ap (λ (t : List ℕ). 32 ∷ t) (r z)
    go false q r z = absurd (omega arith)

pub starts_other : (b : ℕ) (s : List ℕ) → b ≢ 32 → others (b ∷ s) ≢ 0
unfolding others
starts_other b s n = rw (ne_eqb b 32 n) (λ e. omega arith)

-- byte by byte
module _ (s : List ℕ) (i : ℕ) where
  pub others_out : length s ≤ i → others (drop i s) ≡ 0
  unfolding others
  others_out h = ap others (drop_of_length-le s h)

  on : i < length s → drop i s ≡ get_or s i 0 ∷ drop (i + 1) s
  on h = let e : suc i ≡ i + 1 = omega arith in drop-cons s i 0 h ∙ ap (λ (k : ℕ). get_or s i 0 ∷ drop k s) e

  pub a_blank : i < length s → get_or s i 0 ≡ 32 → others (drop i s) ≡ others (drop (i + 1) s)
  unfolding others
  a_blank h e = ap others (on h) ∙ rw (eq-eqb (get_or s i 0) 32 e) refl

  pub an_other : i < length s → get_or s i 0 ≢ 32 → others (drop i s) ≡ suc (others (drop (i + 1) s))
  unfolding others
  an_other h n = ap others (on h) ∙ rw (ne_eqb (get_or s i 0) 32 n) refl
