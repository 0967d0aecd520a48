-- What a call has put, with what was put before it: digits of a number right behind its first ones.
use Rattle.std.specs.Prelude.{ℕ, ◌+◌, ◌/◌, ◌%◌, ◌≤◌, ◌<◌, ◌≡◌, List, [], ◌∷◌, ◌++◌, length, set}
use Rattle.std.proofs.Common.{sym, ap, ◌∙◌, arith, length-append, length-set}
use Rattle.stores.specs.Pasted.{pasted}
use Rattle.stores.specs.Laws.PastedLaws.{pasted-one, pasted_then}
use Rattle.text.specs.Limits.{atoms_end}
use Rattle.octal.specs.Numeral.{numeral, last_digits, cut}
use Rattle.octal.specs.Laws.NumeralLaws.{one-digit, length_last, last_parts, numeral_parts, numeral-last}

pub one-put : (old : List ℕ) (at v : ℕ) → at < length old → v < 8 → set old at (48 + v) ≡ pasted old at (numeral v)
one-put old at v l m = pasted-one old at (48 + v) l ∙ ap (pasted old at) (sym (one-digit v m))

pub two-put : (old : List ℕ) (at v : ℕ) → at + 2 ≤ length old → set (set old at (48 + v / 8 % 8)) (at + 1) (48 + v % 8) ≡ pasted old at (last_digits 2 v)
unfolding last_digits
two-put old at v l =
    let d : ℕ = 48 + v / 8 % 8 in
    let e : ℕ = 48 + v % 8 in
    pasted-one (set old at d) (at + 1) e (omega (arith, length-set old at d))
    ∙ ap (λ (t : List ℕ). pasted t (at + 1) (e ∷ [])) (pasted-one old at d (omega arith)) ∙ pasted_then old at (d ∷ []) (e ∷ []) (omega arith)

module _ (old : List ℕ) (at : ℕ) (low : at ≤ length old) where
  -- the last n digits behind m others
  pub halves : (m n v u : ℕ) {mid new : List ℕ} → u ≡ cut n v → mid ≡ pasted old at (last_digits m u) → new ≡ pasted mid (at + m) (last_digits n v)
      → new ≡ pasted old at (last_digits (m + n) v)
  halves m n v u c p q =
      q ∙ ap (λ (t : List ℕ). pasted t (at + m) (last_digits n v)) p
      ∙ ap (λ (k : ℕ). pasted (pasted old at (last_digits m u)) (at + k) (last_digits n v)) (sym (length_last m u))
      ∙ pasted_then old at (last_digits m u) (last_digits n v) low
      ∙ ap (λ (x : ℕ). pasted old at (last_digits m x ++ last_digits n v)) c ∙ ap (pasted old at) (sym (last_parts m n v))

  -- the last n digits behind all the others
  pub all-put : (n v u k : ℕ) {mid new : List ℕ} → numeral v ≡ numeral u ++ last_digits n v → k ≡ length (numeral u) → mid ≡ pasted old at (numeral u)
      → new ≡ pasted mid (at + k) (last_digits n v) → new ≡ pasted old at (numeral v)
  all-put n v u k e c p q =
      q ∙ ap (λ (t : List ℕ). pasted t (at + k) (last_digits n v)) p ∙ ap (λ (i : ℕ). pasted (pasted old at (numeral u)) (at + i) (last_digits n v)) c
      ∙ pasted_then old at (numeral u) (last_digits n v) low ∙ ap (pasted old at) (sym e)

-- u is v without its last n digits
parts : (n v u : ℕ) → v < atoms_end → u ≡ cut n v → 1 ≤ u → u < atoms_end → numeral v ≡ numeral u ++ last_digits n v
parts n v u h c some below = numeral_parts n v h (omega arith) (omega arith) ∙ ap (λ (x : ℕ). numeral x ++ last_digits n v) (sym c)

-- behind its first digits a number has two more, four more or eight more
pub two-more : (v : ℕ) → v < atoms_end → 64 ≤ v → numeral v ≡ numeral (v / 64) ++ last_digits 2 v
two-more v h l = parts 2 v (v / 64) h (omega arith) (omega arith) (omega arith)

pub four-more : (v : ℕ) → v < atoms_end → 4096 ≤ v → numeral v ≡ numeral (v / 4096) ++ last_digits 4 v
four-more v h l = parts 4 v (v / 4096) h (omega arith) (omega arith) (omega arith)

pub eight_more : (v : ℕ) → v < atoms_end → 16777216 ≤ v → numeral v ≡ numeral (v / 16777216) ++ last_digits 8 v
eight_more v h l = parts 8 v (v / 16777216) h (omega arith) (omega arith) (omega arith)

pub more-size : (n v u : ℕ) → numeral v ≡ numeral u ++ last_digits n v → length (numeral u) + n ≡ length (numeral v)
more-size n v u e = omega (arith, ap length e, length-append (numeral u) (last_digits n v), length_last n v)

-- a number of two digits, and one of four
pub two-all : (v : ℕ) → 8 ≤ v → v < 64 → numeral v ≡ last_digits 2 v
two-all v l h = numeral-last 1 v (omega arith) (omega arith) (omega arith)

pub four-all : (v : ℕ) → 512 ≤ v → v < 4096 → numeral v ≡ last_digits 4 v
four-all v l h = numeral-last 3 v (omega arith) (omega arith) (omega arith)

pub last-size : (n v : ℕ) → numeral v ≡ last_digits n v → n ≡ length (numeral v)
last-size n v e = sym (length_last n v) ∙ ap length (sym e)
