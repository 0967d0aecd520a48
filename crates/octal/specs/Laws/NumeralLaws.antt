-- The digits of an atom as the code puts them: their number by the highest bit, the first ones, and behind them the last
-- ones of the number. By induction on the digits: a number of n + 1 digits has n before its last.
use Rattle.std.specs.Prelude.{ℕ, zero, suc, ◌+◌, ◌-◌, ◌*◌, ◌/◌, ◌%◌, ◌^◌, ◌≤◌, ◌<◌, ◌≡◌, refl, cond, List, [], ◌∷◌, ◌++◌, ltb, length}
use Rattle.std.proofs.Common.{sym, ap, ◌∙◌, append_assoc, append-nil, arith, length-append, pow-add, pow_mono, lt-ltb, le-ltb, ltb-true, ltb-false}
use Rattle.std.specs.Int.Count.{count_leading_zeros}
use Rattle.std.proofs.lemmas.Nat.{leading_top}
use Rattle.text.specs.Limits.{atoms_end, digits_most}
use Rattle.text.specs.ListText.{octal_f}
use Rattle.text.specs.Laws.RoundTrip.{Under, under}
use Rattle.text.specs.Laws.TextLaws.{by_case}
use Rattle.octal.specs.Numeral.{numeral, last_digits, cut}

-- ---- how many

low_bit : (v j : ℕ) → v < 8 → 2 ^ j ≤ v → 1 ≡ j / 3 + 1
low_bit v zero l lo = refl
low_bit v (suc zero) l lo = refl
low_bit v (suc (suc zero)) l lo = refl
low_bit v (suc (suc (suc i))) l lo = let p : 2 ^ 3 ≤ 2 ^ suc (suc (suc i)) = pow_mono {i = 3} {j = suc (suc (suc i))} (omega arith) in absurd (omega arith)

by_bit : (f v j : ℕ) → Under f v → 2 ^ j ≤ v → v < 2 ^ suc j → length (octal_f f v) ≡ j / 3 + 1
by_bit zero v j u lo hi = low_bit v j u lo
by_bit (suc f) v j u lo hi =
    by_case (ltb v 8) (λ (t : List ℕ). length t ≡ j / 3 + 1)
    (λ e. low_bit v j (ltb-true v 8 e) lo)
    (λ e. length-append (octal_f f (v / 8)) ((48 + v % 8) ∷ []) ∙ more j lo hi (ltb-false v 8 e) (λ i. by_bit f (v / 8) i u))
  where
    more : (j : ℕ) → 2 ^ j ≤ v → v < 2 ^ suc j → 8 ≤ v → ((i : ℕ) → 2 ^ i ≤ v / 8 → v / 8 < 2 ^ suc i → length (octal_f f (v / 8)) ≡ i / 3 + 1)
        → length (octal_f f (v / 8)) + 1 ≡ j / 3 + 1
    more zero lo hi l ih = absurd (omega arith)
    more (suc zero) lo hi l ih = absurd (omega arith)
    more (suc (suc zero)) lo hi l ih = absurd (omega arith)
    more (suc (suc (suc i))) lo hi l ih = omega (arith, ih i (omega (arith, pow-add 2 3 i)) (omega (arith, pow-add 2 3 (suc i))))

pub one-digit : (v : ℕ) → v < 8 → numeral v ≡ (48 + v) ∷ []
unfolding numeral
one-digit v l = rw (lt-ltb v 8 l)

-- as the machine counts the bits above the highest, of v or of v + 1, whichever is odd
pub digits_by_bit : (v : ℕ) → v < atoms_end → ((34 - count_leading_zeros 32 (v / 2 * 2 + 1)) / 3 ≡ length (numeral v)) × (length (numeral v) ≤ digits_most)
unfolding numeral
digits_by_bit v l = go (leading_top 32 (v / 2 * 2 + 1) (omega arith) (omega arith))
  where
    go : (j : ℕ) × (count_leading_zeros 32 (v / 2 * 2 + 1) + suc j ≡ 32) × (2 ^ j ≤ v / 2 * 2 + 1) × (v / 2 * 2 + 1 < 2 ^ suc j)
        → ((34 - count_leading_zeros 32 (v / 2 * 2 + 1)) / 3 ≡ length (numeral v)) × (length (numeral v) ≤ digits_most)
    go (zero, e, lo, hi) = let q = ap length (one-digit v (omega arith)) in (omega arith, omega arith)
    go (suc i, e, lo, hi) = let q = by_bit 10 v (suc i) (under v l) (omega (arith, pow-add 2 1 i)) (omega arith) in (omega arith, omega arith)

-- the same by the place of the highest bit, counted from 0
pub digits_by_place : (v : ℕ) → v < atoms_end → ((31 - count_leading_zeros 32 (v / 2 * 2 + 1)) / 3 + 1 ≡ length (numeral v)) × (length (numeral v) ≤ digits_most)
digits_by_place v l =
    let (j, e, lo, hi) = leading_top 32 (v / 2 * 2 + 1) (omega arith) (omega arith) in
    let q = digits_by_bit v l in
    (omega (arith, e, q.0), q.1)

pub some_digits : (v : ℕ) → 1 ≤ length (numeral v)
unfolding numeral
some_digits v =
    by_case (ltb v 8) (λ (t : List ℕ). 1 ≤ length t) (λ e. omega arith) (λ e. omega (arith, length-append (octal_f 9 (v / 8)) ((48 + v % 8) ∷ [])))

-- ---- the last ones

pub length_last : (n v : ℕ) → length (last_digits n v) ≡ n
unfolding last_digits
length_last zero v = refl
length_last (suc n) v = omega (arith, length-append (last_digits n (v / 8)) ((48 + v % 8) ∷ []), length_last n (v / 8))

-- m of them, and n behind these
pub last_parts : (m n v : ℕ) → last_digits (m + n) v ≡ last_digits m (cut n v) ++ last_digits n v
unfolding last_digits
last_parts m zero v =
    let e : m + 0 ≡ m = omega arith in
    ap (λ (k : ℕ). last_digits k v) e ∙ sym (append-nil (last_digits m v))
last_parts m (suc n) v =
    let e : m + suc n ≡ suc (m + n) = omega arith in
    let d : List ℕ = (48 + v % 8) ∷ [] in
    ap (λ (k : ℕ). last_digits k v) e ∙ ap (λ (t : List ℕ). t ++ d) (last_parts m n (v / 8)) ∙ append_assoc (last_digits m (cut n (v / 8))) (last_digits n (v / 8)) d

-- ---- the first ones, and the last

same_digits : (f g v : ℕ) → Under f v → Under g v → octal_f f v ≡ octal_f g v
same_digits zero zero v u w = refl
same_digits zero (suc g) v u w = rw (lt-ltb v 8 u)
same_digits (suc f) zero v u w = rw (lt-ltb v 8 w)
same_digits (suc f) (suc g) v u w =
    ap (λ (t : List ℕ). cond (ltb v 8) ((48 + v) ∷ []) (t ++ ((48 + v % 8) ∷ []))) (same_digits f g (v / 8) u w)

some_left : (n v : ℕ) → 1 ≤ cut n v → 1 ≤ v
some_left zero v l = l
some_left (suc n) v l = omega (arith, some_left n (v / 8) l)

first-last : (n f g v : ℕ) → Under f v → Under g (cut n v) → 1 ≤ cut n v → octal_f f v ≡ octal_f g (cut n v) ++ last_digits n v
unfolding last_digits
first-last zero f g v u w l = same_digits f g v u w ∙ sym (append-nil (octal_f g v))
first-last (suc n) zero g v u w l = absurd (omega (arith, some_left n (v / 8) l))
first-last (suc n) (suc f) g v u w l =
    let d : List ℕ = (48 + v % 8) ∷ [] in
    rw (le-ltb v 8 (omega (arith, some_left n (v / 8) l)))
    (ap (λ (t : List ℕ). t ++ d) (first-last n f g (v / 8) u w l) ∙ append_assoc (octal_f g (cut n (v / 8))) (last_digits n (v / 8)) d)

pub numeral_parts : (n v : ℕ) → v < atoms_end → cut n v < atoms_end → 1 ≤ cut n v → numeral v ≡ numeral (cut n v) ++ last_digits n v
unfolding numeral
numeral_parts n v h k l = first-last n 10 10 v (under v h) (under (cut n v) k) l

-- a number of n + 1 digits
pub numeral-last : (n v : ℕ) → v < atoms_end → 1 ≤ cut n v → cut n v < 8 → numeral v ≡ last_digits (1 + n) v
unfolding last_digits
numeral-last n v h l m =
    let e : cut n v ≡ cut n v % 8 = omega arith in
    numeral_parts n v h (omega arith) l ∙ ap (λ (t : List ℕ). t ++ last_digits n v) (one-digit (cut n v) m ∙ ap (λ (d : ℕ). (48 + d) ∷ []) e)
    ∙ sym (last_parts 1 n v)
