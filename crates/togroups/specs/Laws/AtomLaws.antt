-- Digits gathered from the last to the first.
use Rattle.std.specs.Prelude.{ℕ, zero, suc, ◌+◌, ◌-◌, ◌*◌, ◌^◌, ◌<◌, ◌≤◌, ◌≡◌, Bool, true, false, cond, List, [], ◌∷◌, leb, ltb, length, get_or, drop}
use Rattle.std.proofs.Common.{sym, ap, ◌∙◌, mul-le-mul_right, arith, drop_of_length-le, drop-cons, leb-true, ltb-true, ltb-false}
use Rattle.std.proofs.Math.Nat.{pow-le-pow_right}
use Rattle.groups.specs.Groups.{numbers_end}
use Rattle.scan.specs.Runs.{digit_run, numeral}
use Rattle.text.specs.Limits.{digits_most}
use Rattle.text.specs.ListText.{is_digit_byte}
use Rattle.text.specs.Laws.TextLaws.{by_case, decide, no_yes}
use Rattle.togroups.specs.Atoms.{Textual, Ends, Gathered, Before}
use Rattle.togroups.specs.Backward.{Runs}
use Rattle.togroups.specs.declared.atoms.Atom.{Atom}

pub digit_low : (b : ℕ) → is_digit_byte b ≡ true → (48 ≤ b) × (b ≤ 55)
digit_low b =
    by_case (leb 48 b) (λ (t : Bool). t ≡ true → (48 ≤ b) × (b ≤ 55)) {x = leb b 55} {y = false}
    (λ e f. (leb-true _ _ e, leb-true _ _ f)) (λ e f. no_yes f)

-- the value of digits after one, and how many they are
numeral-on : (b : ℕ) (u : List ℕ) (v : ℕ) → is_digit_byte b ≡ true → numeral v (b ∷ u) ≡ numeral (v * 8 + (b - 48)) u
numeral-on b u v e = ap (λ (c : Bool). cond c (numeral (v * 8 + (b - 48)) u) v) e

power_on : (b : ℕ) (u : List ℕ) → is_digit_byte b ≡ true → 8 ^ digit_run (b ∷ u) ≡ 8 * 8 ^ digit_run u
power_on b u e =
    let p : 8 ^ suc (digit_run u) ≡ 8 * 8 ^ digit_run u = omega arith in
    ap (λ (c : Bool). 8 ^ cond c (suc (digit_run u)) 0) e ∙ p

shared : (v x p n : ℕ) → (v * 8 + x) * p + n ≡ v * (8 * p) + ((0 * 8 + x) * p + n)
shared v x p n = omega arith

-- digits before others are worth 8 for each of them
over : (u : List ℕ) (v : ℕ) → numeral v u ≡ v * 8 ^ digit_run u + numeral 0 u
over [] v = omega arith
over (b ∷ u) v =
    decide (is_digit_byte b) (numeral v (b ∷ u) ≡ v * 8 ^ digit_run (b ∷ u) + numeral 0 (b ∷ u))
    (λ e. numeral-on b u v e ∙ over u (v * 8 + (b - 48)) ∙ shared v (b - 48) (8 ^ digit_run u) (numeral 0 u)
    ∙ ap (λ (n : ℕ). v * (8 * 8 ^ digit_run u) + n) (sym (over u (0 * 8 + (b - 48))) ∙ sym (numeral-on b u 0 e))
    ∙ ap (λ (p : ℕ). v * p + numeral 0 (b ∷ u)) (sym (power_on b u e)))
    (λ e. rw e (omega arith))

below : (x p n : ℕ) → x ≤ 7 → n < p → (0 * 8 + x) * p + n < 8 * p
below x p n h l = omega (arith, mul-le-mul_right p h)

small : (u : List ℕ) → numeral 0 u < 8 ^ digit_run u
small [] = omega arith
small (b ∷ u) =
    decide (is_digit_byte b) (numeral 0 (b ∷ u) < 8 ^ digit_run (b ∷ u))
    (λ e. let x : b - 48 ≤ 7 = omega (arith, (digit_low b e).1) in
    omega (arith, numeral-on b u 0 e, over u (0 * 8 + (b - 48)), power_on b u e, below (b - 48) (8 ^ digit_run u) (numeral 0 u) x (small u)))
    (λ e. rw e (omega arith))

-- no run is longer than an atom
run_short : (t : List ℕ) (i : ℕ) → Runs t → 1 ≤ i → digit_run (drop i t) ≤ digits_most
run_short [] zero r h = absurd (omega arith)
run_short [] (suc i) r h = omega arith
run_short (b ∷ t) zero r h = absurd (omega arith)
run_short (b ∷ t) (suc zero) r h = r.0
run_short (b ∷ t) (suc (suc i)) r h = run_short t (suc i) r.1 (omega arith)

-- a digit at i before those from i + 1 on
pub record More (t : List ℕ) (i : ℕ) : Type 0 where
  pub run : digit_run (drop i t) ≡ suc (digit_run (drop (suc i) t))
  pub value : numeral 0 (drop i t) ≡ (get_or t i 0 - 48) * 8 ^ digit_run (drop (suc i) t) + numeral 0 (drop (suc i) t)

more : (t : List ℕ) (i : ℕ) → i < length t → is_digit_byte (get_or t i 0) ≡ true → More t i
more t i h d =
    let u = drop (suc i) t in
    let b = get_or t i 0 in
    let e : drop i t ≡ b ∷ u = drop-cons t i 0 h in
    let z : 0 * 8 + (b - 48) ≡ b - 48 = omega arith in
    record {
      run = ap digit_run e ∙ ap (λ (c : Bool). cond c (suc (digit_run u)) 0) d;
      value = ap (numeral 0) e ∙ ap (λ (c : Bool). cond c (numeral (0 * 8 + (b - 48)) u) 0) d ∙ ap (λ (v : ℕ). numeral v u) z ∙ over u (b - 48);
    }

none : (t : List ℕ) (i : ℕ) → is_digit_byte (get_or t i 0) ≡ false → digit_run (drop i t) ≡ 0
none t i d =
    decide (ltb i (length t)) (digit_run (drop i t) ≡ 0)
    (λ e. ap digit_run (drop-cons t i 0 (ltb-true _ _ e)) ∙ ap (λ (c : Bool). cond c (suc (digit_run (drop (suc i) t))) 0) d)
    (λ e. ap digit_run (drop_of_length-le t (ltb-false _ _ e)))

-- a digit is not at the start
later : (t : List ℕ) (i : ℕ) → Textual t → is_digit_byte (get_or t i 0) ≡ true → 1 ≤ i
later t zero g d = no_yes (sym g.begins ∙ d)
later t (suc i) g d = omega arith

abbrev atom : ℕ → ℕ → Atom
atom v i = record { value = v; from = i }

-- one more digit gathered, x
pub record Grown (t : List ℕ) (i v w x : ℕ) : Type 0 where
  pub next : Gathered t (i - 1) (v + x * w) (w * 8)
  pub same : i - 1 + digit_run (drop (i - 1) t) ≡ i + digit_run (drop i t)
  pub fits : v + x * w < numbers_end
  pub worth : w * 8 ≤ numbers_end

module _ (t : List ℕ) (i v w : ℕ) (g : Gathered t i v w) where
  pub gather_on : is_digit_byte (get_or t (i - 1) 0) ≡ true → (x : ℕ) → x ≡ get_or t (i - 1) 0 - 48 → Grown t i v w x
  gather_on d x ex =
      let h = g.some in
      let k : suc (i - 1) ≡ i = omega arith in
      let l : i - 1 < length t = omega (arith, g.within) in
      let m = more t (i - 1) l d in
      let first = later t (i - 1) g.text d in
      let run : digit_run (drop (i - 1) t) ≡ suc (digit_run (drop i t)) = m.run ∙ ap (λ (n : ℕ). suc (digit_run (drop n t))) k in
      let value : v + x * w ≡ numeral 0 (drop (i - 1) t)
      = swapped v (x * w) ∙ ap (λ (p : ℕ). x * p + v) g.worth ∙ ap (λ (n : ℕ). x * 8 ^ digit_run (drop i t) + n) g.value
      ∙ ap (λ (n : ℕ). x * 8 ^ digit_run (drop n t) + numeral 0 (drop n t)) (sym k)
      ∙ ap (λ (y : ℕ). y * 8 ^ digit_run (drop (suc (i - 1)) t) + numeral 0 (drop (suc (i - 1)) t)) ex ∙ sym m.value in
      let power : 8 ^ suc (digit_run (drop i t)) ≡ 8 ^ digit_run (drop i t) * 8 = omega arith in
      let worth : w * 8 ≡ 8 ^ digit_run (drop (i - 1) t)
      = ap (λ (p : ℕ). p * 8) g.worth ∙ sym power ∙ ap (λ (n : ℕ). 8 ^ n) (sym run) in
      let most : 8 ^ digit_run (drop (i - 1) t) ≤ 8 ^ 11 = pow-le-pow_right (omega arith) (run_short t (i - 1) g.text.runs first) in
      record {
        next = record { text = g.text; some = first; within = l; first = d; value = value; worth = worth };
        same = omega arith;
        fits = omega (arith, value, small (drop (i - 1) t), most);
        worth = omega (arith, worth, most);
      }
    where
      swapped : (a b : ℕ) → a + b ≡ b + a
      swapped a b = omega arith

  -- all of them
  pub gather_end : is_digit_byte (get_or t (i - 1) 0) ≡ false → (n : ℕ) → n ≡ i + digit_run (drop i t) → Before t n (atom v i)
  gather_end d n e = record {
    digits = record { some = g.some; before = omega (arith, (more t i g.within g.first).run); first = g.first; run = sym e };
    starts = d;
    value = g.value;
    small = omega (arith, g.value, small (drop i t), pow-le-pow_right {n = 8} (omega arith) (run_short t i g.text.runs g.some));
  }

-- the last digit, x
pub gather_last : (t : List ℕ) (at : ℕ) → Ends t at → (x : ℕ) → x ≡ get_or t (at - 1) 0 - 48
    → Gathered t (at - 1) x 8 × (at ≡ at - 1 + digit_run (drop (at - 1) t))
gather_last t at g x ex =
    let h = g.some in
    let k : suc (at - 1) ≡ at = omega arith in
    let l : at - 1 < length t = omega (arith, g.within) in
    let m = more t (at - 1) l g.last in
    let u = drop (suc (at - 1)) t in
    let z : digit_run u ≡ 0 = ap (λ (n : ℕ). digit_run (drop n t)) k ∙ none t at g.ended in
    let run : digit_run (drop (at - 1) t) ≡ 1 = m.run ∙ ap suc z in
    let p : 8 ^ digit_run u ≡ 1 = ap (λ (n : ℕ). 8 ^ n) z in
    let v : numeral 0 (drop (at - 1) t) ≡ x * 1 + numeral 0 u
    = m.value ∙ ap (λ (n : ℕ). (get_or t (at - 1) 0 - 48) * n + numeral 0 u) p ∙ ap (λ (y : ℕ). y * 1 + numeral 0 u) (sym ex) in (
      record {
        text = g.text;
        some = later t (at - 1) g.text g.last;
        within = l;
        first = g.last;
        value = omega (arith, v, small u, p);
        worth = ap (λ (n : ℕ). 8 ^ n) (sym run);
      },
      omega (arith, run),
    )
