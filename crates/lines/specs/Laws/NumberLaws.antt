-- Reading digits from left to right, by the tests that the code makes.
use Rattle.std.specs.Prelude.{◌≡◌, refl, Bool, true, false, ◌&&◌, List, [], ◌∷◌, ℕ, ◌+◌, ◌*◌, ◌-◌, ◌≤◌, ◌<◌, ◌⊎◌, leb, length, get_or, take, drop}
use Rattle.std.proofs.Common.{sym, ap, ◌∙◌, arith, inl, inr, le-leb, lt-ltb, le-ltb, leb-true, drop_of_length-le, drop-cons, add-one}
use Rattle.std.proofs.lemmas.Bool.{false≢true, lt-leb}
use Rattle.std.specs.List.{prefix_len}
use Rattle.std.proofs.lemmas.List.{get_or-take}
use Rattle.std.proofs.lemmas.List.Folds.{length-prefix_len}
use Rattle.std.proofs.lemmas.List.Sums.{prefix_len_passes}
use Rattle.lines.specs.Numbers.{digits_most, numbers_end, is_digit_byte, digits, value, allowed, number, none, number_in}

-- the digits are as many bytes as there are digits
pub digits_taken : (s ds : List ℕ) (n : ℕ) → n ≡ length (digits s) → ds ≡ take n s → ds ≡ digits s
digits_taken s ds n e f = f ∙ ap (λ (k : ℕ). take k s) (e ∙ length-prefix_len is_digit_byte s)

digit_range : (c : ℕ) → is_digit_byte c ≡ true → (48 ≤ c) × (c ≤ 57)
digit_range c e = go (leb 48 c) (leb c 57) refl refl e
  where
    go : (a b : Bool) → leb 48 c ≡ a → leb c 57 ≡ b → (a && b) ≡ true → (48 ≤ c) × (c ≤ 57)
    go true true ea eb e = (leb-true 48 c ea, leb-true c 57 eb)
    go true false ea eb e = absurd (false≢true e)
    go false b ea eb e = absurd (false≢true e)

-- digits only make a number larger
value_grows : (ds : List ℕ) (v : ℕ) → v ≤ value v ds
unfolding value
value_grows [] v = omega arith
value_grows (c ∷ ds) v = omega (arith, value_grows ds (10 * v + (c - 48)))

-- i digits have been read and make v: what is still to come is told by the rest
abbrev pub Reads : List ℕ → ℕ → ℕ → Type 0
Reads ds v i = value v (drop i ds) ≡ value 0 ds

module _ (ds : List ℕ) (v i w : ℕ) (r : Reads ds v i) (l : i < length ds) where
  more : Reads ds (10 * v + (get_or ds i 0 - 48)) (i + 1)
  unfolding value
  more = rw add-one (sym (ap (value v) (drop-cons ds i 0 l)) ∙ r)

  pub reads_more : w ≡ 10 * v + (get_or ds i 0 - 48) → Reads ds w (i + 1)
  reads_more e = rw e more

  pub reads_large : w ≤ 10 * v + (get_or ds i 0 - 48) → w ≤ value 0 ds
  reads_large h = omega (arith, more, value_grows (drop (i + 1) ds) (10 * v + (get_or ds i 0 - 48)), h)

-- each byte that is read is a digit
pub digit_read : (s ds : List ℕ) (i : ℕ) → ds ≡ digits s → i < length ds → (48 ≤ get_or ds i 0) × (get_or ds i 0 ≤ 57)
digit_read s ds i e l = rw e (
    let k : i < prefix_len is_digit_byte s = omega (arith, ap length e, l, length-prefix_len is_digit_byte s) in
    rw (get_or-take (prefix_len is_digit_byte s) s i 0 k) (digit_range (get_or s i 0) (prefix_len_passes is_digit_byte s i 0 k))
    )

pub reads_all : (ds : List ℕ) (v i : ℕ) → Reads ds v i → length ds ≤ i → v ≡ value 0 ds
unfolding value
reads_all ds v i r l = sym (ap (value v) (drop_of_length-le ds l)) ∙ r

-- the judgement on a number, by its tests
module _ (s : List ℕ) where
  none_judged : allowed (length (digits s)) (value 0 (digits s)) ≡ false → none ≡ number_in s
  unfolding number_in
  none_judged e = rw e refl

  pub count_judged : (length (digits s) ≡ 0) ⊎ (digits_most < length (digits s)) → none ≡ number_in s
  count_judged (inl e) = none_judged (rw e refl)
  count_judged (inr h) = none_judged (rw (le-leb 1 (length (digits s)) (omega arith), lt-leb (length (digits s)) digits_most h) refl)

  pub large_judged : numbers_end ≤ value 0 (digits s) → none ≡ number_in s
  large_judged h = none_judged (rw (le-ltb (value 0 (digits s)) numbers_end h) (go (leb 1 (length (digits s))) (leb (length (digits s)) digits_most)))
    where
      go : (a b : Bool) → (a && (b && false)) ≡ false
      go true true = refl
      go true false = refl
      go false b = refl

  pub judged : (v : ℕ) (rest : List ℕ) → v ≡ value 0 (digits s) → rest ≡ drop (length (digits s)) s → v < numbers_end → 0 < length (digits s) → length (digits s) ≤ digits_most
      → number v rest ≡ number_in s
  unfolding number_in
  judged v rest e f h a b =
      let k : value 0 (digits s) < numbers_end = omega arith in
      rw (le-leb 1 (length (digits s)) a, le-leb (length (digits s)) digits_most b, lt-ltb (value 0 (digits s)) numbers_end k, e, f) refl
