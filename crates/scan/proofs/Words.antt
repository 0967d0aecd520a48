-- Eight bytes at a time: the zeros below the lowest set bit of the masked word tell how many of its bytes are digits.
-- By induction on the bytes: the bits of a word and of a mask fall apart at each byte.
use Rattle.std.specs.Prelude.{ℕ, zero, suc, ◌+◌, ◌-◌, ◌*◌, ◌/◌, ◌%◌, ◌^◌, ◌<◌, ◌≤◌, ◌≡◌, refl, List, [], ◌∷◌, ◌++◌, length, take, drop, slice_index}
use Rattle.std.specs.Int.{byte_worth, sum_through, from_le_bytes, w64}
use Rattle.std.specs.Array.{IsFirstChunk}
use Rattle.std.proofs.Common.{Fits, w8, sym, ap, subst, ◌∙◌, arith, take_all, length-drop, drop-drop, pow-suc, mul_assoc}
use Rattle.std.proofs.lemmas.List.{take-append-drop, length-take-le, get_or-drop}
use lib.Bits.{bit_and, bit_xor, block_half, block_odd, and_block, xor_block, and_high, xor_lt, xor_self, xor_add_and, and_le_l, and_le_r}
use lib.Count.{count_trailing_zeros, under, trailing_of_zero}
use Rattle.text.specs.ListText.{is_digit_byte}
use Rattle.text.specs.Laws.TextLaws.{by_case, no_yes}
use Rattle.scan.specs.Runs.{digit_run}
use Rattle.scan.proofs.RunLaws.{digit_bounds, bounds_digit, run_most, run-all, run-part}

abbrev Bytes : List ℕ → Type 0
Bytes [] = Unit {0}
Bytes (b ∷ bs) = (b < 256) × Bytes bs

-- bytes as a number, the first lowest
abbrev word : List ℕ → ℕ
word [] = 0
word (b ∷ bs) = word bs * 256 + b

-- j bits more than k
abbrev more : ℕ → ℕ → ℕ
more zero k = k
more (suc j) k = suc (more j k)

-- the trailing zeros of a number whose j low bits are r
low_zero : (j k a r : ℕ) → r ≡ 0 → count_trailing_zeros (more j k) (a * 2 ^ j + r) ≡ more j (count_trailing_zeros k a)
unfolding count_trailing_zeros
low_zero zero k a r e = let q : a * 2 ^ 0 + r ≡ a = omega arith in ap (count_trailing_zeros k) q
low_zero (suc j) k a r e =
    let h : r / 2 ≡ 0 = omega arith in
    let o : r % 2 ≡ 0 = omega arith in
    rw (block_odd a j r, block_half a j r, o) (ap suc (low_zero j k a (r / 2) h))

under_less : (d t j : ℕ) → (d ≡ 0 → t < j) → under d t < suc j
under_less zero t j h = let q = h refl in omega arith
under_less (suc d) t j h = omega arith

low_some : (j k a r : ℕ) → r < 2 ^ j → (r ≡ 0 → ⊥) → count_trailing_zeros (more j k) (a * 2 ^ j + r) < j
unfolding count_trailing_zeros
low_some zero k a r h n = absurd (n (omega arith))
low_some (suc j) k a r h n =
    rw (block_odd a j r, block_half a j r)
    (under_less (r % 2) (count_trailing_zeros (more j k) (a * 2 ^ j + r / 2)) j
    (λ e. low_some j k a (r / 2) (omega (arith, pow-suc 2 j)) (λ z. n (omega arith))))

-- one byte
abbrev rest : ℕ → ℕ
rest b = bit_xor (bit_and b 248) 48

high : (b : ℕ) → b < 256 → bit_and b 248 ≡ b / 8 * 8
high b h = and_high b 5 3 ∙ omega arith

digit-none : (b : ℕ) → b < 256 → 48 ≤ b → b ≤ 55 → rest b ≡ 0
digit-none b h l u =
    let e : b / 8 * 8 ≡ 48 = omega arith in
    ap (λ (n : ℕ). bit_xor n 48) (high b h ∙ e) ∙ xor_self 48

other_some : (b : ℕ) → b < 256 → (48 ≤ b → b ≤ 55 → ⊥) → rest b ≡ 0 → ⊥
other_some b h n e =
    let eight = high b h in
    let same : bit_and b 248 ≡ 48 = omega (arith, xor_add_and (bit_and b 248) 48, and_le_l (bit_and b 248) 48, and_le_r (bit_and b 248) 48) in
    n (omega arith) (omega arith)

rest-less : (b : ℕ) → b < 256 → rest b < 256
rest-less b h = xor_lt 8 (bit_and b 248) 48 (omega (arith, and_le_l b 248)) (omega arith)

-- the masked word, and its bits
abbrev mask : ℕ → ℕ
mask zero = 0
mask (suc n) = mask n * 256 + 248

abbrev digits : ℕ → ℕ
digits zero = 0
digits (suc n) = digits n * 256 + 48

abbrev bits : ℕ → ℕ
bits zero = 0
bits (suc n) = more 8 (bits n)

-- the bits of a word that are no digit's, where it is of n bytes
abbrev strange : ℕ → ℕ → ℕ
strange n w = bit_xor (bit_and w (mask n)) (digits n)

abbrev others : List ℕ → ℕ
others bs = strange (length bs) (word bs)

parts : (b : ℕ) (bs : List ℕ) → b < 256 → others (b ∷ bs) ≡ others bs * 256 + rest b
parts b bs h =
    let n = length bs in
    ap (λ (k : ℕ). bit_xor k (digits n * 256 + 48)) (and_block 8 (word bs) (mask n) b 248 h (omega arith))
    ∙ xor_block 8 (bit_and (word bs) (mask n)) (digits n) (bit_and b 248) 48 (omega (arith, and_le_l b 248)) (omega arith)

run-told : (bs : List ℕ) → Bytes bs → count_trailing_zeros (bits (length bs)) (others bs) / 8 ≡ digit_run bs
unfolding count_trailing_zeros
run-told [] p = refl
run-told (b ∷ bs) p =
    let e = ap (λ (n : ℕ). count_trailing_zeros (bits (suc (length bs))) n / 8) (parts b bs p.0) in
    let P : ℕ → Type 0 = λ n. count_trailing_zeros (bits (suc (length bs))) (others bs * 256 + rest b) / 8 ≡ n in
    let none : rest b ≡ 0 → P (suc (digit_run bs))
    = λ z. ap (λ (n : ℕ). n / 8) (low_zero 8 (bits (length bs)) (others bs) (rest b) z) ∙ omega (arith, run-told bs p.1) in
    let some : (rest b ≡ 0 → ⊥) → P 0
    = λ z. omega (arith, low_some 8 (bits (length bs)) (others bs) (rest b) (rest-less b p.0) z) in
    e
    ∙ by_case (is_digit_byte b) P (λ d. let q = digit_bounds b d in none (digit-none b p.0 q.0 q.1))
    (λ d. some (other_some b p.0 (λ l u. no_yes (sym d ∙ bounds_digit b l u))))

-- where every byte is a digit, nothing is left
full-none : (bs : List ℕ) → Bytes bs → digit_run bs ≡ length bs → others bs ≡ 0
full-none [] p e = refl
full-none (b ∷ bs) p e =
    parts b bs p.0
    ∙ by_case (is_digit_byte b) (λ (n : ℕ). n ≡ suc (length bs) → others bs * 256 + rest b ≡ 0)
    (λ d f. let q = digit_bounds b d in omega (arith, full-none bs p.1 (omega arith), digit-none b p.0 q.0 q.1))
    (λ d f. absurd (omega arith))
    e

-- the number that bytes are to std
one_more : (b : ℕ) (bs : List ℕ) (k : ℕ)
    → sum_through (λ i. byte_worth i (slice_index (b ∷ bs) i)) (suc k) ≡ sum_through (λ i. byte_worth i (slice_index bs i)) k * 256 + b
one_more b bs zero = omega arith
one_more b bs (suc k) =
    let x = slice_index bs (suc k) in
    omega (arith, one_more b bs k, ap (λ (n : ℕ). x * n) (pow-suc 256 (suc k)), mul_assoc x (256 ^ suc k) 256)

read : (bs : List ℕ) (k : ℕ) → length bs ≡ suc k → sum_through (λ i. byte_worth i (slice_index bs i)) k ≡ word bs
read [] k e = absurd (omega arith)
read (b ∷ []) zero e = omega arith
read (b ∷ (a ∷ bs)) zero e = absurd (omega arith)
read (b ∷ bs) (suc k) e = one_more b bs k ∙ ap (λ (n : ℕ). n * 256 + b) (read bs k (omega arith))

small : (n : ℕ) (l : List ℕ) → ((k : ℕ) → slice_index l k < 256) → Bytes (take n l)
small zero l f = tt
small (suc n) [] f = tt
small (suc n) (b ∷ l) f = (f 0, small n l (λ k. f (suc k)))

-- the bits of eight bytes that are no digit's
abbrev pub left : ℕ → ℕ
left w = bit_xor (bit_and w 17940362863843014904) 3472328296227680304

-- the eight bytes at a place
module _ (s : List ℕ) (i : ℕ) (bs : List ℕ) (here : IsFirstChunk (take (length s - i) (drop i s)) bs 8) (fits : (k : ℕ) → Fits w8 (slice_index s k)) where
  all : take (length s - i) (drop i s) ≡ drop i s
  all = take_all (length s - i) (drop i s) (omega (arith, length-drop i s))

  enough : 8 ≤ length (drop i s)
  enough = omega (arith, here.enough, ap length all)

  front : bs ≡ take 8 (drop i s)
  front = here.same ∙ ap (take 8) all

  size : length bs ≡ 8
  size = ap length front ∙ length-take-le 8 (drop i s) enough

  bytes : Bytes bs
  bytes = subst Bytes (sym front) (small 8 (drop i s) (λ k. omega (arith, get_or-drop i s k 0, fits (i + k))))

  split : drop i s ≡ bs ++ drop (i + 8) s
  split = sym (take-append-drop 8 (drop i s)) ∙ cc (front, drop-drop 8 i s)

  word_is : from_le_bytes w64 bs ≡ word bs
  word_is = read bs 7 size

  told : count_trailing_zeros 64 (left (from_le_bytes w64 bs)) / 8 ≡ digit_run bs
  told =
      ap (λ (w : ℕ). count_trailing_zeros 64 (left w) / 8) word_is
      ∙ ap (λ (n : ℕ). count_trailing_zeros (bits n) (strange n (word bs)) / 8) (sym size) ∙ run-told bs bytes

  pub room : i + 8 ≤ length s
  room = omega (arith, enough, length-drop i s)

  pub eight_more : left (from_le_bytes w64 bs) ≡ 0 → digit_run (drop i s) ≡ 8 + digit_run (drop (i + 8) s)
  eight_more z =
      let eight : digit_run bs ≡ 8 = sym told ∙ ap (λ (n : ℕ). count_trailing_zeros 64 n / 8) z ∙ ap (λ (n : ℕ). n / 8) (trailing_of_zero 64) in
      ap digit_run split ∙ run-all bs (drop (i + 8) s) (eight ∙ sym size) ∙ ap (λ (n : ℕ). n + digit_run (drop (i + 8) s)) size

  module _ (some : left (from_le_bytes w64 bs) ≡ 0 → ⊥) where
    not_all : digit_run bs ≡ length bs → ⊥
    not_all q = some (ap left word_is ∙ ap (λ (k : ℕ). strange k (word bs)) (sym size) ∙ full-none bs bytes q)

    pub eight_less : digit_run (drop i s) ≡ count_trailing_zeros 64 (left (from_le_bytes w64 bs)) / 8
    eight_less = ap digit_run split ∙ run-part bs (drop (i + 8) s) not_all ∙ sym told

    pub eight_most : count_trailing_zeros 64 (left (from_le_bytes w64 bs)) / 8 < 8
    eight_most = omega (arith, told, run_most bs, size, not_all)
