-- Decimal numbers in a line, of at most ten digits and 32 bits, and what may stand behind one.
use Rattle.std.specs.Prelude.{Bool, cond, ◌&&◌, List, [], ◌∷◌, ℕ, ◌+◌, ◌*◌, ◌-◌, eqb, leb, ltb, length, drop, take_while}

abbrev pub digits_most : ℕ
digits_most = 10

abbrev pub numbers_end : ℕ
numbers_end = 4294967296

abbrev pub blank : ℕ
blank = 32

abbrev pub is_digit_byte : ℕ → Bool
is_digit_byte c = leb 48 c && leb c 57

-- the digits at the start, and what stands behind them
abbrev pub digits : List ℕ → List ℕ
digits s = take_while is_digit_byte s

abbrev pub past : List ℕ → List ℕ
past s = drop (length (digits s)) s

-- digits read behind the number v
unfoldable pub value : ℕ → List ℕ → ℕ
value v [] = v
value v (c ∷ s) = value (10 * v + (c - 48)) s

-- n digits with the value v
abbrev pub allowed : ℕ → ℕ → Bool
allowed n v = leb 1 n && (leb n digits_most && ltb v numbers_end)

-- a number at the start of bytes and what stands behind it, or no number
pub data Start : Type 0 where
  number : ℕ → List ℕ → Start
  none : Start

unfoldable pub number_in : List ℕ → Start
number_in s = cond (allowed (length (digits s)) (value 0 (digits s))) (number (value 0 (digits s)) (past s)) none

-- one blank is behind the number
abbrev pub after_blank : ℕ → List ℕ → Start
after_blank v [] = none
after_blank v (c ∷ s) = cond (eqb c blank) (number v s) none

abbrev pub parted : Start → Start
parted none = none
parted (number v s) = after_blank v s

-- nothing is behind the number
abbrev pub if_end : ℕ → List ℕ → Start
if_end v [] = number v []
if_end v (c ∷ s) = none

abbrev pub ended : Start → Start
ended none = none
ended (number v s) = if_end v s
