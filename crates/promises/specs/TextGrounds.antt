-- When each answer about text is given, in the words of documents 01 and 02: what the text form allows after the
-- characters so far, and the rows of the text check.
use Rattle.std.specs.Prelude.{◌≡◌, ◌≢◌, ◌⊎◌, false, cond, List, [], ◌∷◌, ◌++◌, ℕ, ◌+◌, ◌-◌, ◌*◌, ◌%◌, ◌≤◌, ◌<◌, length, take, replicate}
use Rattle.answers.specs.Answers.{TEXT_SIZE, END, NOT_A_LIST, ATOM, DEEP}
use Rattle.lists.specs.Lst.{Lst}
use Rattle.pool.specs.Tally.{occ}
use Rattle.text.specs.Limits.{levels, record_bytes, text_most, digits_most, atoms_end}
use Rattle.text.specs.Text.{others}
use Rattle.text.specs.ListText.{text_of, is_digit_byte, bare}
use Rattle.text.specs.Writing.{depth_after}
use Rattle.promises.specs.Rows.{Row, row}

abbrev pub BadText : List ℕ → Type 0
BadText xs = (length xs % record_bytes ≢ 0) ⊎ (text_most < length xs)

-- nothing to read: all bytes are blanks
abbrev pub AtEnd : List ℕ → Type 0
AtEnd xs = others xs ≡ 0

-- a number carried along characters
unfoldable pub along : (ℕ → ℕ → ℕ) → ℕ → List ℕ → ℕ
along f n [] = n
along f n (b ∷ bs) = along f (f n b) bs

-- the levels open after characters: "(" opens one, ")" shuts one
abbrev pub open_in : List ℕ → ℕ
open_in us = along depth_after 0 us

-- the last character, 0 where there is none
abbrev pub last_in : List ℕ → ℕ
last_in us = along (λ c b. b) 0 us

-- the digits at their end, and the value of these
abbrev pub digits_in : List ℕ → ℕ
digits_in us = along (λ n b. cond (is_digit_byte b) (n + 1) 0) 0 us

abbrev pub value_in : List ℕ → ℕ
value_in us = along (λ v b. cond (is_digit_byte b) (v * 8 + (b - 48)) 0) 0 us

abbrev pub Octal : ℕ → Type 0
Octal b = (48 ≤ b) × (b ≤ 55)

-- what may stand after the character c where d levels are open: "(" at the start; an element or ")" after "("; an
-- element after ","; a digit, ")" or "," in an atom; ")" or "," after an inner list; a blank after the last ")"
abbrev pub Follows : ℕ → ℕ → ℕ → Type 0
Follows c d b =
    ((c ≡ 0) × (b ≡ 40))
    ⊎ ((c ≡ 40) × ((b ≡ 40) ⊎ (b ≡ 41) ⊎ Octal b))
    ⊎ ((c ≡ 44) × ((b ≡ 40) ⊎ Octal b))
    ⊎ (Octal c × (Octal b ⊎ (b ≡ 41) ⊎ (b ≡ 44)))
    ⊎ ((c ≡ 41) × (0 < d) × ((b ≡ 41) ⊎ (b ≡ 44)))
    ⊎ (((c ≡ 41) ⊎ (c ≡ 32)) × (d ≡ 0) × (b ≡ 32))

-- the text form allows b after us
abbrev pub Allowed : List ℕ → ℕ → Type 0
Allowed us b = Follows (last_in us) (open_in us) b

-- b is a digit behind eleven others, or one with which the value is over 32 bits
abbrev pub TooLarge : List ℕ → ℕ → Type 0
TooLarge us b = Octal b × ((digits_most ≤ digits_in us) ⊎ (atoms_end ≤ value_in us * 8 + (b - 48)))

-- b is a "(" that opens level 201
abbrev pub OpensTooMany : List ℕ → ℕ → Type 0
OpensTooMany us b = (b ≡ 40) × (levels ≤ open_in us)

-- the fault of the character b after us
abbrev pub FaultAt : List ℕ → ℕ → ℕ → Type 0
FaultAt us b n =
    ((n ≡ NOT_A_LIST) × (Allowed us b → ⊥))
    ⊎ ((n ≡ ATOM) × Allowed us b × TooLarge us b)
    ⊎ ((n ≡ DEEP) × Allowed us b × OpensTooMany us b)

abbrev pub NoFault : List ℕ → ℕ → Type 0
NoFault us b = Allowed us b × (TooLarge us b → ⊥) × (OpensTooMany us b → ⊥)

-- the list has ended and its record is full
abbrev pub Complete : List ℕ → Type 0
Complete us = ((last_in us ≡ 41) ⊎ (last_in us ≡ 32)) × (open_in us ≡ 0) × (length us % record_bytes ≡ 0)

-- no character of us is a fault, and none stands behind a full last record
abbrev pub Fine : List ℕ → Type 0
Fine us = (vs : List ℕ) (c : ℕ) (ws : List ℕ) → us ≡ vs ++ (c ∷ ws) → NoFault vs c × (Complete vs → ⊥)

-- the earliest fault of a text is n
abbrev pub Faulted : List ℕ → ℕ → Type 0
Faulted xs n = (us : List ℕ) × (b : ℕ) × (later : List ℕ) × (xs ≡ us ++ (b ∷ later)) × Fine us × (Complete us → ⊥)
    × FaultAt us b n

abbrev pub RunsOut : List ℕ → Type 0
RunsOut xs = Fine xs × (Complete xs → ⊥)

-- m bytes of a text, where none of them is a fault, the list has ended and its record is full, and no sooner
abbrev pub TakesRecords : List ℕ → ℕ → Type 0
TakesRecords xs m = (m ≤ length xs) × Fine (take m xs) × Complete (take m xs)

-- a text with leading zeros dropped (and blanks, where it has any)
abbrev pub plain : List ℕ → List ℕ
plain t = bare false t

-- m bytes of a text, whole records: the characters t of a list, with no blank among them, and fewer than a record of
-- blanks behind them
pub record Records (xs : List ℕ) (m : ℕ) (t : List ℕ) : Type 0 where
  pub blanks : ℕ
  pub bytes : take m xs ≡ t ++ replicate blanks 32
  pub few : blanks < record_bytes
  pub whole : m % record_bytes ≡ 0
  pub within : m ≤ length xs
  pub solid : occ t 32 ≡ 0

-- the list l is that of the first m bytes of a text
abbrev pub Spells : List ℕ → ℕ → Lst → Type 0
Spells xs m l = TakesRecords xs m × ((t : List ℕ) × Records xs m t × (text_of l ≡ plain t))

abbrev pub fault_rows : List ℕ → List Row
fault_rows xs = row NOT_A_LIST (Faulted xs NOT_A_LIST ⊎ RunsOut xs) ∷ row ATOM (Faulted xs ATOM) ∷ row DEEP
    (Faulted xs DEEP) ∷ []

abbrev pub size_rows : List ℕ → List Row
size_rows xs = row TEXT_SIZE (BadText xs) ∷ row END (AtEnd xs) ∷ []

abbrev pub check_rows : List ℕ → List Row
check_rows xs = size_rows xs ++ fault_rows xs

-- a "(" that opens level 201, no later than just behind the usable output
abbrev pub TooDeep : ℕ → List ℕ → Type 0
TooDeep u t = (us : List ℕ) × (later : List ℕ) × (t ≡ us ++ (40 ∷ later)) × (levels ≤ open_in us) × (length us ≤ u)
