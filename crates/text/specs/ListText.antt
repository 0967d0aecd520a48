-- The text of a list: its characters with leading zeros dropped, and its fill; and a text without its blanks and
-- leading zeros.
use Rattle.std.specs.Prelude.{ℕ, zero, suc, ◌+◌, ◌-◌, ◌/◌, ◌%◌, List, [], ◌∷◌, ◌++◌, Bool, true, false, cond, length, replicate, eqb, leb, ltb}
use Rattle.lists.specs.Lst.{Lst, nil, atom, list}
use Rattle.text.specs.Limits.{record_bytes, digits_most}

-- the octal digits of v, at most f + 1 of them
abbrev pub octal_f : ℕ → ℕ → List ℕ
octal_f zero v = (48 + v) ∷ []
octal_f (suc f) v = cond (ltb v 8) ((48 + v) ∷ []) (octal_f f (v / 8) ++ ((48 + v % 8) ∷ []))

abbrev pub octal : ℕ → List ℕ
octal v = octal_f (digits_most - 1) v

-- before the first element stands "(", before a later one ","
abbrev pub lead : Bool → ℕ
lead true = 40
lead false = 44

abbrev pub leads : Bool → List ℕ
leads true = 40 ∷ []
leads false = []

-- the text of a list from its "(" on, or of its elements that follow another
abbrev pub items : Bool → Lst → List ℕ
items f nil = leads f ++ (41 ∷ [])
items f (atom v l) = lead f ∷ octal v ++ items false l
items f (list m l) = lead f ∷ items true m ++ items false l

abbrev pub text_of : Lst → List ℕ
text_of l = items true l

-- the blanks after n characters
abbrev pub fill : ℕ → List ℕ
fill n = replicate ((record_bytes - n % record_bytes) % record_bytes) 32

-- the text with its fill, as writing gives it
abbrev pub written : Lst → List ℕ
written l = text_of l ++ fill (length (text_of l))

-- a text without its blanks and without the leading zeros of its atoms: a "0" goes where no digit of its atom was kept
-- and a digit follows
abbrev pub is_digit_byte : ℕ → Bool
is_digit_byte b = cond (leb 48 b) (leb b 55) false

abbrev pub head_digit : List ℕ → Bool
head_digit [] = false
head_digit (b ∷ bs) = is_digit_byte b

abbrev pub idle : Bool → ℕ → List ℕ → Bool
idle k b bs = cond k false (cond (eqb b 48) (head_digit bs) false)

abbrev pub bare : Bool → List ℕ → List ℕ
bare k [] = []
bare k (b ∷ bs) =
    cond (eqb b 32) (bare k bs)
    (cond (is_digit_byte b) (cond (idle k b bs) (bare false bs) (b ∷ bare true bs)) (b ∷ bare false bs))
