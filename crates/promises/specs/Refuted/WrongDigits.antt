-- Engines that write the digits of an atom wrongly: ours with another numeral in the text of every list.
use Rattle.std.specs.Prelude.{Bool, true, false, cond, List, [], ◌∷◌, ◌++◌, reverse, ℕ, zero, suc, ◌+◌, ◌/◌, ◌%◌, min, leb, length}
use Rattle.lists.specs.Lst.{Lst, nil, atom, list}
use Rattle.text.specs.ListText.{octal, lead, leads}
use Rattle.promises.specs.Engine.{Engine}
use Rattle.promises.specs.StoredGrounds.{filled}
use Rattle.promises.specs.Refuted.WrongStored.{writing}
use Rattle.groups.specs.declared.Stored.TheVariants.{Text}

-- the text of a list by another numeral
abbrev items_by : (ℕ → List ℕ) → Bool → Lst → List ℕ
items_by f b nil = leads b ++ (41 ∷ [])
items_by f b (atom v l) = lead b ∷ f v ++ items_by f false l
items_by f b (list m l) = lead b ∷ items_by f true m ++ items_by f false l

abbrev pub text_by : (ℕ → List ℕ) → Lst → List ℕ
text_by f l = items_by f true l

abbrev pub writes_by : (ℕ → List ℕ) → Engine
writes_by f = writing Text (λ l. filled (text_by f l))

-- the digits as division gives them, the last first
abbrev pub last_first : ℕ → List ℕ
last_first v = reverse (octal v)

-- the last n digits of v, each in its place; those below are wrong in n
abbrev last_digits : ℕ → ℕ → List ℕ
last_digits zero v = []
last_digits (suc n) v = last_digits n (v / 8) ++ ((48 + v % 8) ∷ [])

-- a digit more over 8, and not at 8
abbrev count_over : ℕ → ℕ → ℕ
count_over zero v = 1
count_over (suc f) v = cond (leb v 8) 1 (1 + count_over f (v / 8))

abbrev pub short_at_eight : ℕ → List ℕ
short_at_eight v = last_digits (count_over 10 v) v

-- ten at most: three bits to a digit, and 32 bits rounded down
abbrev pub ten_at_most : ℕ → List ℕ
ten_at_most v = last_digits (min (32 / 3) (length (octal v))) v

-- a place too many, so that a 0 stands before every atom
abbrev pub zero_first : ℕ → List ℕ
zero_first v = last_digits (length (octal v) + 1) v
