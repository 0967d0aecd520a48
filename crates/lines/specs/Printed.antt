-- The bytes that a session prints, and the fill behind READ's text.
use Rattle.std.specs.Prelude.{cond, List, [], ◌∷◌, ◌++◌, ℕ, zero, suc, ◌+◌, ◌/◌, ◌%◌, ltb, length}
use Rattle.text.specs.ListText.{fill}
use Rattle.lines.specs.Numbers.{digits_most, blank}

abbrev pub line_feed : ℕ
line_feed = 10

-- the decimal digits of v, at most f of them
unfoldable pub decimal_f : ℕ → ℕ → List ℕ
decimal_f zero v = []
decimal_f (suc f) v = cond (ltb v 10) ((48 + v) ∷ []) (decimal_f f (v / 10) ++ ((48 + v % 10) ∷ []))

abbrev pub decimal : ℕ → List ℕ
decimal v = decimal_f digits_most v

-- a number and the byte behind it
abbrev pub column : ℕ → ℕ → List ℕ
column v c = decimal v ++ (c ∷ [])

-- answer, kind, value and free cells
abbrev pub reply : ℕ → ℕ → ℕ → ℕ → List ℕ
reply answer kind value free =
    column answer blank ++ (column kind blank ++ (column value blank ++ column free line_feed))

-- what a malformed line prints: a question mark
abbrev pub question : List ℕ
question = 63 ∷ line_feed ∷ []

-- READ's text and the blanks that complete its last record
abbrev pub filled : List ℕ → List ℕ
filled s = s ++ fill (length s)
