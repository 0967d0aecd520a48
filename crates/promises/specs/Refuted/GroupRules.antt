-- Groups read by other rules: which numbers are none, in which order their groups stand, and which lists may open a
-- level that is not there.
use Rattle.std.specs.Prelude.{Bool, cond, ◌&&◌, List, [], ◌∷◌, ◌++◌, ℕ, ◌+◌, ◌-◌, ◌*◌, ◌/◌, ◌%◌, eqb, ltb}
use Rattle.lists.specs.Lst.{Lst}
use Rattle.text.specs.Marks.{Mark, pushes, top_of}
use Rattle.text.specs.Text.{Answer}
use Rattle.groups.specs.Reading.{Token, num, bad, State, begin, at, refused, taken, closing, counted_off, next, answer, met}

-- a number is none where the test holds of a group and of the number behind it
abbrev more_but : (ℕ → ℕ → Bool) → ℕ → List Token → List Token
more_but test g [] = []
more_but test g (bad ∷ ts) = bad ∷ ts
more_but test g (num v k ∷ ts) = cond (test g v) (bad ∷ ts) (num (g + 128 * v) (k + 1) ∷ ts)

unfoldable pub tokens_but : (ℕ → ℕ → Bool) → List ℕ → List Token
tokens_but test [] = []
tokens_but test (b ∷ bs) = cond (ltb b 128) (num b 1 ∷ tokens_but test bs) (more_but test (b - 128) (tokens_but test bs))

-- the high group first: v is the number so far, in k groups
unfoldable pub tokens_high : ℕ → ℕ → List ℕ → List Token
tokens_high v k [] = []
tokens_high v k (b ∷ bs) =
    cond (ltb b 128) (num (v * 128 + b) (k + 1) ∷ tokens_high 0 0 bs) (tokens_high (v * 128 + (b - 128)) (k + 1) bs)

-- a list number is taken where the test holds of it, however many lists are open
abbrev next_by : (ℕ → Bool) → State → Token → State
next_by test (at st n) (num v k) =
    cond (eqb (v % 2) 1 && test v) (closing (v / 2 ∷ counted_off st) (n + k)) (next (at st n) (num v k))
next_by test (at st n) bad = next (at st n) bad
next_by test begin t = next begin t
next_by test (refused f) t = refused f
next_by test (taken n) t = taken n

unfoldable pub run_by : (ℕ → Bool) → State → List Token → State
run_by test st [] = st
run_by test st (t ∷ ts) = run_by test (next_by test st t) ts

unfoldable pub trace_by : (ℕ → Bool) → State → List Token → List Mark
trace_by test st [] = []
trace_by test st (t ∷ ts) = met st t ++ trace_by test (next_by test st t) ts

-- what such a reader answers, and its list
abbrev pub scanned_by : (ℕ → Bool) → List Token → Answer
scanned_by test ts = answer (run_by test begin ts)

abbrev pub list_by : (ℕ → Bool) → List Token → Lst
list_by test ts = top_of (pushes (trace_by test begin ts) [])
