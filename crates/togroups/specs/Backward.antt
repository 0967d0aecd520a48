-- A text as a pass from its end meets it: the marks of what is behind a place, each by its characters alone, and the
-- lists that they leave open.
use Rattle.std.specs.Prelude.{ℕ, ◌≤◌, Bool, true, false, cond, List, [], ◌∷◌, ◌++◌, eqb}
use Rattle.lists.specs.Lst.{Lst}
use Rattle.scan.specs.Runs.{digit_run, numeral}
use Rattle.text.specs.Limits.{digits_most}
use Rattle.text.specs.ListText.{is_digit_byte}
use Rattle.text.specs.Marks.{Mark, opened, shut, value, pushes}

-- "(" and ")"
abbrev pub mark_of : ℕ → List Mark
mark_of b = cond (eqb b 40) (opened ∷ []) (cond (eqb b 41) (shut ∷ []) [])

-- a run of digits has its mark where it begins: not where a digit stands before it
abbrev pub begun : Bool → List ℕ → List Mark
begun true t = []
begun false t = value (numeral 0 t) ∷ []

-- the marks of a text behind a digit, or behind anything else
abbrev pub marks_from : Bool → List ℕ → List Mark
marks_from k [] = []
marks_from k (b ∷ t) = cond (is_digit_byte b) (begun k (b ∷ t) ++ marks_from true t) (mark_of b ++ marks_from false t)

-- the lists that it leaves open, innermost first
unfoldable pub open_in : List ℕ → List Lst
open_in t = pushes (marks_from false t) []

-- no run of digits behind a first character is longer than an atom
abbrev pub Runs : List ℕ → Type 0
Runs [] = Unit {0}
Runs (b ∷ t) = (digit_run t ≤ digits_most) × Runs t
