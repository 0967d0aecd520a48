-- Input in lines, and the same byte by byte. A line feed ends a line and is no byte of it; the last line may go without
-- one.
use Rattle.std.specs.Prelude.{Bool, true, false, cond, List, [], ◌∷◌, ◌++◌, map, ℕ, eqb, leb, ltb, length}
use Rattle.lines.specs.Printed.{line_feed}

abbrev pub line_most : ℕ
line_most = 200

-- c before the first line
abbrev pub before : ℕ → List (List ℕ) → List (List ℕ)
before c [] = (c ∷ []) ∷ []
before c (r ∷ rs) = (c ∷ r) ∷ rs

-- input that ends in a line feed has no further, empty line
unfoldable pub rows : List ℕ → List (List ℕ)
rows [] = []
rows (c ∷ s) = cond (eqb c line_feed) ([] ∷ rows s) (before c (rows s))

-- a line's bytes, or one that has too many
pub data Line : Type 0 where
  line : List ℕ → Line
  long : Line

abbrev pub line_of : List ℕ → Line
line_of r = cond (leb (length r) line_most) (line r) long

abbrev pub lines_of : List ℕ → List Line
lines_of s = map line_of (rows s)

-- the lines that are whole, and of the one that is not its bytes so far, at most 200, and whether there were more
pub record Gathering : Type 0 where
  pub lines : List Line
  pub kept : List ℕ
  pub over : Bool

abbrev pub nothing : Gathering
nothing = record { lines = []; kept = []; over = false }

-- of one line its bytes so far, and whether there were more
pub record Part : Type 0 where
  pub kept : List ℕ
  pub over : Bool

abbrev pub empty : Part
empty = record { kept = []; over = false }

-- no line is whole yet
abbrev pub going : Part → Gathering
going p = record { lines = []; kept = p.kept; over = p.over }

abbrev pub ready : List ℕ → Bool → Line
ready ks o = cond o long (line ks)

-- this line is whole
abbrev pub ended : Part → Gathering
ended p = record { lines = ready p.kept p.over ∷ []; kept = []; over = false }

abbrev pub eat : Gathering → ℕ → Gathering
eat g c =
    cond (eqb c line_feed)
    (record { lines = g.lines ++ (ready g.kept g.over ∷ []); kept = []; over = false })
    (cond (ltb (length g.kept) line_most)
    (record { lines = g.lines; kept = g.kept ++ (c ∷ []); over = g.over })
    (record { lines = g.lines; kept = g.kept; over = true }))

unfoldable pub eaten : Gathering → List ℕ → Gathering
eaten g [] = g
eaten g (c ∷ s) = eaten (eat g c) s

-- at the end of input a last line without a line feed is a line
abbrev pub last : List ℕ → Bool → List Line
last [] o = []
last (c ∷ ks) o = ready (c ∷ ks) o ∷ []

abbrev pub closed : Gathering → List Line
closed g = g.lines ++ last g.kept g.over
