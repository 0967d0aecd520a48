-- A session whose input comes piece by piece. A step takes in some bytes and prints the answers of the lines that end
-- in them; at the end of input what is left is a last line.
use Rattle.std.specs.Prelude.{◌≡◌, Bool, false, List, [], ◌∷◌, ◌++◌, ℕ}
use Rattle.lines.specs.Splitting.{Line, eaten, last}
use Rattle.answering.specs.Session.{answered, prints}

-- between two steps: the words in use, and of the line that is not whole its bytes so far and whether there were more
pub record Mid : Type 0 where
  pub words : List ℕ
  pub kept : List ℕ
  pub over : Bool

abbrev pub fresh : Mid
fresh = record { words = []; kept = []; over = false }

-- the words in use behind lines one after another
unfoldable pub leaves : List ℕ → List Line → List ℕ
leaves ts [] = ts
leaves ts (l ∷ ls) = leaves (answered ts l).words ls

-- bytes are taken in: the lines that end in them are answered in their order, and nothing else is printed
pub record Takes (m : Mid) (bytes out : List ℕ) (n : Mid) : Type 0 where
  pub lines : List Line
  pub split :
      eaten (record { lines = []; kept = m.kept; over = m.over }) bytes
      ≡ record { lines = lines; kept = n.kept; over = n.over }
  pub words : n.words ≡ leaves m.words lines
  pub printed : out ≡ prints m.words lines

-- what the end of input prints
abbrev pub closing : Mid → List ℕ
closing m = prints m.words (last m.kept m.over)

-- a step: the bytes that it takes in, the bytes that it prints, and what stands after it
pub record Step : Type 0 where
  pub taken : List ℕ
  pub out : List ℕ
  pub next : Mid

-- steps one after another from m on
abbrev pub Steps : Mid → List Step → Type 0
Steps m [] = Unit
Steps m (s ∷ ss) = Takes m s.taken s.out s.next × Steps s.next ss

unfoldable pub input : List Step → List ℕ
input [] = []
input (s ∷ ss) = s.taken ++ input ss

unfoldable pub output : List Step → List ℕ
output [] = []
output (s ∷ ss) = s.out ++ output ss

unfoldable pub stop : Mid → List Step → Mid
stop m [] = m
stop m (s ∷ ss) = stop s.next ss
