-- Document 01's table of answers as rows: a number, and when it is given. An answer is that of the first row whose
-- condition holds.
use Rattle.std.specs.Prelude.{◌≡◌, ◌⊎◌, List, [], ◌∷◌, ℕ}
use Rattle.answers.specs.Answers.{DONE}

pub record Row : Type 1 where
  pub number : ℕ
  pub when : Type 0

abbrev pub row : ℕ → Type 0 → Row
row n A = record { number = n; when = A }

-- n is the number of the first row that holds; where none does, n is what the rest says
abbrev pub First : List Row → (ℕ → Type 0) → ℕ → Type 0
First [] rest n = rest n
First (r ∷ rs) rest n = (r.when × (n ≡ r.number)) ⊎ ((r.when → ⊥) × First rs rest n)

-- where none holds the call is done
abbrev pub Answers : List Row → ℕ → Type 0
Answers rs n = First rs (λ m. m ≡ DONE) n

-- none of the rows holds
abbrev pub None : List Row → Type 0
None [] = Unit {0}
None (r ∷ rs) = (r.when → ⊥) × None rs

-- one of the numbers
abbrev pub OneOf : ℕ → List ℕ → Type 0
OneOf c [] = ⊥
OneOf c (d ∷ ds) = (c ≡ d) ⊎ OneOf c ds
