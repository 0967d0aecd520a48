-- The cases of document 02's first request: records of blanks alone, before a list and behind one, under one theorem
-- about the definitions.
use Rattle.std.specs.Prelude.{◌≡◌, refl, List, [], ◌∷◌, ◌++◌, map, ℕ, drop}
use Rattle.text.specs.Text.{scanned, others, size_fault, verdict, rest_at}
use Rattle.calls.specs.Chars.{chars, blanks, in_record}

-- a text, the check's answer and the bytes taken, where the rest begins, and the check's answer to the rest
pub record Case : Type 0 where
  pub text : List ℕ
  pub answer : ℕ
  pub taken : ℕ
  pub rest : ℕ
  pub then : ℕ

abbrev stated : List ℕ → ℕ → ℕ → ℕ → ℕ → Case
stated xs a n r t = record { text = xs; answer = a; taken = n; rest = r; then = t }

abbrev given : Case → Case
given c =
    let xs = c.text in
    stated xs (verdict xs).no (verdict xs).taken (rest_at xs) (verdict (drop (rest_at xs) xs)).no

abbrev pub cases : List Case
cases =
    stated [] 14 0 0 14 ∷
    stated (blanks 72) 14 0 72 14 ∷
    stated (blanks 65520) 14 0 65520 14 ∷
    stated (blanks 65592) 13 0 65592 14 ∷
    stated (blanks 73) 13 0 73 14 ∷
    stated (in_record " ()") 15 0 72 14 ∷
    stated (blanks 72 ++ in_record "()") 15 0 144 14 ∷
    stated (blanks 71 ++ chars "1") 15 0 72 14 ∷
    stated (in_record "()" ++ blanks 216) 0 72 288 14 ∷
    stated (in_record "()" ++ blanks 72 ++ in_record "()") 0 72 72 15 ∷
    stated (in_record "()" ++ blanks 71 ++ chars "1") 0 72 72 15 ∷
    []

pub edges : map given cases ≡ cases
unfolding others size_fault verdict scanned
edges = refl
