-- What reading a stored list into a holder gives, for all words and bytes: every refusal comes before anything is
-- changed, and the earliest fault of the bytes before NO ROOM. The two stored forms differ in how bytes are judged and
-- in nothing else.
use Rattle.std.specs.Prelude.{cond, not, List, ℕ, eqb, ltb, length}
use Rattle.answers.specs.Answers.{DONE, UNSOUND, HOLDER, OCCUPIED, NO_ROOM, unless}
use Rattle.lists.specs.Lst.{extent}
use Rattle.pool.specs.Operations.{read}
use Rattle.pool.specs.Pool.{holder, frees}
use Rattle.groups.specs.Stored.{size_fault, verdict, list_in}
use Rattle.groups.specs.declared.Stored.{Stored}
use Rattle.table.specs.declared.Form.{Form}
use Rattle.table.specs.declared.Form.TheVariants.{Four}
use Rattle.calls.specs.Entry.{work_words, entry_fault, no_holder, shown, unsound, stored, used}

-- the answer, the bytes taken, and the lent words afterwards
pub record Read : Type 0 where
  pub answer : ℕ
  pub count : ℕ
  pub table : List ℕ
  pub work : List ℕ

abbrev pub not_read : ℕ → List ℕ → List ℕ → Read
not_read n ts ws = record { answer = n; count = 0; table = ts; work = ws }

-- bytes that are to go into holder h of a sound pool
abbrev pub read_into : Form → Stored → List ℕ → List ℕ → ℕ → List ℕ → Read
read_into f k ts ws h xs =
    let p = shown f ts in
    let v = verdict k xs in
    cond (not (eqb (holder p h) 0)) (not_read OCCUPIED ts (used f ts ws))
    (unless v.no (λ n. not_read n ts (used f ts ws))
    (cond (ltb (frees p.cells) (extent (list_in k xs))) (not_read NO_ROOM ts (used f ts ws))
    (record { answer = DONE; count = v.taken; table = stored f ts (read p h (list_in k xs)); work = used f ts ws })))

unfoldable pub reading_in : Form → Stored → List ℕ → List ℕ → ℕ → List ℕ → Read
reading_in f k ts ws h xs =
    unless (entry_fault work_words f ts (length ws)) (λ n. not_read n ts ws)
    (cond (no_holder f ts h) (not_read HOLDER ts ws)
    (unless (size_fault k xs) (λ n. not_read n ts ws)
    (cond (unsound f ts) (not_read UNSOUND ts (used f ts ws))
    (read_into f k ts ws h xs))))

-- on a table with four words a cell
abbrev pub read_in : Stored → List ℕ → List ℕ → ℕ → List ℕ → Read
read_in k ts ws h xs = reading_in Four k ts ws h xs
