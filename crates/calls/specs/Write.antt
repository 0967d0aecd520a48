-- What writing the list of a holder in a stored form gives, for all words and bytes: DEEP and OUTPUT are judged before
-- a byte is written.
use Rattle.std.specs.Prelude.{cond, List, ℕ, length}
use Rattle.answers.specs.Answers.{DONE, UNSOUND, HOLDER, unless}
use Rattle.lists.specs.Lst.{Lst}
use Rattle.pool.specs.Operations.{list_of}
use Rattle.groups.specs.Stored.{bytes_of, judged}
use Rattle.groups.specs.declared.Stored.{Stored}
use Rattle.table.specs.declared.Form.{Form}
use Rattle.table.specs.declared.Form.TheVariants.{Four}
use Rattle.calls.specs.Entry.{work_words, entry_fault, no_holder, shown, unsound, used, over}

-- the answer, the bytes written, and the lent words and bytes afterwards; the table is only read
pub record Write : Type 0 where
  pub answer : ℕ
  pub count : ℕ
  pub work : List ℕ
  pub output : List ℕ

abbrev pub not_written : ℕ → List ℕ → List ℕ → Write
not_written n ws out = record { answer = n; count = 0; work = ws; output = out }

-- the list l written to the output, or the earliest of DEEP and OUTPUT
abbrev pub write_list : Stored → Lst → List ℕ → List ℕ → Write
write_list k l ws out =
    unless (judged k (length out) l) (λ n. not_written n ws out)
    (record { answer = DONE; count = length (bytes_of k l); work = ws; output = over (bytes_of k l) out })

unfoldable pub writing_in : Form → Stored → List ℕ → List ℕ → ℕ → List ℕ → Write
writing_in f k ts ws h out =
    unless (entry_fault work_words f ts (length ws)) (λ n. not_written n ws out)
    (cond (no_holder f ts h) (not_written HOLDER ws out)
    (cond (unsound f ts) (not_written UNSOUND (used f ts ws) out)
    (write_list k (list_of (shown f ts) h) (used f ts ws) out)))

-- on a table with four words a cell
abbrev pub write_out : Stored → List ℕ → List ℕ → ℕ → List ℕ → Write
write_out k ts ws h out = writing_in Four k ts ws h out
