-- What a script run gives, for all words: TABLE SIZE and WORK SPACE, SCRIPT and RESULTS, and UNSOUND, once and in this
-- order, and then operation by operation.
use Rattle.std.specs.Prelude.{Bool, cond, not, ◌||◌, List, [], ◌∷◌, ℕ, ◌*◌, ◌/◌, ◌%◌, eqb, ltb, length}
use Rattle.answers.specs.Answers.{DONE, SCRIPT, RESULTS, UNSOUND, unless}
use Rattle.answers.specs.Codes.{operation_words, script_most, result_words}
use Rattle.pool.specs.Script.{Operation, Run, performed}
use Rattle.table.specs.declared.Form.{Form}
use Rattle.table.specs.declared.Form.TheVariants.{Four}
use Rattle.calls.specs.Entry.{work_words, entry_fault, shown, unsound, stored, used, over}

-- a script: words in fours, the rest not looked at
unfoldable pub operations : List ℕ → List Operation
operations [] = []
operations (c ∷ []) = []
operations (c ∷ a ∷ []) = []
operations (c ∷ a ∷ b ∷ []) = []
operations (c ∷ a ∷ b ∷ v ∷ ss) = record { code = c; a = a; b = b; v = v } ∷ operations ss

-- SCRIPT: words are left over behind the last four, or there are too many operations
abbrev pub bad_script : List ℕ → Bool
bad_script ss = not (eqb (length ss % operation_words) 0) || ltb script_most (length ss)

-- RESULTS: too few words for the results of all operations
abbrev pub bad_results : List ℕ → List ℕ → Bool
bad_results ss rs = ltb (length rs) (result_words * (length ss / operation_words))

unfoldable pub script_fault : List ℕ → List ℕ → ℕ
script_fault ss rs = cond (bad_script ss) SCRIPT (cond (bad_results ss rs) RESULTS DONE)

-- the answer, the operations done, and the lent words afterwards
pub record Ran : Type 0 where
  pub answer : ℕ
  pub count : ℕ
  pub table : List ℕ
  pub work : List ℕ
  pub results : List ℕ

abbrev pub not_run : ℕ → List ℕ → List ℕ → List ℕ → Ran
not_run n ts ws rs = record { answer = n; count = 0; table = ts; work = ws; results = rs }

abbrev pub ran_to : Form → Run → List ℕ → List ℕ → List ℕ → Ran
ran_to f r ts ws rs = record {
  answer = r.answer;
  count = r.done;
  table = stored f ts r.pool;
  work = used f ts ws;
  results = over r.results rs;
}

unfoldable pub ran_in : Form → List ℕ → List ℕ → List ℕ → List ℕ → Ran
ran_in f ts ws ss rs =
    unless (entry_fault work_words f ts (length ws)) (λ n. not_run n ts ws rs)
    (unless (script_fault ss rs) (λ n. not_run n ts ws rs)
    (cond (unsound f ts) (not_run UNSOUND ts (used f ts ws) rs)
    (ran_to f (performed (shown f ts) (operations ss)) ts ws rs)))

-- on a table with four words a cell
abbrev pub ran : List ℕ → List ℕ → List ℕ → List ℕ → Ran
ran ts ws ss rs = ran_in Four ts ws ss rs
