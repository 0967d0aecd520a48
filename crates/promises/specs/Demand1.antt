-- Demand 1: a call refuses what the rows name, with the number of its first row, and nothing besides; after a refusal
-- table, results and output are as they were and the numbers 0, and the work space is as lent or begins with 2N zeros;
-- and a script ends where an operation is refused, all before it done.
use Rattle.std.specs.Prelude.{◌≡◌, ◌≢◌, List, [], ◌∷◌, ◌++◌, ℕ, suc, ◌*◌, take, replicate}
use Rattle.answers.specs.Answers.{DONE}
use Rattle.answers.specs.Codes.{result_words}
use Rattle.pool.specs.Script.{Operation}
use Rattle.table.specs.Limits.{cells_told}
use Rattle.table.specs.Sizes.{cleared}
use Rattle.calls.specs.Entry.{work_words, shown, over}
use Rattle.calls.specs.Run.{Ran, operations}
use Rattle.promises.specs.Engine.{Engine}
use Rattle.promises.specs.Rows.{Row, First, Answers, None}
use Rattle.promises.specs.Grounds.{set_up_rows, run_rows, operation_rows}
use Rattle.promises.specs.TextGrounds.{check_rows}
use Rattle.promises.specs.StoredGrounds.{at_reading, read_rows, write_rows, move_rows}
use Rattle.groups.specs.declared.Stored.{Stored}
use Rattle.table.specs.declared.Form.{Form}

-- four words of a script
abbrev pub words_of : Operation → List ℕ
words_of o = o.code ∷ o.a ∷ o.b ∷ o.v ∷ []

-- what the engine makes of a script of one operation
abbrev pub alone : Engine → List ℕ → List ℕ → Operation → Ran
alone E ws ts o = E.run ts ws (words_of o) (replicate result_words 0)

-- from the table ts the operations give this answer, this number of them done, this table and these results: each is
-- answered by its rows, and one that is refused ends it
pub data Stops (form : Form) (E : Engine) (ws : List ℕ) :
    List ℕ → List Operation → ℕ → ℕ → List ℕ → List ℕ → Type 0 where
  end : {ts : List ℕ} → Stops form E ws ts [] DONE 0 ts []
  refused : {ts : List ℕ} {o : Operation} {os : List Operation} {n : ℕ} → Answers (operation_rows (shown form ts) o) n
      → n ≢ DONE → Stops form E ws ts (o ∷ os) n 0 ts []
  done : {ts us qs : List ℕ} {o : Operation} {os : List Operation} {n k : ℕ}
      → Answers (operation_rows (shown form ts) o) DONE
      → Stops form E ws (alone E ws ts o).table os n k us qs
      → Stops form E ws ts (o ∷ os) n (suc k) us ((alone E ws ts o).results ++ qs)

-- the answer of each call is that of its rows
abbrev pub SetUpRefusals : (form : Form) → Engine → Type 0
SetUpRefusals form E = (ts : List ℕ) (n h : ℕ) → Answers (set_up_rows form ts n h) (E.set_up ts n h).answer

abbrev pub RunRefusals : (form : Form) → Engine → Type 0
RunRefusals form E =
    (ts ws ss rs : List ℕ) → First (run_rows form ts ws ss rs) (λ n. Unit {0}) (E.run ts ws ss rs).answer

abbrev pub ReadRefusals : (form : Form) → Engine → Type 0
ReadRefusals form E =
    (k : Stored) (ts ws : List ℕ) (h : ℕ) (xs : List ℕ) → Answers (read_rows form k ts ws h xs)
    (E.read k ts ws h xs).answer

abbrev pub WriteRefusals : (form : Form) → Engine → Type 0
WriteRefusals form E =
    (k : Stored) (ts ws : List ℕ) (h : ℕ) (out : List ℕ) → Answers (write_rows form k ts ws h out)
    (E.write k ts ws h out).answer

abbrev pub MoveRefusals : Engine → Type 0
MoveRefusals E = (k : Stored) (xs out : List ℕ) → Answers (move_rows k xs out) (E.move k xs out).answer

abbrev pub CheckRefusals : Engine → Type 0
CheckRefusals E = (xs : List ℕ) → Answers (check_rows xs) (E.check xs).no

-- after a refusal table, results and output are as they were, and each number is 0; the bytes are only read
abbrev pub RefusedSetUp : Engine → Type 0
RefusedSetUp E = (ts : List ℕ) (n h : ℕ) → (E.set_up ts n h).answer ≢ DONE → (E.set_up ts n h).table ≡ ts

abbrev pub RefusedRun : (form : Form) → Engine → Type 0
RefusedRun form E =
    (ts ws ss rs : List ℕ) → (None (run_rows form ts ws ss rs) → ⊥) → let r = E.run ts ws ss rs in
    (r.table ≡ ts) × (r.results ≡ rs) × (r.count ≡ 0)

abbrev pub RefusedRead : Engine → Type 0
RefusedRead E =
    (k : Stored) (ts ws : List ℕ) (h : ℕ) (xs : List ℕ) → let r = E.read k ts ws h xs in
    r.answer ≢ DONE → (r.table ≡ ts) × (r.count ≡ 0)

abbrev pub RefusedWrite : Engine → Type 0
RefusedWrite E =
    (k : Stored) (ts ws : List ℕ) (h : ℕ) (out : List ℕ) → let r = E.write k ts ws h out in
    r.answer ≢ DONE → (r.output ≡ out) × (r.count ≡ 0)

abbrev pub RefusedMove : Engine → Type 0
RefusedMove E =
    (k : Stored) (xs out : List ℕ) → let r = E.move k xs out in
    r.answer ≢ DONE → (r.output ≡ out) × (r.taken ≡ 0) × (r.written ≡ 0)

abbrev pub RefusedCheck : Engine → Type 0
RefusedCheck E = (xs : List ℕ) → (E.check xs).no ≢ DONE → (E.check xs).taken ≡ 0

-- the work space vs afterwards: ws as lent where one of the rows holds, else 2N zeros and behind them as lent
abbrev pub WorkSpace : List Row → List ℕ → List ℕ → List ℕ → Type 0
WorkSpace rows ts ws vs = ((None rows → ⊥) → vs ≡ ws) × (None rows → vs ≡ cleared (work_words * cells_told ts) ws)

-- the rows that leave it untouched: 1 to 4 of a run, 1, 2, 7, 13 and 14 of reading, 1, 2 and 7 of writing
abbrev pub RunWork : (form : Form) → Engine → Type 0
RunWork form E = (ts ws ss rs : List ℕ) → WorkSpace (take 4 (run_rows form ts ws ss rs)) ts ws (E.run ts ws ss rs).work

abbrev pub ReadWork : (form : Form) → Engine → Type 0
ReadWork form E =
    (k : Stored) (ts ws : List ℕ) (h : ℕ) (xs : List ℕ) → WorkSpace (at_reading form k ts ws h xs) ts ws
    (E.read k ts ws h xs).work

abbrev pub WriteWork : (form : Form) → Engine → Type 0
WriteWork form E =
    (k : Stored) (ts ws : List ℕ) (h : ℕ) (out : List ℕ) → WorkSpace (take 3 (write_rows form k ts ws h out)) ts ws
    (E.write k ts ws h out).work

-- a script that passes its first rows is its operations one by one, up to one that is refused
abbrev pub ScriptsStop : (form : Form) → Engine → Type 0
ScriptsStop form E =
    (ts ws ss rs : List ℕ) → None (run_rows form ts ws ss rs) → let r = E.run ts ws ss rs in
    (qs : List ℕ) × Stops form E ws ts (operations ss) r.answer r.count r.table qs × (r.results ≡ over qs rs)

pub record Demand1 (form : Form) (E : Engine) : Type 0 where
  pub set_up_refusals : SetUpRefusals form E
  pub run_refusals : RunRefusals form E
  pub read_refusals : ReadRefusals form E
  pub write_refusals : WriteRefusals form E
  pub move_refusals : MoveRefusals E
  pub check_refusals : CheckRefusals E
  pub refused-set_up : RefusedSetUp E
  pub refused-run : RefusedRun form E
  pub refused-read : RefusedRead E
  pub refused_write : RefusedWrite E
  pub refused_move : RefusedMove E
  pub refused-check : RefusedCheck E
  pub run_work : RunWork form E
  pub read_work : ReadWork form E
  pub write_work : WriteWork form E
  pub scripts_stop : ScriptsStop form E
