-- An engine's calls as functions on words, and ours. A demand is a statement about any engine.
use Rattle.std.specs.Prelude.{◌≡◌, List, ℕ}
use Rattle.answers.specs.Answers.{DONE}
use Rattle.text.specs.Text.{Answer, verdict, rest_at}
use Rattle.calls.specs.SetUp.{Given, set_up_in}
use Rattle.calls.specs.Run.{Ran, ran_in}
use Rattle.calls.specs.Read.{Read, reading_in}
use Rattle.calls.specs.Write.{Write, writing_in}
use Rattle.calls.specs.Move.{Move, moved_from}
use Rattle.groups.specs.declared.Stored.{Stored}
use Rattle.table.specs.declared.Form.{Form}

-- what each call gives: its answer, its number, and the lent words afterwards
pub record Engine : Type 0 where
  -- the table's words, the number of cells, the number of holders
  pub set_up : List ℕ → ℕ → ℕ → Given
  -- table, work space, script, results
  pub run : List ℕ → List ℕ → List ℕ → List ℕ → Ran
  -- stored form, table, work space, holder, bytes
  pub read : Stored → List ℕ → List ℕ → ℕ → List ℕ → Read
  -- stored form, table, work space, holder, output
  pub write : Stored → List ℕ → List ℕ → ℕ → List ℕ → Write
  -- stored form, bytes, output; the list goes into the other form
  pub move : Stored → List ℕ → List ℕ → Move
  -- text
  pub check : List ℕ → Answer
  -- text; where the records after the first list begin
  pub rest : List ℕ → ℕ

abbrev pub ours : (form : Form) → Engine
ours form = record {
  set_up = set_up_in form;
  run = ran_in form;
  read = reading_in form;
  write = writing_in form;
  move = moved_from;
  check = verdict;
  rest = rest_at;
}

-- the tables that an engine's calls can make, from a set-up that is done on, whatever the arguments and the answers
pub data Reached (E : Engine) : List ℕ → Type 0 where
  made : (ts : List ℕ) (n h : ℕ) → (E.set_up ts n h).answer ≡ DONE → Reached E (E.set_up ts n h).table
  set_again : {ts : List ℕ} (n h : ℕ) → Reached E ts → Reached E (E.set_up ts n h).table
  ran_on : {ts : List ℕ} (ws ss rs : List ℕ) → Reached E ts → Reached E (E.run ts ws ss rs).table
  read_into : {ts : List ℕ} (k : Stored) (ws : List ℕ) (h : ℕ) (xs : List ℕ) → Reached E ts
      → Reached E (E.read k ts ws h xs).table
