-- What the code of a call has to show: its answer, the number beside it and every lent word afterwards are those of the
-- definition.
use Rattle.std.specs.Prelude.{◌≡◌, List, ℕ}
use Rattle.answers.specs.Answers.{outcome, moved}
use Rattle.answers.specs.declared.Moved.{Moved}
use Rattle.answers.specs.declared.Outcome.{Outcome}
use Rattle.calls.specs.SetUp.{Given}
use Rattle.calls.specs.Run.{Ran}
use Rattle.calls.specs.Read.{Read}
use Rattle.calls.specs.Write.{Write}
use Rattle.calls.specs.Move.{Move}

-- setting up: the table
pub record SetsUp (r : ℕ) (us : List ℕ) (g : Given) : Type 0 where
  pub answer : r ≡ g.answer
  pub table : us ≡ g.table

-- a script run: table, work space and results
pub record Runs (r : Outcome) (ts ws rs : List ℕ) (q : Ran) : Type 0 where
  pub outcome : r ≡ outcome q.answer q.count
  pub table : ts ≡ q.table
  pub work : ws ≡ q.work
  pub results : rs ≡ q.results

-- reading: table and work space; the bytes are only read
pub record Reads (r : Outcome) (ts ws : List ℕ) (q : Read) : Type 0 where
  pub outcome : r ≡ outcome q.answer q.count
  pub table : ts ≡ q.table
  pub work : ws ≡ q.work

-- writing: work space and output; the table is only read
pub record Writes (r : Outcome) (ws out : List ℕ) (q : Write) : Type 0 where
  pub outcome : r ≡ outcome q.answer q.count
  pub work : ws ≡ q.work
  pub output : out ≡ q.output

-- a move: output; the bytes moved are only read
pub record Moves (r : Moved) (out : List ℕ) (q : Move) : Type 0 where
  pub moved : r ≡ moved q.answer q.taken q.written
  pub output : out ≡ q.output
