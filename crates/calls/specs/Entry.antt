-- What the calls on a table share: the first tests, the pool that the words show, and the work space afterwards.
use Rattle.table.specs.declared.Form.{Form}
use Rattle.table.specs.declared.Shape.{Shape}
use Rattle.std.specs.Prelude.{Bool, cond, not, List, ◌++◌, ℕ, ◌*◌, ◌≤◌, eqb, leb, ltb, length, drop}
use Rattle.answers.specs.Answers.{DONE, TABLE_SIZE, WORK_SPACE}
use Rattle.pool.specs.Check.{check}
use Rattle.pool.specs.Pool.{Pool}
use Rattle.table.specs.Sizes.{cells_of, shape_of, cleared}
use Rattle.table.specs.View.{holder_count, view, words, Table}

-- the words of work space that a script run, reading and writing need for each cell
abbrev pub work_words : ℕ
work_words = 2

-- TABLE SIZE: N or the length is wrong
abbrev pub bad_table : Form → List ℕ → Bool
bad_table f ts = eqb (cells_of f ts) 0

-- WORK SPACE: n words are fewer than k for each cell
abbrev pub bad_work : ℕ → Form → List ℕ → ℕ → Bool
bad_work k f ts n = ltb n (k * cells_of f ts)

-- the first tests of a call that is lent n words of work space and needs k for each cell
unfoldable pub entry_fault : ℕ → Form → List ℕ → ℕ → ℕ
entry_fault k f ts n = cond (bad_table f ts) TABLE_SIZE (cond (bad_work k f ts n) WORK_SPACE DONE)

-- past them: a table of the shape s, and enough work space
pub record Provided (k : ℕ) (s : Shape) (ts : List ℕ) (n : ℕ) : Type 0 where
  pub table : Table s ts
  pub long : k * s.cells ≤ n

-- HOLDER: none of the table's
abbrev pub no_holder : Form → List ℕ → ℕ → Bool
no_holder f ts h = leb (holder_count (shape_of f ts)) h

-- the pool that a table shows
abbrev pub shown : Form → List ℕ → Pool
shown f ts = view (shape_of f ts) ts

-- UNSOUND
abbrev pub unsound : Form → List ℕ → Bool
unsound f ts = not (check (shown f ts))

-- the words of a pool in the table's shape
abbrev pub stored : Form → List ℕ → Pool → List ℕ
stored f ts p = words (shape_of f ts) p

-- the work space once it has been used: k words for each cell are 0
abbrev pub used_by : ℕ → Form → List ℕ → List ℕ → List ℕ
used_by k f ts ws = cleared (k * cells_of f ts) ws

abbrev pub used : Form → List ℕ → List ℕ → List ℕ
used f ts ws = used_by work_words f ts ws

-- what is written over the start of lent words
abbrev pub over : List ℕ → List ℕ → List ℕ
over new old = new ++ drop (length new) old
