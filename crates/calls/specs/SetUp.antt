-- What setting up a pool gives, for all words: TABLE SIZE, and nothing changed, where N, H or the length is wrong.
use Rattle.std.specs.Prelude.{cond, List, ℕ, length}
use Rattle.answers.specs.Answers.{DONE, TABLE_SIZE}
use Rattle.pool.specs.Operations.{fresh}
use Rattle.table.specs.declared.Form.{Form}
use Rattle.table.specs.declared.Form.TheVariants.{Four}
use Rattle.table.specs.Limits.{holders_most}
use Rattle.table.specs.Sizes.{sizes_fit}
use Rattle.table.specs.View.{shape, words}

-- the answer, and the table's words afterwards
pub record Given : Type 0 where
  pub answer : ℕ
  pub table : List ℕ

abbrev pub not_set_up : List ℕ → Given
not_set_up ts = record { answer = TABLE_SIZE; table = ts }

-- a fresh pool of n cells and h holders
abbrev pub new_table : Form → ℕ → ℕ → Given
new_table f n h = record { answer = DONE; table = words (shape f h n) (fresh n h) }

unfoldable pub set_up_in : Form → List ℕ → ℕ → ℕ → Given
set_up_in f ts n h = cond (sizes_fit (shape f h n) (length ts)) (new_table f n h) (not_set_up ts)

-- a table with four words a cell
abbrev pub set_up : List ℕ → ℕ → Given
set_up ts n = set_up_in Four ts n holders_most
