-- What the operations of a script leave: the outcome, the table and the results, by the definition of a run.
use Rattle.std.specs.Prelude.{◌≡◌, List, ℕ, ◌*◌, ◌/◌, ◌%◌, ◌≤◌, length}
use Rattle.answers.specs.Answers.{outcome}
use Rattle.answers.specs.Codes.{operation_words, result_words, script_most}
use Rattle.answers.specs.declared.Outcome.{Outcome}
use Rattle.calls.specs.Entry.{over}
use Rattle.cells.specs.Lent.{Lent, on}
use Rattle.pool.specs.Script.{Run}
use Rattle.table.specs.View.{Shows}
use Rattle.table.specs.declared.Shape.{Shape}

-- a script in whole operations, not too many, and room for their results
pub record Sized (ss rs : List ℕ) : Type 0 where
  pub whole : length ss % operation_words ≡ 0
  pub few : length ss ≤ script_most
  pub room : result_words * (length ss / operation_words) ≤ length rs

-- the operations on a lent pool: what was in the results, and pool and results afterwards
pub record PerformsIn (v : Lent) (rs₀ : List ℕ) (r : Outcome) (u : Lent) (rs : List ℕ) (q : Run) : Type 0 where
  pub pool : u ≡ on (λ _. q.pool) v
  pub outcome : r ≡ outcome q.answer q.done
  pub results : rs ≡ over q.results rs₀

-- the same in words
pub record Performs (s : Shape) (rs₀ : List ℕ) (r : Outcome) (ts rs : List ℕ) (q : Run) : Type 0 where
  pub table : Shows s ts q.pool
  pub outcome : r ≡ outcome q.answer q.done
  pub results : rs ≡ over q.results rs₀
