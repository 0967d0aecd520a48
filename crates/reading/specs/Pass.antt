-- The second pass over a text, at a place of it: what is left of the text is what is left to read into the holder.
use Rattle.std.specs.Prelude.{◌≡◌, List, ℕ, length}
use Rattle.building.specs.Underway.{LeadsTo}
use Rattle.building.specs.declared.hook.Hook.{Hook}
use Rattle.pool.specs.Operations.{read}
use Rattle.pool.specs.Pool.{Pool}
use Rattle.scan.specs.Places.{prospect_at}
use Rattle.scan.specs.declared.step.Place.{Place}
use Rattle.table.specs.declared.Shape.{Shape}
use Rattle.table.specs.View.{view, Table}
use Rattle.text.specs.Limits.{levels}
use Rattle.text.specs.Marks.{list_in}
use Rattle.reading.specs.Accepting.{Taken, Accepting}
use Rattle.reading.specs.Adding.{stack}

-- the pool when all is read
abbrev pub goal_of : Shape → List ℕ → ℕ → List ℕ → Pool
goal_of s ts h text = read (view s ts) h (list_in text)

-- from the table ts to the table us
pub record Pass (s : Shape) (ts : List ℕ) (h : ℕ) (text : List ℕ)
    (us : List ℕ) (k : Hook) (xs : List ℕ) (p : Place) : Type 0 where
  pub taken : Taken text
  pub table : Table s us
  pub long : length xs ≡ levels
  pub place : Accepting text p
  pub leads : LeadsTo (view s us) h k (stack xs p.depth) (goal_of s ts h text) (prospect_at text p).marks
