-- What stands between two places of a text goes into cells; an array has the cell of the open list at each level.
use Rattle.std.specs.Prelude.{◌≡◌, List, [], ◌∷◌, ℕ, zero, suc, ◌+◌, ◌-◌, ◌≤◌, ◌<◌, length, get_or}
use Rattle.building.specs.Underway.{Coming, Steps}
use Rattle.building.specs.declared.hook.Hook.{Hook}
use Rattle.scan.specs.Places.{shuts, passed}
use Rattle.scan.specs.declared.step.Place.{Place}
use Rattle.table.specs.declared.Shape.{Shape}
use Rattle.table.specs.View.{holder_count, view, Table}
use Rattle.text.specs.Limits.{levels}

-- the cells of the open lists where n levels are open, innermost first
unfoldable pub stack : List ℕ → ℕ → List ℕ
stack xs zero = []
stack xs (suc n) = get_or xs n 0 ∷ stack xs n

-- the lists of the levels above `to` end
abbrev pub ShutTo : Shape → ℕ → List ℕ → Hook → List ℕ → ℕ → ℕ → List ℕ → Hook → Type 0
ShutTo s h ts k xs from to us j = Steps s h ts k (stack xs from) (shuts (from - to)) us j (stack xs to)

-- what adding to the table ts the marks between the places p and q asks, and what it does
pub record Adding (s : Shape) (ts : List ℕ) (h : ℕ) (k : Hook) (xs : List ℕ) (p q : Place) (v : ℕ) : Type 0 where
  pub table : Table s ts
  pub holder : h < holder_count s
  pub long : length xs ≡ levels
  pub levelled : p.depth ≤ levels
  pub high : q.depth ≤ p.depth + 1
  pub top : q.depth ≤ levels
  pub coming : Coming (view s ts) h k (stack xs p.depth) (passed v p q)

pub record Added (s : Shape) (ts : List ℕ) (h : ℕ) (k : Hook) (xs : List ℕ) (p q : Place) (v : ℕ)
    (us : List ℕ) (j : Hook) (ys : List ℕ) : Type 0 where
  pub long : length ys ≡ levels
  pub steps : Steps s h ts k (stack xs p.depth) (passed v p q) us j (stack ys q.depth)
