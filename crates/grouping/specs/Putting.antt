-- Where the writing of groups stands: the bytes that the walk has passed are in their places, and behind them the
-- output is as it was.
use Rattle.std.specs.Prelude.{ℕ, ◌≤◌, ◌≡◌, ◌≢◌, List, ◌++◌, length, take, drop}
use Rattle.std.proofs.Math.Seq.{paste}
use Rattle.groups.specs.Groups.{groups_of}
use Rattle.groups.specs.Writing.{Item}
use Rattle.walks.specs.declared.walk.Walk.{Walk}
use Rattle.grouping.specs.Items.{bytes_in}
use Rattle.grouping.specs.Steps.{atom_in, list_in, ending, Turn}
use Rattle.grouping.specs.Walking.{Walking}
use Rattle.lists.specs.Lst.{Lst}
use Rattle.pool.specs.Pool.{Cell, kind_of}

-- the number of a turn ends within the room
pub record Roomy (cs : List Cell) (w : Walk) (room : ℕ) : Type 0 where
  pub passes : w.at ≢ 0 → kind_of cs w.at ≡ 0 → ending w (atom_in cs w.at) ≤ room
  pub opens : w.at ≢ 0 → kind_of cs w.at ≢ 0 → ending w (list_in cs w.at) ≤ room

-- a turn whose number is put into the output
abbrev pub PutTurn : List Cell → List ℕ → Walk → List ℕ → Walk → List ℕ → List ℕ → Type 0
PutTurn cs after w next r old new =
    (is : List Item) × Turn cs after w next r is × (new ≡ paste old w.size (bytes_in is) (length (bytes_in is)))

pub record Putting (cs : List Cell) (l : Lst) (u : ℕ) (old out after : List ℕ) (w : Walk) : Type 0 where
  pub opened : List Lst
  pub walks : Walking cs l u after w opened
  pub room : length out ≡ length old
  pub put : out ≡ take w.size (groups_of l) ++ drop w.size old
