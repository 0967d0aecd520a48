-- Bytes that hold a list, without the automaton: the first m of them are its groups. A code that goes over bytes which
-- the check has taken goes by this.
use Rattle.std.specs.Prelude.{ℕ, ◌≤◌, ◌≡◌, List, length, take}
use Rattle.lists.specs.Lst.{Lst, order}
use Rattle.text.specs.Limits.{levels}
use Rattle.groups.specs.Groups.{groups_of, Fits}

pub record Holding (s : List ℕ) (m : ℕ) (l : Lst) : Type 0 where
  pub within : m ≤ length s
  pub bytes : take m s ≡ groups_of l
  pub fits : Fits l
  pub shallow : order l ≤ levels
