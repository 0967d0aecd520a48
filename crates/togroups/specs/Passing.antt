-- The pass from the end of a text: the groups of what is behind its place are put out, the last byte first, or counted.
use Rattle.std.specs.Prelude.{ℕ, ◌≡◌, Bool, List, length}
use Rattle.togroups.specs.Laid.{over_back}
use Rattle.togroups.specs.Walking.{Walking, groups_from}
use Rattle.togroups.specs.declared.walk.Walk.{Walk}

pub record Passing (t old : List ℕ) (puts : Bool) (out outer : List ℕ) (w : Walk) (n : ℕ) : Type 0 where
  pub walks : Walking t outer w
  pub size : n ≡ length (groups_from t w.at)
  pub bytes : out ≡ over_back puts (groups_from t w.at) old
