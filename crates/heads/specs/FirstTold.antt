-- What FIRST tells of the list of a holder, in two words.
use Rattle.std.specs.Prelude.{◌≡◌, ℕ, ◌≤◌}
use Rattle.answers.specs.declared.told.Told.{Told}
use Rattle.answers.specs.Operations.{kind_told, value_told}
use Rattle.pool.specs.Pool.{Pool}
use Rattle.pool.specs.Script.{tells_first}

pub record FirstTold (p : Pool) (a : ℕ) (r : Told) : Type 0 where
  pub kind : kind_told r ≡ (tells_first p a p).kind
  pub value : value_told r ≡ (tells_first p a p).value
  -- which are all the kinds that a first element has
  pub small : kind_told r ≤ 1
