-- What the soundness check answers, and what the work space holds afterwards.
use Rattle.std.specs.Prelude.{◌≡◌, Bool, true, ◌↔◌, List, ℕ, ◌*◌}
use Rattle.pool.specs.Pool.{frees, Sound}
use Rattle.pool.specs.Check.{check}
use Rattle.table.specs.declared.Shape.{Shape}
use Rattle.table.specs.View.{view}
use Rattle.table.specs.Sizes.{cleared}
use Rattle.sound.specs.declared.Found.{Found}

pub record Decided (s : Shape) (ts ws us : List ℕ) (r : Bool) : Type 0 where
  pub answer : r ≡ check (view s ts)
  pub sound : (r ≡ true) ↔ Sound (view s ts)
  pub work : us ≡ cleared (2 * s.cells) ws

-- the answer, and the number of free cells
pub record Examined (s : Shape) (ts ws us : List ℕ) (r : Found) : Type 0 where
  pub decided : Decided s ts ws us r.sound
  pub free : r.free ≡ frees (view s ts).cells
