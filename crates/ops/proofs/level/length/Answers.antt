-- `ops::level::length` meets its contract.
use Rattle.std.proofs.Common.{refl, ℕ, ap, Ok}
use Rattle.ops.specs.Laws.GivesLaws.{does}
use Rattle.ops.specs.Laws.TestLaws.{needs_none}
use Rattle.ops.specs.Laws.WordLaws.{one}
use Rattle.pool.specs.Script.{effect}
use Rattle.ops.proofs.level.length.Goals as goal

pub returns : goal.returns
unfolding effect
returns c b v =
    does (needs_none (one refl c.requires refl) refl refl refl refl) refl (ap (λ (n : ℕ). Ok (2, n)) (rw c.seen.ensures.pool at c.length-n.ensures.0))
