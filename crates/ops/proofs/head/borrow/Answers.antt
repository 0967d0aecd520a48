-- `ops::head::borrow` meets its contract.
use Rattle.std.proofs.Common.{refl}
use Rattle.ops.specs.Laws.GivesLaws.{refuses, does}
use Rattle.ops.specs.Laws.TestLaws.{says-occupied, needs_none}
use Rattle.ops.specs.Laws.WordLaws.{two}
use Rattle.pool.specs.Script.{effect}
use Rattle.ops.proofs.head.borrow.Goals as goal

pub returns-then-is_occupied : goal.returns-then-is_occupied
returns-then-is_occupied c v = refuses (says-occupied (two refl c.requires refl) refl (cc))

pub returns : goal.returns
unfolding effect
returns c v = does (needs_none (two refl c.requires refl) refl (cc) refl refl) c.borrow.ensures refl
