-- `ops::level::inv` meets its contract.
use Rattle.std.proofs.Common.{refl}
use Rattle.ops.specs.Laws.GivesLaws.{refuses, does}
use Rattle.ops.specs.Laws.TestLaws.{says-shared, needs_none}
use Rattle.ops.specs.Laws.WordLaws.{one}
use Rattle.pool.specs.Script.{effect}
use Rattle.ops.proofs.level.inv.Goals as goal

pub returns-then-any_shared : goal.returns-then-any_shared
returns-then-any_shared c b v = refuses (says-shared (one refl c.requires refl) refl refl (cc))

pub returns : goal.returns
unfolding effect
returns c b v = does (needs_none (one refl c.requires refl) refl refl (cc) refl) c.inv.ensures refl
