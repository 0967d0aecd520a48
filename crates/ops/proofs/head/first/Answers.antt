-- `ops::head::first` meets its contract.
use Rattle.std.proofs.Common.{refl}
use Rattle.ops.specs.Laws.GivesLaws.{refuses, does, first_said}
use Rattle.ops.specs.Laws.TestLaws.{says-null, needs_none}
use Rattle.ops.specs.Laws.WordLaws.{one}
use Rattle.pool.specs.Script.{effect}
use Rattle.ops.proofs.head.first.Goals as goal

pub returns-then-is_null : goal.returns-then-is_null
returns-then-is_null c b v = refuses (says-null (one refl c.requires refl) (cc))

pub returns : goal.returns
unfolding effect
returns c b v =
    does (needs_none (one refl c.requires refl) (cc) refl refl refl) refl (first_said (rw c.seen-2.ensures.pool at c.first.ensures))
