-- `ops::level::cinv` meets its contract.
use Rattle.std.proofs.Common.{refl, leb-true, leb-false, lt-ltb, le-ltb}
use Rattle.ops.specs.Laws.GivesLaws.{refuses, does}
use Rattle.ops.specs.Laws.TestLaws.{says-occupied, says-full, says-done}
use Rattle.ops.specs.Laws.WordLaws.{two}
use Rattle.pool.specs.Script.{effect}
use Rattle.ops.proofs.level.cinv.Goals as goal

pub returns-then-is_occupied : goal.returns-then-is_occupied
returns-then-is_occupied c v = refuses (says-occupied (two refl c.requires refl) refl (cc))

pub returns-then-not-fits : goal.returns-then-not-fits
returns-then-not-fits c v =
    refuses (says-full (two refl c.requires refl) refl (cc) refl (lt-ltb _ _ (leb-false _ _ (cc))))

pub returns : goal.returns
unfolding effect
returns c v =
    does (says-done (two refl c.requires refl) refl (cc) refl (le-ltb _ _ (leb-true _ _ (cc)))) c.cinv.ensures refl
