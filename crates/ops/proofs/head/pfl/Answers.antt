-- `ops::head::pfl` meets its contract.
use Rattle.std.proofs.Common.{refl, ltb-false}
use Rattle.ops.specs.Laws.GivesLaws.{refuses, does}
use Rattle.ops.specs.Laws.TestLaws.{says-full, says-done}
use Rattle.ops.specs.Laws.WordLaws.{two}
use Rattle.pool.specs.Script.{effect}
use Rattle.pool.specs.Laws.ScriptLaws.{some_free}
use Rattle.ops.proofs.head.pfl.Goals as goal

pub returns-then-is_full : goal.returns-then-is_full
returns-then-is_full c v = refuses (says-full (two refl c.requires refl) refl refl refl (cc))

pub pfl-requires-clause-free : goal.pfl-requires-clause-free
pfl-requires-clause-free c = some_free _ c.requires.sound (ltb-false _ 1 (cc))

pub returns : goal.returns
unfolding effect
returns c v = does (says-done (two refl c.requires refl) refl refl refl (cc)) c.pfl.ensures refl
