-- `ops::head::pfa` meets its contract.
use Rattle.std.proofs.Common.{refl, ltb-false}
use Rattle.ops.specs.Laws.GivesLaws.{refuses, does}
use Rattle.ops.specs.Laws.TestLaws.{says-full, says-done}
use Rattle.ops.specs.Laws.WordLaws.{one}
use Rattle.pool.specs.Script.{effect}
use Rattle.pool.specs.Laws.ScriptLaws.{some_free}
use Rattle.ops.proofs.head.pfa.Goals as goal

pub returns-then-is_full : goal.returns-then-is_full
returns-then-is_full c b = refuses (says-full (one refl c.requires refl) refl refl refl (cc))

pub pfa-requires-clause-free : goal.pfa-requires-clause-free
pfa-requires-clause-free c = some_free _ c.requires.sound (ltb-false _ 1 (cc))

pub returns : goal.returns
unfolding effect
returns c b = does (says-done (one refl c.requires refl) refl refl refl (cc)) c.pfa.ensures refl
