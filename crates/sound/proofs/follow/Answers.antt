-- `sound::follow` meets its contract.
use Rattle.std.proofs.Common.{arith}
use Rattle.sound.specs.Laws.MirrorLaws.{follow_null, follow_far, follow_free, follow_one, follow_last}
use Rattle.sound.proofs.follow.Goals as goal

pub returns-then-x-eq0 : goal.returns-then-x-eq0
returns-then-x-eq0 c = follow_null _ _ _ _ c.if-x-eq0.true

pub returns-then-x-n : goal.returns-then-x-n
returns-then-x-n c = follow_far _ _ _ _ c.requires.at_value (omega arith)

pub returns-then-r-eq0 : goal.returns-then-r-eq0
returns-then-r-eq0 c =
    follow_free _ _ _ _ c.requires.at_value (omega arith) (omega arith) c.if-r-eq0.true

pub returns-then-r-gt1 : goal.returns-then-r-gt1
returns-then-r-gt1 c =
    follow_one _ _ _ _ (omega arith) (omega arith) c.requires.n_in_bounds (omega arith)

pub returns : goal.returns
returns c =
    follow_last _ _ _ _ c.requires.at_value (omega arith) (omega arith) c.requires.n_in_bounds (omega arith)
