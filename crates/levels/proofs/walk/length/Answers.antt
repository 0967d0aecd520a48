use Rattle.std.specs.Prelude.{refl}
use Rattle.pool.specs.Laws.Level.{all_left}
use Rattle.levels.proofs.walk.length.Goals as goal

pub length_at-requires : goal.length_at-requires
length_at-requires c = rw c.holder_of.ensures.0 (all_left _ _ c.requires.sound)

pub returns : goal.returns
returns c =
    let n = c.length_at.ensures in
    (rw (n.0, c.holder_of.ensures.0) refl, n.1)
