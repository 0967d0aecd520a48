-- `sound::stow` meets its contract.
use Rattle.sound.specs.Laws.MirrorLaws.{stow_some}
use Rattle.sound.proofs.stow.Goals as goal

pub returns : goal.returns
returns c = stow_some _ _ _ c.requires c.if-x-eq0.false
