use Rattle.std.proofs.Common.{refl, arith}
use Rattle.sound.specs.Laws.HolderLaws.{holders_start, holders_room, holders_step}
use Rattle.sound.proofs.meet_holders.Goals as goal

pub loop-h-init : goal.loop-h-init
loop-h-init c = holders_start _ _ _ _ refl c.args.t.table.measured c.requires.counted

pub stow-e-requires : goal.stow-e-requires
stow-e-requires c =
    holders_room _ _ _ _ _ _ c.args.t.table.measured (omega arith) (omega arith) c.loop-h.invariant (omega arith) _ _ _
    c.holder_of-x.ensures.0 c.follow-f.ensures

pub loop-h-preserved : goal.loop-h-preserved
loop-h-preserved c =
    holders_step _ _ _ _ _ _ c.args.t.table.measured (omega arith) (omega arith) c.loop-h.invariant (omega arith) _ _ _
    c.holder_of-x.ensures.0 c.follow-f.ensures _ _ c.stow-e.ensures
