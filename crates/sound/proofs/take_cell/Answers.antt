-- `sound::take_cell` meets its contract.
use Rattle.sound.specs.Laws.TakeLaws.{hand_cell, next-room, took}
use Rattle.sound.proofs.take_cell.Goals as goal

pub next_of-x-requires : goal.next_of-x-requires
next_of-x-requires c = hand_cell _ _ _ _ c.requires

pub refill-requires : goal.refill-requires
refill-requires c =
    next-room _ _ _ _ c.requires _ _ c.meet_element-g.ensures _ _ _ c.next_of-x.ensures.0
    c.follow-h.ensures

pub returns : goal.returns
returns c =
    took _ _ _ _ c.requires _ _ c.meet_element-g.ensures _ _ _ c.next_of-x.ensures.0
    c.follow-h.ensures _ c.refill.ensures
