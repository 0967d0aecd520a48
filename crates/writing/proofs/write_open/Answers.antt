-- `writing::write_open` meets its contract.
use Rattle.std.proofs.Common.{ap, arith, not}
use Rattle.writing.specs.Laws.WroteLaws.{stands, no_holder_lem, not_sound, accepted}
use Rattle.writing.proofs.write_open.Goals as goal

pub returns-then-h-holders : goal.returns-then-h-holders
returns-then-h-holders c = no_holder_lem c.args.b _ _ _ c.requires (omega (arith, c.if-h-holders.true, c.holders.ensures))

pub returns-then-not-is_sound : goal.returns-then-not-is_sound
returns-then-not-is_sound c =
    let t = c.new-t.ensures in
    not_sound c.args.b _ _ _ c.requires (omega (arith, c.if-h-holders.false, c.holders.ensures)) (rw (t.shape, t.words) at c.is_sound.ensures) (ap not c.if-not-is_sound.true)

pub write_list-requires : goal.write_list-requires
write_list-requires c =
    let t = c.new-t.ensures in
    let sound = rw (t.shape, t.words) at c.is_sound.ensures in
    rw (t.shape, t.words) (stands _ _ _ (sound.sound.0 (c.if-not-is_sound.false)) (rw (t.shape, t.words) at c.holder_of.ensures.0))

pub returns : goal.returns
returns c =
    let t = c.new-t.ensures in
    accepted c.args.b _ _ _ c.requires (omega (arith, c.if-h-holders.false, c.holders.ensures)) (rw (t.shape, t.words) at c.is_sound.ensures) (ap not c.if-not-is_sound.false)
    (rw (t.shape, t.words) at c.holder_of.ensures.0) (rw (t.shape, t.words) at c.write_list.ensures _)
