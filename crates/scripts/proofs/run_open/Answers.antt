-- `scripts::run_open` meets its contract.
use Rattle.std.proofs.Common.{refl, sym, ap, not}
use Rattle.answers.specs.Laws.Refusals.{refusal_some}
use Rattle.scripts.specs.Laws.RunLaws.{stopped_at, sizes, sizes_refused, not_sound, performs_all}
use Rattle.scripts.proofs.run_open.Goals as goal

pub returns-in_err-script_fault : goal.returns-in_err-script_fault
returns-in_err-script_fault c =
    sizes_refused _ _ _ c.requires c.in_err-script_fault.ensures (refusal_some _) (stopped_at _ _ c.from_residual.ensures.1)

pub returns-then-not-is_sound : goal.returns-then-not-is_sound
returns-then-not-is_sound c =
    not_sound _ _ _ c.requires (sym c.in_ok-script_fault.ensures)
    (rw (← c.new.ensures.shape, ← c.new.ensures.words) c.is_sound.ensures) (ap not c.if-not-is_sound.true) (rw (c.from.ensures.0, c.from.ensures.1) refl)

pub perform_all-requires-clause-sized : goal.perform_all-requires-clause-sized
perform_all-requires-clause-sized c = sizes _ _ (sym c.in_ok-script_fault.ensures)

pub returns : goal.returns
returns c =
    performs_all _ _ _ c.requires (sym c.in_ok-script_fault.ensures)
    (rw (← c.new.ensures.shape, ← c.new.ensures.words) c.is_sound.ensures) (ap not c.if-not-is_sound.false) c.perform_all.ensures
