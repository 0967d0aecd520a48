-- `togroups::move_list` meets its contract.
use Rattle.std.proofs.Common.{◌≡◌, refl, sym}
use Rattle.std.proofs.lemmas.Result.{err_from_is_err_and}
use Rattle.answers.specs.Answers.{DONE}
use Rattle.answers.specs.Laws.Refusals.{refusal_some}
use Rattle.text.specs.Text.{size_fault}
use Rattle.text.specs.Laws.SizeLaws.{its_size}
use Rattle.togroups.specs.Laws.MoveLaws.{bad_size, faulty, taken-text, moves}
use Rattle.togroups.proofs.move_list.Goals.{In_ok-size_fault}
use Rattle.togroups.proofs.move_list.Goals as goal

sized : (c : In_ok-size_fault) → size_fault c.args.text.now ≡ DONE
sized c = sym c.in_ok-size_fault.ensures

pub returns-in_err-size_fault : goal.returns-in_err-size_fault
returns-in_err-size_fault c =
    let told = err_from_is_err_and c.from_residual.result c.from_residual.ensures.1 in
    rw (told.1, told.2) (bad_size _ _ c.in_err-size_fault.ensures (refusal_some _) refl)

pub scan-requires : goal.scan-requires
scan-requires c = its_size _ (sized (goal.at.scan-requires c).In_ok-size_fault)

pub returns-in-Err : goal.returns-in-Err
returns-in-Err c = faulty _ _ (sized (goal.at.returns-in-Err c).In_ok-size_fault) c.in-Err.ensures (refusal_some _) refl

pub put_out-requires : goal.put_out-requires
put_out-requires c = taken-text _ _ (sized (goal.at.put_out-requires c).In_ok-size_fault) c.in-Ok.ensures.0

pub returns-in-Ok : goal.returns-in-Ok
returns-in-Ok c =
    moves _ _ _ _ (taken-text _ _ (sized (goal.at.returns-in-Ok c).In_ok-size_fault) c.in-Ok.ensures.0) c.put_out.ensures
