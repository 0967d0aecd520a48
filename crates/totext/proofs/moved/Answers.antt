-- `totext::moved` meets its contract.
use Rattle.std.proofs.Common.{rules, ◌≡◌, refl, sym, ◌∙◌, ◌<◌, Ok, Err, length, length-take-le, arith}
use Rattle.answers.specs.Laws.Refusals.{refusal_some}
use Rattle.groups.specs.Reading.{list_in}
use Rattle.groups.specs.Laws.SizeLaws.{its_size, right-size}
use Rattle.groups.specs.Laws.Taking.{taken_holds}
use Rattle.text.specs.ListText.{text_of}
use Rattle.text.specs.Writing.{usable}
use Rattle.writing.specs.Laws.WroteLaws.{before_rest}
use Rattle.totext.specs.Laws.MovedLaws.{size-refused, check-refused, output_short, list_put, moved-taken}
use Rattle.totext.proofs.moved.Goals as goal

pub returns-in_err-size_fault : goal.returns-in_err-size_fault
returns-in_err-size_fault c =
    let f = c.in_err-size_fault.field-0.0 in
    let is : c.from_residual.result ≡ Err f = search rules in
    rw is (size-refused c.args.groups.now c.args.out.now _ c.in_err-size_fault.ensures (refusal_some f) refl)

pub check-requires : goal.check-requires
check-requires c = (its_size _ (sym c.in_ok-size_fault.ensures)).1

pub returns-in_err-c : goal.returns-in_err-c
returns-in_err-c c =
    let a = c.args in
    let f = c.in_err-c.field-0.0 in
    let said : c.check.result ≡ Err f = search rules in
    let is : c.from_residual-in_err-c.result ≡ Err f = search rules in
    rw is (check-refused a.groups.now a.out.now (sym c.in_ok-size_fault.ensures) f (rw said at c.check.ensures) refl)

pub returns-then-c-usable : goal.returns-then-c-usable
returns-then-c-usable c =
    let a = c.args in
    let said : c.check.result ≡ Ok c.in_ok-c.c = search rules in
    let found = rw said at c.check.ensures in
    let taken = right-size _ (sym c.in_ok-size_fault.ensures) ∙ found.0 in
    let long : usable (length a.out.now) < length (text_of (list_in a.groups.now)) = omega (arith, found.1, c.usable.ensures) in
    moved-taken a.groups.now a.out.now _ taken (output_short _ _ taken a.out.now long refl)

pub put-requires-clause-held : goal.put-requires-clause-held
put-requires-clause-held c =
    let said : c.check.result ≡ Ok c.in_ok-c.c = search rules in
    let found = rw said at c.check.ensures in
    (_, taken_holds _ _ (right-size _ (sym c.in_ok-size_fault.ensures) ∙ found.0))

pub put-requires-clause-out_len : goal.put-requires-clause-out_len
put-requires-clause-out_len c =
    let said : c.check.result ≡ Ok c.in_ok-c.c = search rules in
    let found = rw said at c.check.ensures in
    length-take-le c.in_ok-c.c.size c.args.out.now (omega (arith, c.usable.ensures)) ∙ found.1

pub returns : goal.returns
returns c =
    let a = c.args in
    let said : c.check.result ≡ Ok c.in_ok-c.c = search rules in
    let found = rw said at c.check.ensures in
    let taken = right-size _ (sym c.in_ok-size_fault.ensures) ∙ found.0 in
    moved-taken a.groups.now a.out.now _ taken
    (list_put _ _ taken a.out.now _ _ _ _ found.1 (omega (arith, c.usable.ensures)) c.record_end-end.ensures (before_rest _ _ _ _ found.1 c.put.ensures) c.fill.ensures refl)
