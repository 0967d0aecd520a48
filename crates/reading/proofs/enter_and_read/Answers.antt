-- `reading::enter_and_read` meets its contract: refused at its entry, or read into a table of the shape that the entry gives.
use Rattle.std.specs.Prelude.{length}
use Rattle.std.proofs.Common.{rules, ◌≡◌, refl, Ok, Err}
use Rattle.calls.specs.Entry.{work_words}
use Rattle.entry.specs.Laws.EntryLaws.{Admitted, admitted, turned_away}
use Rattle.reading.specs.Laws.ReadLaws.{entry-refused, of_form}
use Rattle.reading.proofs.enter_and_read.Goals.{In_ok-s}
use Rattle.reading.proofs.enter_and_read.Goals as goal

entered : (c : In_ok-s) →
    let a = c.args in
    Admitted work_words a.f a.t.now (length a.w.now) c.in_ok-s.s
entered c =
    let said : c.enter.result ≡ Ok c.in_ok-s.s = search rules in
    admitted _ _ _ _ c.enter.ensures.refused c.enter.ensures.entered said

pub read_open-requires : goal.read_open-requires
read_open-requires c = (entered (goal.at.read_open-requires c).In_ok-s).provided

pub returns-in_err-s : goal.returns-in_err-s
returns-in_err-s c =
    let f = c.in_err-s.field-0.0 in
    let said : c.enter.result ≡ Err f = search rules in
    let is : c.from_residual.result ≡ Err f = search rules in
    rw is (entry-refused _ _ _ _ _ _ (turned_away _ _ _ _ c.enter.ensures.refused said) refl)

pub returns : goal.returns
returns c = of_form _ _ _ _ _ (entered (goal.at.returns c).In_ok-s).form c.read_open.ensures
