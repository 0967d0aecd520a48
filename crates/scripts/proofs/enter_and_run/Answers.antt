-- `scripts::enter_and_run` meets its contract: refused at its entry, or run on a table of the shape that the entry gives.
use Rattle.std.specs.Prelude.{length}
use Rattle.std.proofs.Common.{rules, ◌≡◌, Ok, Err}
use Rattle.calls.specs.Entry.{work_words}
use Rattle.entry.specs.Laws.EntryLaws.{Admitted, admitted, turned_away}
use Rattle.scripts.specs.Laws.RunLaws.{entry-refused, stopped_at, of_form}
use Rattle.scripts.proofs.enter_and_run.Goals.{In_ok-s}
use Rattle.scripts.proofs.enter_and_run.Goals as goal

entered : (c : In_ok-s) →
    let a = c.args in
    Admitted work_words a.f a.table.now (length a.work.now) c.in_ok-s.s
entered c =
    let said : c.enter.result ≡ Ok c.in_ok-s.s = search rules in
    admitted _ _ _ _ c.enter.ensures.refused c.enter.ensures.entered said

pub run_open-requires : goal.run_open-requires
run_open-requires c = (entered (goal.at.run_open-requires c).In_ok-s).provided

pub returns-in_err-s : goal.returns-in_err-s
returns-in_err-s c =
    let said : c.enter.result ≡ Err c.in_err-s.field-0.0 = search rules in
    entry-refused _ _ _ _ _ (turned_away _ _ _ _ c.enter.ensures.refused said) (stopped_at _ _ c.from_residual.ensures.1)

pub returns : goal.returns
returns c = of_form _ _ _ _ (entered (goal.at.returns c).In_ok-s).form c.run_open.ensures
