-- `writing::enter_and_write` meets its contract: refused at its entry, or written from a table of the shape that the entry gives.
use Rattle.std.proofs.Common.{length, refl}
use Rattle.std.proofs.lemmas.Result.{err_from_is_err_and}
use Rattle.calls.specs.Entry.{work_words}
use Rattle.entry.specs.Laws.EntryLaws.{Admitted, admitted, turned_away}
use Rattle.writing.specs.Laws.WroteLaws.{entry-refused}
use Rattle.writing.proofs.enter_and_write.Goals.{In_ok-s}
use Rattle.writing.proofs.enter_and_write.Goals as goal

entered : (c : In_ok-s) →
    let a = c.args in
    Admitted work_words a.f a.table.now (length a.work.now) c.in_ok-s.s
entered c = admitted _ _ _ _ c.in_ok-s.ensures.refused c.in_ok-s.ensures.entered refl

pub returns-in_err-s : goal.returns-in_err-s
returns-in_err-s c =
    let p = err_from_is_err_and c.from_residual.result c.from_residual.ensures.1 in
    rw (p.1, p.2) (entry-refused _ _ _ _ _ _ (turned_away _ _ _ _ c.in_err-s.ensures.refused refl))

pub write_open-requires : goal.write_open-requires
write_open-requires c = (entered (goal.at.write_open-requires c).In_ok-s).provided
