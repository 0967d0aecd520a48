-- `lines::record::fill_record` meets its contract.
use Rattle.std.proofs.Common.{length, arith}
use Rattle.lines.specs.Laws.RecordLaws.{filled-most, fills_lem}
use Rattle.lines.proofs.record.fill_record.Goals as goal

pub returns : goal.returns
returns c =
    let e = c.next_multiple_of-end.ensures.value in
    fills_lem c.args.text.now c.args.page.now _ _ _ e (omega (arith, e, filled-most (length c.args.text.now) c.requires.0, c.requires.1))
    c.copy_from_slice.ensures.after (c.fill.ensures.after (λ y q. q))
