-- `answering::engine::read_text` meets its contract.
use Rattle.std.proofs.Common.{arith, length}
use Rattle.lines.specs.Printed.{filled}
use Rattle.lines.specs.Laws.RecordLaws.{filled-length, filled-most}
use Rattle.answering.specs.Laws.SessionLaws.{printed}
use Rattle.answering.specs.Laws.ReadLaws.{reads}
use Rattle.answering.proofs.engine.read_text.Goals as goal

pub returns : goal.returns
returns c =
    let s = c.args.text.now in
    let p = printed (filled s) c.fill_record-n.ensures (omega (arith, filled-length s, filled-most (length s) c.requires.0, c.requires.1)) in
    rw c.plain.ensures
    (reads c.args.table.now _ _ _ s _ _ _ c.told-work p.bytes c.read-r.ensures)
