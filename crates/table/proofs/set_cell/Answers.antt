-- `table::set_cell` meets its contract.
use native.Mathlib.Omega.{arith}
use Rattle.table.specs.Fields.{put_field}
use Rattle.table.specs.Laws.ViewLaws.{after, said, all-four}
use Rattle.table.proofs.set_cell.Goals as goal

pub returns : goal.returns
returns c =
    let a = c.args in
    said
    (after (put_field 3 a.c a.next)
    (after (put_field 2 a.c a.count) (after (put_field 1 a.c a.elem) c.put_word.ensures c.put_word-2.ensures)
    c.put_word-3.ensures) c.put_word-4.ensures) (all-four _ _ _ _ _ _ c.requires.cell.low (omega arith))
