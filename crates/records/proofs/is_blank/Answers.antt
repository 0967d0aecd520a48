-- A first byte that is no blank is one of the others.
use Rattle.std.proofs.Common.{ne_eqb, sym, ◌∙◌, arith}
use Rattle.records.proofs.Blanks.{another_first}
use Rattle.records.proofs.is_blank.Goals as goal

pub returns-else-bytes-eq32 : goal.returns-else-bytes-eq32
returns-else-bytes-eq32 c =
    let first = c.if-bytes-eq32.false in
    ne_eqb _ 32 first ∙ sym (ne_eqb _ 0 (another_first _ (omega (arith, c.requires)) first))
