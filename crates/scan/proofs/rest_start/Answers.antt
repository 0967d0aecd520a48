-- `rest_start` goes by what the check takes, and by what stands behind the records that it takes.
use Rattle.std.proofs.Common.{arith, refl, sym, ◌∙◌}
use Rattle.answers.specs.Laws.Refusals.{refusal_some}
use Rattle.text.specs.Laws.Rest.{rest-within}
use Rattle.scan.proofs.Checks.{refused_end, whole_records, blank_end, more-behind}
use Rattle.scan.proofs.rest_start.Goals as goal

pub at_end-requires : goal.at_end-requires
at_end-requires c =
    let whole = whole_records c.args.text.now c.in-Ok.ensures refl in
    record { record_bytes_len = whole.1; record_bytes_value = whole.2 }

pub returns-in_default : goal.returns-in_default
returns-in_default c = (refused_end _ c.in_default.ensures (refusal_some c.in_default.field-0), omega arith)

pub returns-then-at_end : goal.returns-then-at_end
returns-then-at_end c =
    let s = c.args.text.now in
    (blank_end s c.in-Ok.ensures refl (sym c.if-at_end.true ∙ c.at_end.ensures), omega arith)

pub returns-else-at_end : goal.returns-else-at_end
returns-else-at_end c =
    let s = c.args.text.now in
    let behind = more-behind s c.in-Ok.ensures refl (sym c.if-at_end.false ∙ c.at_end.ensures) in
    (behind, omega (arith, behind, rest-within s))
