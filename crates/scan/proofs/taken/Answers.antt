-- `taken` refuses a text for its size, and else says what the scan finds.
use Rattle.std.proofs.Common.{sym, ◌∙◌}
use Rattle.text.specs.Laws.SizeLaws.{its_size}
use Rattle.scan.proofs.Checks.{refused_as, checked-size, checked}
use Rattle.scan.proofs.taken.Goals as goal

pub returns-in_err-size_fault : goal.returns-in_err-size_fault
returns-in_err-size_fault c =
    refused_as _ _ c.from_residual.ensures.1 ∙ checked-size _ _ c.in_err-size_fault.ensures

pub scan-requires : goal.scan-requires
scan-requires c = its_size _ (sym c.in_ok-size_fault.ensures)

pub returns-in_err-scan : goal.returns-in_err-scan
returns-in_err-scan c =
    refused_as _ _ c.from_residual-in_err-scan.ensures.1 ∙ checked _ (sym c.in_ok-size_fault.ensures) c.in_err-scan.ensures

pub returns : goal.returns
returns c = checked _ (sym c.in_ok-size_fault.ensures) c.in_ok-scan.ensures.0
