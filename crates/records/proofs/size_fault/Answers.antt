-- `size_fault` tests the size as the definition does.
use Rattle.std.proofs.Common.{sym, ◌∙◌}
use Rattle.text.specs.Laws.SizeLaws.{not_whole, too_long, blank, no_fault}
use Rattle.records.proofs.size_fault.Goals.{then-text-ne0-via-then-text-ne0, then-text-ne0-via-else-text-ne0+then-text-gt-TEXT}
use Rattle.records.proofs.size_fault.Goals as goal

pub returns-then-text-ne0 : goal.returns-then-text-ne0
returns-then-text-ne0 c =
    elim c.then-text-ne0.branch [
      | then-text-ne0-via-then-text-ne0 w ↦ sym (not_whole _ w.if-text-ne0.true)
      | then-text-ne0-via-else-text-ne0+then-text-gt-TEXT w ↦ sym (too_long _ w.if-text-ne0.false w.if-text-gt-TEXT.true)
    ]

pub returns-then-at_end : goal.returns-then-at_end
returns-then-at_end c =
    sym (blank _ c.if-text-ne0.false c.if-text-gt-TEXT.false (sym c.at_end.ensures ∙ c.if-at_end.true))

pub returns : goal.returns
returns c =
    sym (no_fault _ c.if-text-ne0.false c.if-text-gt-TEXT.false (sym c.at_end.ensures ∙ c.if-at_end.false))
