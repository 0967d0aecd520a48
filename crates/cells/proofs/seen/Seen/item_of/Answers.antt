-- `Seen::item_of` meets its contract.
use Rattle.std.proofs.Common.{sym, ◌∙◌}
use Rattle.cells.specs.Laws.StepLaws.{item-null, item_some}
use Rattle.cells.proofs.seen.Seen.item_of.Goals as goal

pub returns-then-kind_of-eq0 : goal.returns-then-kind_of-eq0
returns-then-kind_of-eq0 c = item-null _ _ (sym c.kind_of.ensures ∙ c.if-kind_of-eq0.true)

pub returns-else-kind_of-eq0 : goal.returns-else-kind_of-eq0
returns-else-kind_of-eq0 c = c.elem_of.ensures ∙ item_some _ _ (λ q. c.if-kind_of-eq0.false (c.kind_of.ensures ∙ q))
