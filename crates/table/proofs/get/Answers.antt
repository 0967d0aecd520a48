-- `table::get` meets its contract.
use Rattle.std.specs.Prelude.{true, false}
use Rattle.std.proofs.Common.{sym, ◌∙◌}
use Rattle.table.specs.Laws.FieldLaws.{below_four}
use Rattle.table.specs.Laws.ViewLaws.{read, at-four}
use Rattle.table.proofs.get.Goals as goal

pub returns-then-packs : goal.returns-then-packs
returns-then-packs c =
    let packs = sym c.packs.ensures ∙ c.if-packs.true in
    c.get_two.ensures ∙ read _ _ c.requires.table _ _ c.requires.cell (below_four c.args.f) true packs _ (sym c.start.ensures.0)

pub returns-else-packs : goal.returns-else-packs
returns-else-packs c =
    let packs = sym c.packs.ensures ∙ c.if-packs.false in
    c.get_four.ensures ∙ read _ _ c.requires.table _ _ c.requires.cell (below_four c.args.f) false packs _ (at-four _ _ c.requires.table packs)
