-- `table::put_word` meets its contract.
use Rattle.std.proofs.Common.{sym, ◌∙◌}
use Rattle.table.specs.Laws.FieldLaws.{below_four}
use Rattle.table.proofs.ViewLaws.{store_two, store_four}
use Rattle.table.proofs.put_word.Goals as goal

pub returns-then-packs : goal.returns-then-packs
returns-then-packs c =
    let packs = sym c.packs.ensures ∙ c.if-packs.true in
    store_two _ _ c.requires.table _ _ _ _ _ c.requires.cell (below_four c.args.f) c.requires.v_bound packs c.start.ensures.0 c.put_two.ensures

pub returns-else-packs : goal.returns-else-packs
returns-else-packs c =
    let packs = sym c.packs.ensures ∙ c.if-packs.false in
    store_four _ _ c.requires.table _ _ _ _ c.requires.cell (below_four c.args.f) packs c.put_four.ensures
