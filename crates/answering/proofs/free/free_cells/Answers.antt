-- `answering::free::free_cells` meets its contract.
use Rattle.std.proofs.Common.{sym, ap, subst, ◌∙◌}
use Rattle.table.specs.declared.Form.TheVariants.{Four}
use Rattle.table.specs.declared.Shape.{Shape}
use Rattle.table.specs.View.{Table}
use Rattle.table.proofs.SizesLaws.{cells_table}
use Rattle.answering.specs.Laws.FreeLaws.{none_free, some_free}
use Rattle.answering.proofs.free.free_cells.Goals as goal

pub returns-then-s-eq0 : goal.returns-then-s-eq0
returns-then-s-eq0 c = none_free _ _ c.shape_of-s.ensures c.if-s-eq0.true

pub count_free-requires : goal.count_free-requires
count_free-requires c =
    subst (λ (k : Shape). Table k c.args.t.now) (sym c.shape_of-s.ensures)
    (cells_table Four _ (λ q. c.if-s-eq0.false (ap (λ (k : Shape). k.cells) c.shape_of-s.ensures ∙ q)))

pub returns : goal.returns
returns c = c.count_free.ensures ∙ some_free _ _ c.shape_of-s.ensures
