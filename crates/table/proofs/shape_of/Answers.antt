-- `table::shape_of` meets its contract.
use Rattle.std.specs.Prelude.{◌≡◌, true, false}
use Rattle.std.proofs.Common.{rules, sym, ◌∙◌}
use Rattle.table.specs.Limits.{cells_told}
use Rattle.table.specs.Laws.SizesLaws.{its_shape}
use Rattle.table.proofs.shape_of.Goals.{After-fits}
use Rattle.table.proofs.shape_of.Goals as goal

-- the first word, 0 where there is none
told : (c : After-fits) → c.unwrap_or.result ≡ cells_told c.args.t.now
told c = search rules

pub returns-then-fits : goal.returns-then-fits
returns-then-fits c =
    its_shape _ _ _ _ true c.holders_told.ensures (told (goal.at.returns-then-fits c).After-fits) (sym c.if-fits.true ∙ c.fits.ensures)

pub returns-else-fits : goal.returns-else-fits
returns-else-fits c =
    its_shape _ _ _ _ false c.holders_told.ensures (told (goal.at.returns-else-fits c).After-fits) (sym c.if-fits.false ∙ c.fits.ensures)
