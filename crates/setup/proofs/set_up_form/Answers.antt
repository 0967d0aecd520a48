-- `setup::set_up_form` meets its contract.
use Rattle.std.proofs.Common.{sym, ◌∙◌}
use Rattle.setup.specs.Laws.SetUpLaws.{refuses, unlinked, sets_up, made}
use Rattle.setup.proofs.set_up_form.Goals as goal

pub returns-then-not-fits : goal.returns-then-not-fits
returns-then-not-fits c = refuses _ _ _ _ (sym c.fits.ensures ∙ c.if-not-fits.true)

pub link-requires-clause-t_value : goal.link-requires-clause-t_value
link-requires-clause-t_value c = unlinked _ c.lay_out.ensures c.set_free.ensures

pub returns : goal.returns
returns c =
    sets_up _ _ _ _ (sym c.fits.ensures ∙ c.if-not-fits.false) (made _ c.lay_out.ensures c.set_free.ensures c.link.ensures)
