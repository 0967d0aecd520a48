-- Behind the text nothing is left.
use Rattle.std.proofs.Common.{sym, eq-eqb, arith}
use Rattle.text.specs.Laws.Blanks.{others_out}
use Rattle.records.proofs.at_end.Goals as goal

pub returns-in-None : goal.returns-in-None
returns-in-None c =
    sym (eq-eqb _ _ (others_out c.args.text.now c.args.from (omega (arith, c.in-None.ensures.lookup.0))))
