-- `ops::perform` meets its contract.
use Rattle.ops.specs.Laws.GivesLaws.{refuses_with}
use Rattle.ops.specs.Laws.WordLaws.{words-refused, words-passed}
use Rattle.ops.proofs.perform.Goals as goal

pub returns-in_err-named : goal.returns-in_err-named
returns-in_err-named c =
    refuses_with _ c.from_residual.ensures.1 (words-refused c.sizes.ensures _ _ (rw c.holders.ensures at c.in_err-named.ensures.answer c.args.v))

pub dispatch-requires-clause-opened : goal.dispatch-requires-clause-opened
dispatch-requires-clause-opened c =
    rw c.in_ok-named.ensures.named (words-passed c.sizes.ensures _ (rw c.holders.ensures at c.in_ok-named.ensures.answer c.args.v))
