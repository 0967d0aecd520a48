-- `sound::examine` meets its contract.
use Rattle.std.proofs.Common.{rules, arith}
use Rattle.std.proofs.lemmas.Bool.Decides.{nat_tests}
use Rattle.cells.specs.Views.{pool_of}
use Rattle.sound.specs.Laws.PeelLaws.{gone_fits}
use Rattle.sound.specs.Laws.DecidedLaws.{frees_few, examined}
use Rattle.sound.proofs.examine.Goals as goal

pub overflow_add-result : goal.overflow_add-result
overflow_add-result c =
    let t = c.args.t in
    omega (
      arith,
      gone_fits _ _ _ _ c.peel_all-e.result t.table.measured c.peel_all-e.ensures,
      frees_few (pool_of t).cells,
    )

pub returns-then-e-eq1 : goal.returns-then-e-eq1
returns-then-e-eq1 c =
    examined _ _ _ _ _ _ _ _ _ _ c.args.t.table.measured c.copy_counts-free.ensures c.peel_all-e.ensures c.chain_holds-a.ensures
    (search (rules, nat_tests)) c.clear.ensures

pub returns-else-e-eq1 : goal.returns-else-e-eq1
returns-else-e-eq1 c =
    examined _ _ _ _ _ _ _ _ _ _ c.args.t.table.measured c.copy_counts-free.ensures c.peel_all-e.ensures c.chain_holds-a.ensures
    (search (rules, nat_tests)) c.clear.ensures
