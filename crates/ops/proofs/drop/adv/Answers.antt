-- `ops::drop::adv` meets its contract.
use Rattle.std.proofs.Common.{refl, sym}
use Rattle.ops.specs.Laws.GivesLaws.{refuses_with, does, first_said}
use Rattle.ops.specs.Laws.TestLaws.{parts, parting-refused, parting-done}
use Rattle.ops.specs.Laws.WordLaws.{two}
use Rattle.pool.specs.Script.{effect}
use Rattle.ops.proofs.drop.adv.Goals as goal

pub returns-in_err-parting : goal.returns-in_err-parting
returns-in_err-parting c v =
    refuses_with _ c.from_residual.ensures.1 (parting-refused (two refl c.requires refl) refl refl _ (rw c.seen.ensures.pool at c.in_err-parting.ensures))

pub first-e-requires-clause-a_nonzero : goal.first-e-requires-clause-a_nonzero
first-e-requires-clause-a_nonzero c = rw c.seen-2.ensures.pool (parts (sym (rw c.seen.ensures.pool at c.in_ok-parting.ensures))).filled

pub adv-requires-clause-b_value : goal.adv-requires-clause-b_value
adv-requires-clause-b_value c =
    let q = parts (sym (rw c.seen.ensures.pool at c.in_ok-parting.ensures)) in
    (q.vacant, q.filled)

pub returns : goal.returns
unfolding effect
returns c v =
    does (parting-done (two refl c.requires refl) refl refl (parts (sym (rw c.seen.ensures.pool at c.in_ok-parting.ensures))) refl refl) c.adv.ensures (first_said (rw c.seen-2.ensures.pool at c.first-e.ensures))
