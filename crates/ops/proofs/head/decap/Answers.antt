-- `ops::head::decap` meets its contract.
use Rattle.std.proofs.Common.{refl, sym, ◌<◌, ◌≤◌, lt-ltb, le-ltb}
use Rattle.cells.specs.Laws.LentLaws.{holder-head}
use Rattle.ops.specs.Laws.GivesLaws.{refuses, refuses_with, does, first_said}
use Rattle.ops.specs.Laws.TestLaws.{parts, parting-refused, parting-shared, parting-done}
use Rattle.ops.specs.Laws.WordLaws.{two}
use Rattle.pool.specs.Pool.{count_of, holder}
use Rattle.pool.specs.Script.{effect}
use Rattle.pool.specs.Laws.ScriptLaws.{own_head}
use Rattle.ops.proofs.head.decap.Goals.{Else-count_of-gt1}
use Rattle.ops.proofs.head.decap.Goals as goal

-- past the tests the first cell of a is its own
own : (c : Else-count_of-gt1) →
    let p = c.args.p.now.pool in
    count_of p.cells (holder p c.args.a) ≤ 1
own c = rw (← c.holder_of-x.ensures.0, ← c.count_of.ensures.0) c.if-count_of-gt1.false

pub returns-in_err-parting : goal.returns-in_err-parting
returns-in_err-parting c v =
    refuses_with _ c.from_residual.ensures.1 (parting-refused (two refl c.requires refl) refl refl _ (rw c.seen.ensures.pool at c.in_err-parting.ensures))

pub count_of-requires : goal.count_of-requires
count_of-requires c =
    rw c.holder_of-x.ensures.0 (holder-head _ c.requires.sized c.requires.sound _ (parts (sym (rw c.seen.ensures.pool at c.in_ok-parting.ensures))).filled).cell

pub returns-then-count_of-gt1 : goal.returns-then-count_of-gt1
returns-then-count_of-gt1 c v =
    let p = c.args.p.now.pool in
    let n : 1 < count_of p.cells (holder p c.args.a) = rw (← c.holder_of-x.ensures.0, ← c.count_of.ensures.0) c.if-count_of-gt1.true in
    refuses (parting-shared (two refl c.requires refl) refl refl (parts (sym (rw c.seen.ensures.pool at c.in_ok-parting.ensures))) (rw (lt-ltb 1 _ n) refl))

pub first-e-requires-clause-a_nonzero : goal.first-e-requires-clause-a_nonzero
first-e-requires-clause-a_nonzero c = rw c.seen-2.ensures.pool (parts (sym (rw c.seen.ensures.pool at c.in_ok-parting.ensures))).filled

pub decap-requires-clause-b_value : goal.decap-requires-clause-b_value
decap-requires-clause-b_value c =
    let q = parts (sym (rw c.seen.ensures.pool at c.in_ok-parting.ensures)) in
    (q.vacant, own_head _ _ c.requires.sound q.filled (own (goal.at.decap-requires-clause-b_value c).Else-count_of-gt1))

pub returns : goal.returns
unfolding effect
returns c v =
    let own = own (goal.at.returns c).Else-count_of-gt1 in
    does (parting-done (two refl c.requires refl) refl refl (parts (sym (rw c.seen.ensures.pool at c.in_ok-parting.ensures))) (rw (le-ltb 1 _ own) refl) refl) c.decap.ensures
    (first_said (rw c.seen-2.ensures.pool at c.first-e.ensures))
