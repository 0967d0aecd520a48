-- `erasing::adv` meets its contract.
use Rattle.std.proofs.Common.{ap, sym, ◌∙◌, arith}
use Rattle.cells.specs.Laws.LentLaws.{holder-head}
use Rattle.cells.specs.Lent.{on}
use Rattle.pool.specs.Laws.Advance.{holder_live}
use Rattle.pool.specs.Laws.AdvanceWays.{adv-alone}
use Rattle.pool.specs.Pool.{Pool, count_of}
use Rattle.erasing.proofs.adv.Goals as goal

pub count_of-requires : goal.count_of-requires
count_of-requires c =
    rw c.holder_of-x.ensures.0 (holder-head _ c.requires.asked.sized c.requires.asked.sound _ c.requires.b_value.1).cell

pub returns-then-count_of-eq1 : goal.returns-then-count_of-eq1
returns-then-count_of-eq1 c =
    let v = c.args.p.now in
    let q = c.requires in
    c.decap.ensures
    ∙ ap (λ (p : Pool). on (λ _. p) v)
    (sym
    (adv-alone _ _ _ q.asked.sound (omega arith) (omega arith) q.asked.a_bound.2 q.b_value.0
    (holder_live _ _ q.asked.sound q.b_value.1) (sym (c.count_of.ensures.0 ∙ ap (count_of v.pool.cells) c.holder_of-x.ensures.0) ∙ c.if-count_of-eq1.true)))
