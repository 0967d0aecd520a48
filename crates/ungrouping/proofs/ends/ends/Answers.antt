use Rattle.std.proofs.Common.{refl, ◌≤◌, length, take, arith}
use Rattle.std.proofs.lemmas.Grind.{common_steps}
use Rattle.groups.specs.LastGroups.{last_groups}
use Rattle.ungrouping.specs.Laws.EndLaws.{few_last, last_next}
use Rattle.ungrouping.proofs.ends.ends.Goals as goal

pub loop-b-init : goal.loop-b-init
unfolding last_groups
loop-b-init c = refl

pub overflow_add-count : goal.overflow_add-count
overflow_add-count c =
    let next = last_next c.args.block.now c.loop-b.b-index c.loop-b-test.true in
    let few = few_last (take c.loop-b.b-index c.args.block.now) in
    let one : c.from-count.result ≤ 1 = grind (arith, common_steps) in
    let short : length (take c.loop-b.b-index c.args.block.now) ≤ c.loop-b.b-index = grind (arith, common_steps) in
    omega (arith, c.requires)

pub loop-b-preserved : goal.loop-b-preserved
loop-b-preserved c =
    let next = last_next c.args.block.now c.loop-b.b-index c.loop-b-test.true in
    let same = c.from-count.ensures in
    grind (arith, common_steps, next, same)
