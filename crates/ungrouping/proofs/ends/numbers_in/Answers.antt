use Rattle.std.proofs.Common.{rules, ap, ◌∙◌, arith}
use Rattle.std.specs.Slice.Iter.{chunks_rest}
use Rattle.groups.specs.LastGroups.{last_groups}
use Rattle.groups.specs.Laws.Sizes.{last-append}
use Rattle.ungrouping.specs.Laws.EndLaws.{few_last}
use Rattle.ungrouping.proofs.ends.numbers_in.Goals as goal

pub overflow_add-count : goal.overflow_add-count
overflow_add-count c =
    let step = ap last_groups c.in-Some.ensures.steps.1.0 ∙ last-append c.in-Some.block.now (chunks_rest c.next.new.self) in
    let few = few_last c.args.bytes.now in
    omega (arith, step, c.ends.ensures, c.from-count.ensures, c.requires)

pub loop-block-preserved : goal.loop-block-preserved
loop-block-preserved c =
    let step = ap last_groups c.in-Some.ensures.steps.1.0 ∙ last-append c.in-Some.block.now (chunks_rest c.next.new.self) in
    (search rules, omega (arith, step, c.ends.ensures, c.from-count.ensures))

pub returns : goal.returns
returns c =
    let few = few_last (chunks_rest c.loop-block.block-iterator) in
    omega (arith, c.in-None.ensures.steps.1.0)
