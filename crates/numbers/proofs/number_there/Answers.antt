-- `numbers::number_there` meets its contract.
use Rattle.std.proofs.Common.{rules, ◌∙◌, sym, arith}
use Rattle.numbers.specs.Laws.NumberedLaws.{ended_some, there_inside}
use Rattle.numbers.specs.Laws.RaisedLaws.{one-here}
use Rattle.numbers.proofs.number_there.Goals as goal

pub bounds-bytes-at : goal.bounds-bytes-at
bounds-bytes-at c = there_inside _ _ c.requires

pub returns-then-group-lt128 : goal.returns-then-group-lt128
returns-then-group-lt128 c =
    let a = c.args in
    rw c.from.ensures (one-here a.bytes.now a.at (there_inside _ _ c.requires) (omega arith))

pub returns : goal.returns
returns c =
    let sum = c.several-sum.result in
    let is = c.several-sum.ensures in
    sym (ended_some sum.value sum.last sum.end (rw is c.requires)) ∙ is

pub overflow_add-result : goal.overflow_add-result
overflow_add-result c = search (rules, there_inside c.args.bytes.now c.args.at c.requires)
