-- `numbers::several` meets its contract.
use Rattle.std.proofs.Common.{arith}
use Rattle.numbers.specs.Laws.SeveralLaws.{once, several_is}
use Rattle.numbers.proofs.several.Goals as goal

pub overflow_mul-middle-2 : goal.overflow_mul-middle-2
overflow_mul-middle-2 c = omega (arith, once)

pub overflow_mul-middle-4 : goal.overflow_mul-middle-4
overflow_mul-middle-4 c = omega (arith, once)

pub overflow_add-middle : goal.overflow_add-middle
overflow_add-middle c = omega (arith, once)

pub overflow_mul-high-2 : goal.overflow_mul-high-2
overflow_mul-high-2 c = omega (arith, once)

pub overflow_add-result : goal.overflow_add-result
overflow_add-result c = omega (arith, once)

pub overflow_add-result-2 : goal.overflow_add-result-2
overflow_add-result-2 c = omega (arith, once)

pub returns : goal.returns
returns c =
    let a = c.args in
    several_is a.bytes.now (λ j. (c.type_inv.bytes j).fits) a.at c.requires _ _ _ _ _ _
    c.byte-first.ensures.0
    c.byte-second.ensures.0
    c.byte-third.ensures.0
    c.byte-fourth.ensures.0
    c.byte.ensures.0
    c.byte-2.ensures.0
