-- `ungrouping::scan` meets its contract: what the reader found, and the extent by the ends of the numbers.
use Rattle.std.proofs.Common.{rules, ◌≡◌, Err, length-take, arith}
use Rattle.groups.specs.Laws.SizeLaws.{its_size}
use Rattle.ungrouping.specs.Laws.EndLaws.{ends_taken}
use Rattle.ungrouping.proofs.scan.Goals as goal

pub returns-in_err-end : goal.returns-in_err-end
returns-in_err-end c =
    let is : c.from_residual.result ≡ Err c.in_err-end.field-0.0 = search rules in
    rw is c.in_err-end.ensures

pub overflow_cast-result : goal.overflow_cast-result
overflow_cast-result c = omega (arith, c.in_ok-end.ensures.0, (its_size c.args.bytes.now c.requires).1)

pub numbers_in-requires : goal.numbers_in-requires
numbers_in-requires c = simp length-take (omega (arith, c.in_ok-end.ensures.0, (its_size c.args.bytes.now c.requires).1))

pub overflow_sub-result : goal.overflow_sub-result
overflow_sub-result c = omega (arith, c.numbers_in.ensures, ends_taken c.args.bytes.now c.in_ok-end.end c.in_ok-end.ensures.1)

pub returns : goal.returns
returns c =
    let found = c.in_ok-end.ensures.1 in
    (found, omega (arith, c.numbers_in.ensures, ends_taken c.args.bytes.now c.in_ok-end.end found))
