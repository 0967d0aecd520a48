use Rattle.std.proofs.Common.{rules, ◌≡◌, None, Err, arith}
use Rattle.answers.specs.declared.refusal.Refusal.TheVariants as why
use Rattle.numbers.specs.Numbers.{number_in}
use Rattle.numbers.specs.Laws.NumberedLaws.{numbered, unnumbered}
use Rattle.totext.specs.Laws.CheckingLaws.{no_number, no_list, check-begins, check-size, check_ends}
use Rattle.totext.proofs.check.check.Goals as goal

pub returns-in_err-n : goal.returns-in_err-n
returns-in_err-n c =
    let s = c.args.groups.now in
    let none : None ≡ number_in s 0 = search rules in
    let is : c.from_residual.result ≡ Err why.Groups = search rules in
    rw is (no_number s (unnumbered s 0 none))

pub returns-then-n-eq0 : goal.returns-then-n-eq0
returns-then-n-eq0 c = no_list _ (numbered c.args.groups.now 0 {n = c.in_ok-n.n} (search rules)) c.if-n-eq0.true

pub chars-requires : goal.chars-requires
chars-requires c = (numbered c.args.groups.now 0 {n = c.in_ok-n.n} (search rules)).small

pub overflow_cast-w : goal.overflow_cast-w
overflow_cast-w c = omega (arith, (numbered c.args.groups.now 0 {n = c.in_ok-n.n} (search rules)).small)

pub loop-w-init : goal.loop-w-init
loop-w-init c =
    let n = numbered c.args.groups.now 0 {n = c.in_ok-n.n} (search rules) in
    check-begins _ n _ c.if-n-eq0.false c.chars.ensures.0 c.chars.ensures.1

pub overflow_sub-result : goal.overflow_sub-result
overflow_sub-result c = omega (arith, check-size c.loop-w.invariant (omega arith))

pub returns : goal.returns
returns c = check_ends c.loop-w.invariant (omega arith)
