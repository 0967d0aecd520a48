-- `totext::check::pass` meets its contract.
use Rattle.std.proofs.Common.{rules, ◌≡◌, None, Err, arith}
use Rattle.answers.specs.declared.refusal.Refusal.TheVariants as why
use Rattle.numbers.specs.Numbers.{number_in}
use Rattle.numbers.specs.Laws.NumberedLaws.{numbered, unnumbered}
use Rattle.totext.specs.Laws.CheckingLaws.{pass_none, pass_atom, pass_deep, pass_list}
use Rattle.totext.proofs.check.pass.Goals as goal

pub returns-in_err-n : goal.returns-in_err-n
returns-in_err-n c =
    let a = c.args in
    let none : None ≡ number_in a.groups.now a.w.from = search rules in
    let is : c.from_residual.result ≡ Err why.Groups = search rules in
    rw is (pass_none c.requires.checking c.requires.le_depth.0 c.requires.le_depth.1 (unnumbered a.groups.now a.w.from none))

pub chars-requires : goal.chars-requires
chars-requires c = (numbered c.args.groups.now c.args.w.from {n = c.in_ok-n.n} (search rules)).small

pub returns-then-n-eq0 : goal.returns-then-n-eq0
returns-then-n-eq0 c =
    let n = numbered c.args.groups.now c.args.w.from {n = c.in_ok-n.n} (search rules) in
    pass_atom c.requires.checking c.requires.le_depth.0 c.requires.le_depth.1 n c.chars.ensures.0 c.chars.ensures.1 c.if-n-eq0.true

pub returns-then-depth : goal.returns-then-depth
returns-then-depth c =
    let n = numbered c.args.groups.now c.args.w.from {n = c.in_ok-n.n} (search rules) in
    pass_deep c.requires.checking c.requires.le_depth.0 c.requires.le_depth.1 n c.chars.ensures.0 c.chars.ensures.1 c.if-n-eq0.false c.if-depth.true

pub returns : goal.returns
returns c =
    let n = numbered c.args.groups.now c.args.w.from {n = c.in_ok-n.n} (search rules) in
    pass_list c.requires.checking c.requires.le_depth.0 c.requires.le_depth.1 n c.chars.ensures.0 c.chars.ensures.1 c.if-n-eq0.false c.if-depth.false

pub overflow_cast-result : goal.overflow_cast-result
overflow_cast-result c = omega (arith, (numbered c.args.groups.now c.args.w.from {n = c.in_ok-n.n} (search rules)).small)
