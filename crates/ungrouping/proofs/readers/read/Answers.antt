-- `ungrouping::readers::read` meets its contract.
use Rattle.std.proofs.Common.{rules, ◌≡◌, None, Err}
use Rattle.answers.specs.declared.refusal.Refusal.TheVariants as why
use Rattle.numbers.specs.Numbers.{number_in}
use Rattle.numbers.specs.Laws.NumberedLaws.{numbered, unnumbered}
use Rattle.ungrouping.specs.Laws.PlaceLaws.{whole-none, whole-atom, whole_list}
use Rattle.ungrouping.proofs.readers.read.Goals as goal

pub returns-in_err-first : goal.returns-in_err-first
returns-in_err-first c =
    let s = c.args.bytes.now in
    let none : None ≡ number_in s 0 = search rules in
    let is : c.from_residual.result ≡ Err why.Groups = search rules in
    rw is (whole-none s (unnumbered s 0 none))

pub returns-then-first-eq0 : goal.returns-then-first-eq0
returns-then-first-eq0 c =
    let s = c.args.bytes.now in
    whole-atom s (numbered s 0 {n = c.in_ok-first.first} (search rules)) c.if-first-eq0.true

pub read_list-requires-clause-from_in_bounds : goal.read_list-requires-clause-from_in_bounds
read_list-requires-clause-from_in_bounds c = (numbered c.args.bytes.now 0 {n = c.in_ok-first.first} (search rules)).within

pub returns : goal.returns
returns c =
    let s = c.args.bytes.now in
    whole_list s (numbered s 0 {n = c.in_ok-first.first} (search rules)) c.if-first-eq0.false c.read_list.result c.read_list.ensures
