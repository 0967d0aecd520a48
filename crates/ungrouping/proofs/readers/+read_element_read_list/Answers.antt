use Rattle.std.proofs.Common.{rules, ◌≡◌, ℕ, ◌-◌, None, Ok, Err, arith}
use Rattle.answers.specs.declared.refusal.Refusal.TheVariants as why
use Rattle.numbers.specs.Numbers.{number_in}
use Rattle.numbers.specs.Laws.NumberedLaws.{numbered, unnumbered}
use Rattle.ungrouping.specs.Places.{Leads}
use Rattle.ungrouping.specs.Laws.PlaceLaws.{no_element, atom-element, deep_element, list_element, leads-on, element-on, element-stops}
use Rattle.ungrouping.proofs.readers.+read_element_read_list.Goals.{read_list-After-past-behind}
use Rattle.ungrouping.proofs.readers.+read_element_read_list.Goals as goal

-- ---- an element
pub read_element-returns-in_err-n : goal.read_element-returns-in_err-n
read_element-returns-in_err-n t c =
    let a = c.args in
    let none : None ≡ number_in a.bytes.now a.at = search rules in
    let is : c.from_residual.result ≡ Err why.Groups = search rules in
    rw is (no_element a.bytes.now a.level a.at (unnumbered a.bytes.now a.at none))

pub read_element-returns-then-n-eq0 : goal.read_element-returns-then-n-eq0
read_element-returns-then-n-eq0 t c =
    let a = c.args in
    atom-element a.bytes.now a.level a.at (numbered a.bytes.now a.at {n = c.in_ok-n.n} (search rules)) c.if-n-eq0.true

pub read_element-returns-then-level-ge-MOST : goal.read_element-returns-then-level-ge-MOST
read_element-returns-then-level-ge-MOST t c =
    let a = c.args in
    deep_element a.bytes.now a.level a.at (numbered a.bytes.now a.at {n = c.in_ok-n.n} (search rules)) c.if-n-eq0.false (omega arith)

pub read_element-read_list-requires : goal.read_element-read_list-requires
read_element-read_list-requires t c =
    let n = numbered c.args.bytes.now c.args.at {n = c.in_ok-n.n} (search rules) in
    (omega arith, (n.within, omega arith))

pub read_element-returns : goal.read_element-returns
read_element-returns t c =
    let a = c.args in
    list_element a.bytes.now a.level a.at (numbered a.bytes.now a.at {n = c.in_ok-n.n} (search rules)) c.if-n-eq0.false c.if-level-ge-MOST.false c.read_list.result c.read_list.ensures

-- ---- a list
-- behind the atoms that come first in a turn
passed : (t : ℕ) (c : read_list-After-past-behind t) →
    Leads c.args.bytes.now c.args.level c.args.from c.args.claimed c.past-behind.result (c.loop-left.left - (c.past-behind.result - c.loop-left.at))
passed t c = leads-on c.loop-left.invariant (c.past-behind.ensures.leads c.args.level)

pub read_list-read_element-requires : goal.read_list-read_element-requires
read_list-read_element-requires t c =
    let l = passed t (goal.at.read_list-read_element-requires t c).After-past-behind in
    (omega arith, (l.within, c.requires.level_le_levels))

pub read_list-returns-in_err-at : goal.read_list-returns-in_err-at
read_list-returns-in_err-at t c =
    let f = c.in_err-at.field-0.0 in
    let found : c.read_element.result ≡ Err f = search rules in
    let is : c.from_residual.result ≡ Err f = search rules in
    let l = passed t (goal.at.read_list-returns-in_err-at t c).After-past-behind in
    rw is (element-stops l (omega arith) (rw found at c.read_element.ensures))

pub read_list-loop-left-smaller-then-left-gt0 : goal.read_list-loop-left-smaller-then-left-gt0
read_list-loop-left-smaller-then-left-gt0 t c =
    let found : c.read_element.result ≡ Ok c.in_ok-at.at = search rules in
    let e = rw found at c.read_element.ensures in
    omega (arith, e.takes, (e.reads 0).within)

pub read_list-loop-left-preserved-then-left-gt0 : goal.read_list-loop-left-preserved-then-left-gt0
read_list-loop-left-preserved-then-left-gt0 t c =
    let found : c.read_element.result ≡ Ok c.in_ok-at.at = search rules in
    let l = passed t (goal.at.read_list-loop-left-preserved-then-left-gt0 t c).After-past-behind in
    element-on l (omega arith) (rw found at c.read_element.ensures)

pub read_list-loop-left-smaller : goal.read_list-loop-left-smaller
read_list-loop-left-smaller t c =
    let l = passed t (goal.at.read_list-loop-left-smaller t c).After-past-behind in
    omega (arith, l.within)

pub read_list-loop-left-preserved : goal.read_list-loop-left-preserved
read_list-loop-left-preserved t c = passed t (goal.at.read_list-loop-left-preserved t c).After-past-behind
