-- `reading::next::next` meets its contract.
use mathlib.Core.Path.{sym, ◌∙◌}
use native.Mathlib.Omega.{arith}
use Rattle.scan.specs.Places.{Inside}
use Rattle.std.specs.Prelude.{Ok}
use Rattle.scan.proofs.Tokens.{shut_answered, atom-answered, taken_shut, taken-comma, taken-closed}
use Rattle.reading.proofs.Nexts.{Whole, here, opens, empty, whole}
use Rattle.reading.proofs.next.next.Goals.{Else-text-at-eq41, Start}
use Rattle.reading.proofs.next.next.Goals as goal

inside : (c : Start) → Inside c.args.text.now c.args.p
inside c = here c.requires.amid

-- neither "(" nor ")"
atom : (c : Else-text-at-eq41) →
    let a = c.args in
    Whole a.text.now a.p a.end
atom c =
    whole c.requires.amid c.if-text-at-eq40.false c.if-text-at-eq41.false c.requires.end_value

pub bounds-text-at : goal.bounds-text-at
bounds-text-at c = (inside (goal.at.bounds-text-at c).Start).some

pub overflow_add-result : goal.overflow_add-result
overflow_add-result c = let h = inside (goal.at.overflow_add-result c).Start in omega arith

pub overflow_add-result-then-text-at-eq40 : goal.overflow_add-result-then-text-at-eq40
overflow_add-result-then-text-at-eq40 c = let h = inside (goal.at.overflow_add-result-then-text-at-eq40 c).Start in omega arith

pub overflow_add-result-then-text-at-eq40-2 : goal.overflow_add-result-then-text-at-eq40-2
overflow_add-result-then-text-at-eq40-2 c = let h = inside (goal.at.overflow_add-result-then-text-at-eq40-2 c).Start in omega arith

pub returns-then-text-at-eq40 : goal.returns-then-text-at-eq40
returns-then-text-at-eq40 c = opens c.requires.amid c.if-text-at-eq40.true

pub bounds-text-at-2 : goal.bounds-text-at-2
bounds-text-at-2 c = (inside (goal.at.bounds-text-at-2 c).Start).some

pub overflow_sub-p : goal.overflow_sub-p
overflow_sub-p c =
    let h = inside (goal.at.overflow_sub-p c).Start in
    omega arith

pub overflow_add-at : goal.overflow_add-at
overflow_add-at c =
    let h = inside (goal.at.overflow_add-at c).Start in
    omega arith

pub closed-requires : goal.closed-requires
closed-requires c =
    let amid = c.requires.amid in
    let h = inside (goal.at.closed-requires c).Start in
    let shut = c.if-text-at-eq41.true in
    let answered = sym (shut_answered h (empty amid shut) shut) ∙ amid.place.answered in
    record {
      taken = amid.taken;
      closing = record { some = omega arith; within = omega arith; small = h.small; levelled = omega arith; counted = omega arith };
      said = answered;
    }

pub returns-then-text-at-eq41 : goal.returns-then-text-at-eq41
returns-then-text-at-eq41 c =
    let shut = c.if-text-at-eq41.true in
    taken_shut (inside (goal.at.returns-then-text-at-eq41 c).Start) (empty c.requires.amid shut) shut (Ok c.closed.result) c.closed.ensures

pub bounds-text-end : goal.bounds-text-end
bounds-text-end c = (atom (goal.at.bounds-text-end c).Else-text-at-eq41).more

pub overflow_add-result-then-text-end-eq44 : goal.overflow_add-result-then-text-end-eq44
overflow_add-result-then-text-end-eq44 c =
    let h = inside (goal.at.overflow_add-result-then-text-end-eq44 c).Start in
    let a = atom (goal.at.overflow_add-result-then-text-end-eq44 c).Else-text-at-eq41 in
    omega arith

pub overflow_add-result-then-text-end-eq44-2 : goal.overflow_add-result-then-text-end-eq44-2
overflow_add-result-then-text-end-eq44-2 c =
    let h = inside (goal.at.overflow_add-result-then-text-end-eq44-2 c).Start in
    omega arith

pub returns-then-text-end-eq44 : goal.returns-then-text-end-eq44
returns-then-text-end-eq44 c =
    let a = atom (goal.at.returns-then-text-end-eq44 c).Else-text-at-eq41 in
    taken-comma (inside (goal.at.returns-then-text-end-eq44 c).Start) a.atom a.short a.more c.if-text-end-eq44.true

pub overflow_sub-p-2 : goal.overflow_sub-p-2
overflow_sub-p-2 c =
    let h = inside (goal.at.overflow_sub-p-2 c).Start in
    omega arith

pub overflow_add-p : goal.overflow_add-p
overflow_add-p c =
    let h = inside (goal.at.overflow_add-p c).Start in
    omega arith

pub overflow_add-end : goal.overflow_add-end
overflow_add-end c =
    let h = inside (goal.at.overflow_add-end c).Start in
    let a = atom (goal.at.overflow_add-end c).Else-text-at-eq41 in
    omega arith

pub closed-requires-2 : goal.closed-requires-2
closed-requires-2 c =
    let amid = c.requires.amid in
    let h = inside (goal.at.closed-requires-2 c).Start in
    let a = atom (goal.at.closed-requires-2 c).Else-text-at-eq41 in
    let shut = a.ends c.if-text-end-eq44.false in
    let answered = sym (atom-answered h a.atom a.short a.more shut) ∙ amid.place.answered in
    record {
      taken = amid.taken;
      closing = record { some = omega arith; within = omega arith; small = h.small; levelled = omega arith; counted = omega arith };
      said = answered;
    }

pub returns : goal.returns
returns c =
    let h = inside (goal.at.returns c).Start in
    let a = atom (goal.at.returns c).Else-text-at-eq41 in
    let shut = a.ends c.if-text-end-eq44.false in
    taken-closed h a.atom a.short a.more shut (Ok c.closed-2.result) c.closed-2.ensures
