-- `ending`: a byte that is no blank, or the end of the record.
use Rattle.std.proofs.Common.{◌+◌, ◌-◌, ◌≡◌, arith, sym, ◌∙◌, drop, length-drop}
use Rattle.std.proofs.lemmas.List.{length-take}
use Rattle.scan.proofs.Fill.{in_fill, fill_byte, blank_not, blank-on, record_full}
use Rattle.scan.proofs.ending.Goals as goal

pub returns-then-b-ne32 : goal.returns-then-b-ne32
returns-then-b-ne32 c =
    let a = c.args in
    let s = a.text.now in
    let k = c.loop-b.b-index in
    let on = in_fill s a.from c.next_multiple_of-end.result k c.loop-b-test.true in
    let same = fill_byte s a.from c.next_multiple_of-end.result k c.loop-b-test.true in
    blank_not s _ a.elements (a.from + k) c.loop-b.invariant on.0 (λ z. omega (arith, z, on.1, c.next_multiple_of-end.ensures)) (λ z. c.if-b-ne32.true (same ∙ z))

pub loop-b-preserved : goal.loop-b-preserved
loop-b-preserved c =
    let a = c.args in
    let s = a.text.now in
    let k = c.loop-b.b-index in
    let on = in_fill s a.from c.next_multiple_of-end.result k c.loop-b-test.true in
    let same = fill_byte s a.from c.next_multiple_of-end.result k c.loop-b-test.true in
    let next : a.from + k + 1 ≡ a.from + (k + 1) = omega arith in
    rw (← next) (blank-on s _ a.elements (a.from + k) c.loop-b.invariant on.0 (λ z. omega (arith, z, on.1, c.next_multiple_of-end.ensures)) (sym same ∙ c.if-b-ne32.false))

pub returns : goal.returns
returns c =
    let a = c.args in
    let end = c.next_multiple_of-end.result in
    let few = length-take (end - a.from) (drop a.from a.text.now) in
    let left = length-drop a.from a.text.now in
    let all : a.from + c.loop-b.b-index ≡ end = omega (arith, few, left, c.loop-b-test.false, c.loop-b.auto) in
    record_full a.text.now _ a.elements end (rw all at c.loop-b.invariant) (omega arith)
