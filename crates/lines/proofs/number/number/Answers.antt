use Rattle.std.proofs.Common.{◌≡◌, ◌≤◌, arith, sym, ap, ◌∙◌, inl, inr, length, drop, rules}
use Rattle.lines.specs.Numbers.{digits, numbers_end, value}
use Rattle.lines.specs.Laws.NumberLaws.{digits_taken, digit_read, reads_more, reads_large, reads_all, count_judged, large_judged, judged}
use Rattle.lines.proofs.number.number.Goals.{After-split_at, then-is_empty-via-then-is_empty, then-is_empty-via-else-is_empty+then-digits-gt-MOST}
use Rattle.lines.proofs.number.number.Goals as goal

-- the bytes before the split are the digits
front : (c : After-split_at) → c.split_at.result.0.now ≡ digits c.args.line.now
front c = digits_taken c.args.line.now _ _ c.digit_count.ensures c.split_at.ensures.front

pub returns-then-is_empty : goal.returns-then-is_empty
returns-then-is_empty c =
    let n = ap length (front (goal.at.returns-then-is_empty c).After-split_at) in
    count_judged c.args.line.now
    (elim c.then-is_empty.either [ inl e ↦ inl (sym n ∙ search rules) | inr h ↦ inr (omega (arith, n, h.1)) ])

pub returns-in_err-checked_mul : goal.returns-in_err-checked_mul
returns-in_err-checked_mul c =
    let ds = c.split_at.result.0.now in
    let f = front (goal.at.returns-in_err-checked_mul c).After-split_at in
    let l : numbers_end ≤ value 0 ds =
    reads_large ds c.loop-b.value c.loop-b.b-index _ c.loop-b.invariant.reads c.loop-b-test.true (omega (arith, c.in_err-checked_mul.ensures)) in
    rw c.from_residual.ensures (large_judged c.args.line.now (rw f at l))

pub overflow_sub-b : goal.overflow_sub-b
overflow_sub-b c = (digit_read c.args.line.now _ c.loop-b.b-index (front (goal.at.overflow_sub-b c).After-split_at) c.loop-b-test.true).0

pub returns-in_err-value : goal.returns-in_err-value
returns-in_err-value c =
    let ds = c.split_at.result.0.now in
    let f = front (goal.at.returns-in_err-value c).After-split_at in
    let l : numbers_end ≤ value 0 ds =
    reads_large ds c.loop-b.value c.loop-b.b-index _ c.loop-b.invariant.reads c.loop-b-test.true
    (omega (arith, c.in_err-value.ensures, c.in_ok-checked_mul.ensures, c.from.ensures)) in
    rw c.from_residual-in_err-value.ensures (large_judged c.args.line.now (rw f at l))

pub loop-b-preserved : goal.loop-b-preserved
loop-b-preserved c =
    record {
      reads =
          reads_more c.split_at.result.0.now c.loop-b.value c.loop-b.b-index _ c.loop-b.invariant.reads c.loop-b-test.true
          (omega (arith, c.in_ok-value.ensures, c.in_ok-checked_mul.ensures, c.from.ensures));
      fits = omega (arith, c.in_ok-value.ensures);
    }

pub returns : goal.returns
returns c =
    let f = front (goal.at.returns c).After-split_at in
    let n = ap length f in
    judged c.args.line.now c.loop-b.value _
    (reads_all _ _ _ c.loop-b.invariant.reads c.loop-b-test.false ∙ ap (value 0) f)
    (c.split_at.ensures.back ∙ ap (λ k. drop k c.args.line.now) c.digit_count.ensures)
    c.loop-b.invariant.fits (search rules) (omega (arith, n))
