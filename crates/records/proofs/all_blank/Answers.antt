-- Where a record is not blank, or all are behind, the number of others left tells.
use Rattle.std.proofs.Common.{sym, ◌∙◌, eq-eqb, eqb-true, ne_eqb, arith}
use Rattle.std.proofs.lemmas.Bool.{eqb-false}
use Rattle.std.specs.Slice.Iter.{chunks_exact_rest}
use Rattle.records.proofs.Blanks.{behind, still_whole, none_left}
use Rattle.records.proofs.all_blank.Goals as goal

pub returns-then-not-is_blank : goal.returns-then-not-is_blank
returns-then-not-is_blank c =
    let more = behind (chunks_exact_rest c.loop-record.record-iterator) c.in-Some.record.now (chunks_exact_rest c.next.new.self) c.in-Some.ensures.steps.1.0 in
    let some = eqb-false _ _ (sym c.is_blank.ensures ∙ c.if-not-is_blank.true) in
    sym (ne_eqb _ _ (λ z. some (omega (arith, z, more, c.loop-record.invariant.left))))

pub loop-record-preserved : goal.loop-record-preserved
loop-record-preserved c =
    let from = c.loop-record.invariant in
    let on = c.in-Some.ensures.steps in
    let rest = chunks_exact_rest c.next.new.self in
    let more = behind (chunks_exact_rest c.loop-record.record-iterator) c.in-Some.record.now rest on.1.0 in
    let none = eqb-true _ _ (sym c.is_blank.ensures ∙ c.if-not-is_blank.false) in
    record {
      by_records = on.0 ∙ from.by_records;
      whole = still_whole (chunks_exact_rest c.loop-record.record-iterator) c.in-Some.record.now rest on.1.0 (on.1.1 ∙ from.by_records) from.whole;
      left = omega (arith, more, none, from.left);
    }

-- Less than a record is left,
-- and so nothing is.
pub returns : goal.returns
returns c =
    let from = c.loop-record.invariant in
    let short = c.in-None.ensures.steps in
    sym (eq-eqb _ _ (from.left ∙ none_left _ from.whole (omega (arith, short.1.0, from.by_records))))
