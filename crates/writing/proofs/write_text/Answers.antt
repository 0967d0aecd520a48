-- `writing::write_text` meets its contract.
use Rattle.std.proofs.Common.{ℕ, ◌≡◌, ◌≤◌, length, length-take-le, take, sym, ap, subst, ◌∙◌, arith}
use Rattle.pool.specs.Operations.{list_at}
use Rattle.cells.specs.Views.{pool_of}
use Rattle.text.specs.Limits.{text_most}
use Rattle.text.specs.Writing.{judged}
use Rattle.writing.specs.Measures.{text_at, Fitting}
use Rattle.writing.specs.RecordEnd.{record_end}
use Rattle.writing.specs.Laws.WroteLaws.{fitting, before_rest, text-done}
use Rattle.writing.proofs.write_text.Goals.{In_ok-size}
use Rattle.writing.proofs.write_text.Goals as goal

-- what was measured has room
fits : (c : In_ok-size) →
    let a = c.args in
    let n = c.in_ok-size.size in
    Fitting (pool_of a.t).cells a.x n × (record_end n ≤ length a.out.now) × (record_end n ≤ text_most)
fits c = fitting _ _ _ _ _ c.in_ok-size.ensures c.usable.ensures

part_size : (c : In_ok-size) → length (take c.in_ok-size.size c.args.out.now) ≡ c.in_ok-size.size
part_size c = length-take-le c.in_ok-size.size c.args.out.now (omega (arith, (fits c).1))

pub slice_bounds-put-end : goal.slice_bounds-put-end
slice_bounds-put-end c = omega (arith, (fits (goal.at.slice_bounds-put-end c).In_ok-size).1)

pub slice_bounds-put-end-2 : goal.slice_bounds-put-end-2
slice_bounds-put-end-2 c = sym (part_size (goal.at.slice_bounds-put-end-2 c).In_ok-size)

pub put-requires : goal.put-requires
put-requires c =
    let f = fits (goal.at.put-requires c).In_ok-size in
    let e = sym (part_size (goal.at.put-requires c).In_ok-size) in
    record { stands = c.requires; fitting = subst (Fitting (pool_of c.args.t).cells c.args.x) e f.0 }

pub record_end-end-requires : goal.record_end-end-requires
record_end-end-requires c = (fits (goal.at.record_end-end-requires c).In_ok-size).0.short

pub fill-requires : goal.fill-requires
fill-requires c =
    let f = fits (goal.at.fill-requires c).In_ok-size in
    let e = c.record_end-end.ensures in
    let n = c.put.auto in
    (omega (arith, e), omega (arith, e, f.1, n))

pub overflow_cast-result : goal.overflow_cast-result
overflow_cast-result c = omega (arith, (fits (goal.at.overflow_cast-result c).In_ok-size).2)

pub returns : goal.returns
returns c =
    let a = c.args in
    let cs = (pool_of a.t).cells in
    let f = fits (goal.at.returns c).In_ok-size in
    let z = sym (ap (λ (k : ℕ). judged k 0 (text_at cs a.x)) c.usable.ensures) ∙ sym c.in_ok-size.ensures.answer in
    λ ws. text-done (list_at cs a.x) ws _ _ _ _ _ z f.0.size c.record_end-end.ensures (before_rest _ _ _ _ f.0.size c.put.ensures) c.fill.ensures
