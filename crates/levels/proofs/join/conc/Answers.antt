use Rattle.std.specs.Prelude.{◌≢◌, ◌≤◌}
use Rattle.std.proofs.Common.{ap, sym, ◌∙◌, arith}
use Rattle.cells.specs.Lent.{on}
use Rattle.cells.specs.Laws.LentLaws.{holder_high}
use Rattle.pool.specs.Pool.{Pool, holder}
use Rattle.levels.specs.Laws.JoiningLaws.{join_none, join_null, join_last, last-cell}
use Rattle.levels.proofs.join.conc.Goals.{Else-y-eq0, then-holder_of-eq0, else-holder_of-eq0}
use Rattle.levels.proofs.join.conc.Goals as goal

-- the list to be joined is not null, and in range
some : (c : Else-y-eq0) → holder c.args.p.now.pool c.args.b ≢ 0
some c = λ e. c.if-y-eq0.false (c.holder_of-y.ensures.0 ∙ e)

high : (c : Else-y-eq0) → c.holder_of-y.result ≤ c.args.p.now.shape.cells
high c = rw c.holder_of-y.ensures.0 (holder_high _ c.requires.asked.sized c.requires.asked.sound _)

pub returns-then-y-eq0 : goal.returns-then-y-eq0
returns-then-y-eq0 c =
    ap (λ (q : Pool). on (λ _. q) c.args.p.now) (join_none _ _ _ (sym c.holder_of-y.ensures.0 ∙ c.if-y-eq0.true))

pub set_holder-requires-clause-v_le_cells : goal.set_holder-requires-clause-v_le_cells
set_holder-requires-clause-v_le_cells c = high (goal.at.set_holder-requires-clause-v_le_cells c).Else-y-eq0

pub set_next-requires : goal.set_next-requires
set_next-requires c =
    let o = (goal.at.set_next-requires c).Else-y-eq0 in
    let n : holder c.args.p.now.pool c.args.a ≢ 0 = λ e. c.if-holder_of-eq0.false (c.holder_of.ensures.0 ∙ e) in
    let e = (c.requires.joins (some o)).1 n in
    let i = last-cell _ _ c.requires.asked.sound n in
    record {
      cell = record { low = omega (arith, e, i.0); high = omega (arith, e, i.1, c.requires.asked.sized.measured) };
      v_le_cells = high o;
    }

pub returns : goal.returns
returns c =
    let v = c.args.p.now in
    let nb = some (goal.at.returns c).Else-y-eq0 in
    elim c.if-holder_of-eq0.branch [
      | then-holder_of-eq0 w ↦
          rw (c.set_holder-2.ensures, w.p-is, w.set_holder.ensures, c.holder_of-y.ensures.0)
          (ap (λ (q : Pool). on (λ _. q) v) (join_null _ _ _ (sym c.holder_of.ensures.0 ∙ w.if-holder_of-eq0.true) nb))
      | else-holder_of-eq0 w ↦
          let na : holder v.pool c.args.a ≢ 0 = λ e. w.if-holder_of-eq0.false (c.holder_of.ensures.0 ∙ e) in
          rw (c.set_holder-2.ensures, w.p-is, w.set_next.ensures, (c.requires.joins nb).1 na, c.holder_of-y.ensures.0)
          (ap (λ (q : Pool). on (λ _. q) v) (join_last _ _ _ na nb))
    ]
