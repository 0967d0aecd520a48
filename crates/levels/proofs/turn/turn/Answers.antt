use Rattle.std.specs.Prelude.{refl, List, ℕ}
use Rattle.std.proofs.Common.{eq-eqb, ne_eqb, ap, sym, ◌∙◌}
use Rattle.cells.specs.Lent.{on}
use Rattle.pool.specs.Pool.{Cell}
use Rattle.pool.specs.Setters.{celled}
use Rattle.loops.specs.Laws.LoopLaws.{again, less, finish}
use Rattle.levels.specs.Laws.Recelling.{recelled}
use Rattle.levels.specs.Turning.{Turning, over, moved}
use Rattle.levels.specs.Laws.TurningLaws.{is_flip}
use Rattle.levels.proofs.turn.turn.Goals as goal

pub loop-left-smaller : goal.loop-left-smaller
unfolding moved
loop-left-smaller c =
    rw (c.set_next.ensures, c.next_of-next.ensures.0) (less over moved _ c.loop-left.invariant.1 (ne_eqb _ 0 c.loop-left-test.true) refl)

pub loop-left-preserved : goal.loop-left-preserved
unfolding moved
loop-left-preserved c =
    let i = c.loop-left.invariant in
    rw (c.set_next.ensures, c.next_of-next.ensures.0)
    (recelled _ i.0, again over moved _ i.1 (ne_eqb _ 0 c.loop-left-test.true) refl)

pub returns : goal.returns
returns c =
    let i = c.loop-left.invariant in
    let q = ap (λ (w : Turning). (w.cells, w.turned)) (finish over moved _ i.1 (eq-eqb _ 0 c.loop-left-test.false)) ∙ sym (is_flip _ _ _ 0) in
    (ap (λ (w : List Cell × ℕ). w.1) q, i.0.same ∙ ap (λ (w : List Cell × ℕ). on (celled w.0) c.args.p.now) q)
