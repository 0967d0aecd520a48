use Rattle.std.proofs.Common.{◌≡◌, false, ap, sym, ◌∙◌, ◌-◌, arith}
use Rattle.pool.specs.Check.{chained}
use Rattle.sound.specs.Laws.ChainLaws.{stop_far, stop_live, stop_long, go_on, at_end_lem}
use Rattle.cells.specs.Views.{pool_of}
use Rattle.sound.proofs.chain_holds.Goals.{then-x-t-via-then-x-t, then-x-t-via-else-x-t+then-count_of-ne0, then-x-t-via-else-x-t+else-count_of-ne0+then-left-eq0}
use Rattle.sound.proofs.chain_holds.Goals as goal

pub returns-then-x-t : goal.returns-then-x-t
returns-then-x-t c =
    let n = c.loop-x.left in
    let stops : chained n (pool_of c.args.t).cells c.loop-x.x ≡ false = elim c.then-x-t.branch [
      | then-x-t-via-then-x-t w ↦ stop_far n _ _ (omega (arith, w.if-x-t.true))
      | then-x-t-via-else-x-t+then-count_of-ne0 w ↦ stop_live n _ _ _ c.loop-x-test.true (omega (arith, w.if-x-t.false)) w.count_of.ensures.0 w.if-count_of-ne0.true
      | then-x-t-via-else-x-t+else-count_of-ne0+then-left-eq0 w ↦ stop_long n _ _ c.loop-x-test.true w.if-left-eq0.true
    ] in
    sym (sym c.loop-x.invariant ∙ stops)

pub loop-x-preserved : goal.loop-x-preserved
loop-x-preserved c =
    ap (chained (c.loop-x.left - 1) _) c.next_of-x.ensures.0
    ∙ go_on c.loop-x.left _ _ _ c.loop-x-test.true (omega arith) c.count_of.ensures.0 (omega arith)
    c.if-left-eq0.false ∙ c.loop-x.invariant

pub returns : goal.returns
returns c = at_end_lem c.loop-x.left _ _ (omega arith) ∙ c.loop-x.invariant
