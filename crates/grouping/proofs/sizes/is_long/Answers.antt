use Rattle.std.proofs.Common.{◌≡◌, not, eqb, ltb, ap, sym, ◌∙◌, arith, lt-ltb, le-ltb, eqb-true}
use Rattle.std.proofs.lemmas.Bool.{eqb-false}
use Rattle.grouping.specs.Steps.{elements_at}
use Rattle.pool.specs.Laws.Level.{Onward, onward, none_left}
use Rattle.cells.specs.Views.{pool_of}
use Rattle.text.specs.Laws.TextLaws.{decide}
use Rattle.grouping.proofs.sizes.is_long.Goals.{Else-c-eq0}
use Rattle.grouping.proofs.sizes.is_long.Goals as goal

-- what a turn knows
here : (c : Else-c-eq0) → Onward (pool_of c.args.t).cells c.loop.c
here c = onward _ _ c.if-c-eq0.false c.loop.invariant.0

pub returns-then-c-eq0 : goal.returns-then-c-eq0
returns-then-c-eq0 c =
    let cs = (pool_of c.args.t).cells in
    sym (le-ltb 63 (elements_at cs c.args.x) (omega (arith, (none_left cs c.loop.c c.if-c-eq0.true).0)))

pub next_of-c-requires : goal.next_of-c-requires
next_of-c-requires c = let turn = here c in record { low = turn.inside.0; high = omega (arith, turn.inside.1) }

pub loop-preserved : goal.loop-preserved
loop-preserved c =
    let turn = here (goal.at.loop-preserved c).Else-c-eq0 in
    rw c.next_of-c.ensures.0 (turn.rest, omega (arith, turn.longer), omega arith)

pub returns : goal.returns
returns c =
    let cs = (pool_of c.args.t).cells in
    let n = elements_at cs c.args.x in
    decide (eqb c.loop.c 0) (not (eqb c.loop.c 0) ≡ ltb 63 n)
    (λ e. ap not e ∙ sym (le-ltb 63 n (omega (arith, (none_left cs c.loop.c (eqb-true c.loop.c 0 e)).0))))
    (λ e. ap not e ∙ sym (lt-ltb 63 n (omega (arith, (onward cs c.loop.c (eqb-false c.loop.c 0 e) c.loop.invariant.0).longer))))
