use Rattle.std.specs.Prelude.{◌<◌, ◌≢◌}
use Rattle.std.proofs.Common.{sym, ◌∙◌, arith}
use Rattle.answers.specs.declared.refusal.Refusal.TheVariants.{Deep, Output}
use Rattle.grouping.specs.Walking.{Turned}
use Rattle.grouping.specs.Laws.MeasureLaws.{refuses, begins_count, some_turns, sizes}
use Rattle.grouping.specs.Laws.TurnLaws.{turned}
use Rattle.grouping.specs.Laws.WalkingLaws.{no_room, begins, goes_on_lem, overflows, less, too_deep_lem, at-cell, may_turn}
use Rattle.pool.specs.Operations.{list_at}
use Rattle.pool.specs.Pool.{kind_of}
use Rattle.cells.specs.Views.{pool_of}
use Rattle.text.specs.Limits.{levels}
use Rattle.walks.specs.Laws.DeepLaws.{full, roomy}
use Rattle.walks.specs.Laws.LevelLaws.{ahead, left_of, span_of}
use Rattle.grouping.proofs.walk.measure.Goals.{After-after-1, After-step-w}
use Rattle.grouping.proofs.walk.measure.Goals as goal

-- what the test of a level too many leaves
room : (c : After-after-1) →
    let a = c.args in
    let w = c.loop-w.w in
    w.at ≢ 0 → kind_of (pool_of a.t).cells w.at ≢ 0 → w.depth < levels
room c =
    roomy _ _ _ (sym c.too_deep.ensures ∙ c.if-too_deep.false)

went : (c : After-step-w) →
    let a = c.args in
    let w = c.loop-w.w in
    (w.at ≢ 0 → kind_of (pool_of a.t).cells w.at ≢ 0 → w.depth < levels) →
    Turned (pool_of a.t).cells c.loop-w.invariant.opened c.step-w.new.after c.loop-w.w c.step-w.result c.step-w.ensures.0
went c r =
    let p = c.loop-w in
    turned _ p.after p.w p.invariant.opened p.invariant.walks.stands (omega arith) _ c.step-w.result _ r c.step-w.ensures.1

pub of_list-first-requires : goal.of_list-first-requires
of_list-first-requires c =
    left_of _ _ _ (ahead _ _ c.requires.stands)

pub returns-then-first-usable : goal.returns-then-first-usable
returns-then-first-usable c =
    let a = c.args in
    let cs = (pool_of a.t).cells in
    refuses cs a.x a.usable Output (no_room cs a.x c.requires.stands c.of_list-first.result a.usable c.of_list-first.ensures c.if-first-usable.true)

pub loop-w-init : goal.loop-w-init
loop-w-init c =
    let a = c.args in
    begins_count _ _ _ _ _
    (begins (pool_of a.t).cells a.x c.requires.stands c.of_list-first.result a.usable _ c.of_list-first.ensures c.if-first-usable.false
    c.started-w.ensures)

pub too_deep-requires : goal.too_deep-requires
too_deep-requires c =
    let p = c.loop-w in
    at-cell _ _ _ p.after p.w p.invariant.opened p.invariant.walks (omega arith) _ c.args.t.table.measured

pub returns-then-too_deep : goal.returns-then-too_deep
returns-then-too_deep c =
    let p = c.loop-w in
    let q = full _ _ _ (sym c.too_deep.ensures ∙ c.if-too_deep.true) in
    refuses _ _ _ Deep (too_deep_lem _ _ _ p.after p.w p.invariant.opened p.invariant.walks (omega arith) q.1 q.2 q.0)

pub overflow_add-turns : goal.overflow_add-turns
overflow_add-turns c =
    let a = c.args in
    let cs = (pool_of a.t).cells in
    omega (arith, c.loop-w.invariant.count, c.bottom-turns.ensures.1, (span_of cs a.x (list_at cs a.x) (ahead cs a.x c.requires.stands)).1, c.args.t.table.few)

pub step-w-requires : goal.step-w-requires
step-w-requires c =
    let p = c.loop-w in
    may_turn _ _ _ p.after p.w p.invariant.opened p.invariant.walks (omega arith) _ c.args.t.table.measured c.requires.usable_le_text_most (room c)

pub returns-then-w-usable : goal.returns-then-w-usable
returns-then-w-usable c =
    let p = c.loop-w in
    refuses _ _ _ Output (overflows _ _ _ p.after p.w p.invariant.opened p.invariant.walks (omega arith) _ _ _ (went (goal.at.returns-then-w-usable c).After-step-w (room (goal.at.returns-then-w-usable c).After-after-1)) c.if-w-usable.true)

pub loop-w-smaller : goal.loop-w-smaller
loop-w-smaller c =
    let p = c.loop-w in
    less _ _ _ p.after p.w p.invariant.opened p.invariant.walks (omega arith) _ _ _ (went (goal.at.loop-w-smaller c).After-step-w (room (goal.at.loop-w-smaller c).After-after-1)) c.args.usable c.if-w-usable.false

pub loop-w-preserved : goal.loop-w-preserved
loop-w-preserved c =
    let p = c.loop-w in
    let d = went (goal.at.loop-w-preserved c).After-step-w (room (goal.at.loop-w-preserved c).After-after-1) in
    record {
      opened = d.left;
      walks = goes_on_lem _ _ _ p.after p.w p.invariant.opened p.invariant.walks (omega arith) _ _ _ d c.if-w-usable.false;
      count = omega (arith, p.invariant.count, d.below, c.bottom-turns.ensures.0);
    }

pub overflow_sub-result : goal.overflow_sub-result
overflow_sub-result c =
    let p = c.loop-w in
    omega (arith, some_turns _ _ _ p.after p.w p.turns p.invariant (omega arith))

pub returns : goal.returns
returns c =
    let p = c.loop-w in
    sizes _ _ _ p.after p.w p.turns p.invariant (omega arith)
