use Rattle.std.specs.Prelude.{◌<◌, ◌≢◌}
use Rattle.std.proofs.Common.{sym, ◌∙◌, arith}
use Rattle.answers.specs.declared.refusal.Refusal.TheVariants.{Deep, Output}
use Rattle.pool.specs.Pool.{kind_of}
use Rattle.cells.specs.Views.{pool_of}
use Rattle.text.specs.Limits.{levels}
use Rattle.writing.specs.Measures.{text_at}
use Rattle.writing.specs.Walking.{Turned}
use Rattle.walks.specs.Laws.DeepLaws.{full, roomy}
use Rattle.writing.specs.Laws.WalkingLaws.{begins, turned, goes_on_lem, overflows, too_deep_lem, at-cell, may_turn}
use Rattle.writing.specs.Laws.MeasureLaws.{no_room, refuses, sizes}
use Rattle.writing.proofs.walk.measure.Goals.{After-after-1, After-step-w}
use Rattle.writing.proofs.walk.measure.Goals as goal

-- what the test of a level too many leaves
room : (c : After-after-1) →
    let a = c.args in
    let w = c.loop-w.w in
    let cs = (pool_of a.t).cells in
    w.at ≢ 0 → kind_of cs w.at ≢ 0 → w.depth < levels
room c = roomy _ _ _ (sym c.too_deep.ensures ∙ c.if-too_deep.false)

went : (c : After-step-w) →
    let a = c.args in
    let w = c.loop-w.w in
    (w.at ≢ 0 → kind_of (pool_of a.t).cells w.at ≢ 0 → w.depth < levels) →
    let cs = (pool_of a.t).cells in
    Turned cs (text_at cs a.x) c.step-w.new.after c.loop-w.w c.step-w.result c.step-w.ensures.0
went c r =
    let p = c.loop-w in
    turned _ _ _ p.after p.w p.invariant (omega arith) _ c.step-w.result _ r c.step-w.ensures.1

pub returns-then-usable-eq0 : goal.returns-then-usable-eq0
returns-then-usable-eq0 c =
    let a = c.args in
    let cs = (pool_of a.t).cells in
    refuses cs a.x a.usable Output (no_room cs a.x a.usable c.if-usable-eq0.true)

pub loop-w-init : goal.loop-w-init
loop-w-init c = begins _ _ _ _ c.requires.stands (omega arith) c.started-w.ensures

pub too_deep-requires : goal.too_deep-requires
too_deep-requires c =
    let p = c.loop-w in
    at-cell _ _ _ p.after p.w p.invariant (omega arith) _ c.args.t.table.measured

pub returns-then-too_deep : goal.returns-then-too_deep
returns-then-too_deep c =
    let p = c.loop-w in
    let q = full _ _ _ (sym c.too_deep.ensures ∙ c.if-too_deep.true) in
    refuses _ _ _ Deep (too_deep_lem _ _ _ p.after p.w p.invariant (omega arith) q.1 q.2 q.0)

pub step-w-requires : goal.step-w-requires
step-w-requires c =
    let p = c.loop-w in
    may_turn _ _ _ p.after p.w p.invariant (omega arith) _ c.args.t.table.measured c.requires.usable_le_text_most (room c)

pub returns-then-w-usable : goal.returns-then-w-usable
returns-then-w-usable c =
    let p = c.loop-w in
    refuses _ _ _ Output (overflows _ _ _ p.after p.w p.invariant (omega arith) _ _ _ (went (goal.at.returns-then-w-usable c).After-step-w (room (goal.at.returns-then-w-usable c).After-after-1)) c.if-w-usable.true)

pub loop-w-smaller : goal.loop-w-smaller
loop-w-smaller c = let q = went (goal.at.loop-w-smaller c).After-step-w (room (goal.at.loop-w-smaller c).After-after-1) in omega (arith, q.size, q.more)

pub loop-w-preserved : goal.loop-w-preserved
loop-w-preserved c =
    let p = c.loop-w in
    goes_on_lem _ _ _ p.after p.w p.invariant (omega arith) _ _ _ (went (goal.at.loop-w-preserved c).After-step-w (room (goal.at.loop-w-preserved c).After-after-1)) c.if-w-usable.false

pub returns : goal.returns
returns c =
    let p = c.loop-w in
    sizes _ _ _ p.after p.w p.invariant (omega arith)
