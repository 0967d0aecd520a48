use Rattle.std.specs.Prelude.{◌≡◌, ◌≤◌, ◌<◌, ℕ, List, length, set}
use Rattle.std.proofs.Common.{sym, subst, ◌∙◌, arith, length-set}
use Rattle.cells.specs.Views.{pool_of}
use Rattle.pool.specs.Pool.{Cell}
use Rattle.walks.specs.declared.walk.Walk.{Walk}
use Rattle.writing.specs.Measures.{text_at, Fitting}
use Rattle.writing.specs.Put.{Roomy}
use Rattle.writing.specs.Putting.{Putting}
use Rattle.writing.specs.Laws.PutLaws.{put_until}
use Rattle.writing.specs.Laws.PuttingLaws.{some_text, put-begins, shallow, roomy, put_on, put_fills}
use Rattle.writing.specs.Laws.WalkingLaws.{may_turn}
use Rattle.writing.proofs.put.put.Goals.{After-put_step-w}
use Rattle.writing.proofs.put.put.Goals as goal

-- the room is that of the text, and stays so
fits : {cs : List Cell} {x n : ℕ} → Fitting cs x n → Fitting cs x (length (text_at cs x))
fits {cs} {x} f = subst (Fitting cs x) f.size f

room : {cs : List Cell} {x n : ℕ} (xs : List ℕ) {out after : List ℕ} {w : Walk} → Fitting cs x (length xs) → Putting cs (text_at cs x) (set xs 0 40) n out after w
    → length out ≡ length (text_at cs x)
room xs f g = g.room ∙ length-set xs 0 40 ∙ f.size

went : (c : After-put_step-w) →
    let a = c.args in
    let cs = (pool_of a.t).cells in
    let n = length (text_at cs a.x) in
    Putting cs (text_at cs a.x) (set a.out.now 0 40) n c.put_step-w.new.out c.put_step-w.new.after c.put_step-w.result
    × (c.put_step-w.result.size ≤ n) × (c.loop-w.w.size < c.put_step-w.result.size)
went c =
    let f = fits c.requires.fitting in
    let p = c.put_step-w.ensures in
    put_on _ _ _ _ _ _ _ c.loop-w.invariant (omega arith) f.fits f.size _ _ _ _ p.1 (put_until (room _ c.requires.fitting c.loop-w.invariant) p.2)

pub bounds-out-0 : goal.bounds-out-0
bounds-out-0 c = omega (arith, some_text _ _ _ c.requires.fitting)

pub loop-w-init : goal.loop-w-init
loop-w-init c =
    put-begins _ _ _ c.args.out.now _ c.requires.stands (fits c.requires.fitting) (omega (arith, c.requires.fitting.size)) c.started-w.ensures

pub put_step-w-requires-clause-may_turn : goal.put_step-w-requires-clause-may_turn
put_step-w-requires-clause-may_turn c =
    let f = fits c.requires.fitting in
    let g = c.loop-w.invariant in
    may_turn _ _ _ _ _ g.walks (omega arith) _ c.args.t.table.measured f.short (shallow _ _ _ _ _ _ c.loop-w.w g (omega arith) f.fits)

pub put_step-w-requires-clause-roomy : goal.put_step-w-requires-clause-roomy
put_step-w-requires-clause-roomy c =
    let f = fits c.requires.fitting in
    subst (Roomy (pool_of c.args.t).cells c.loop-w.after c.loop-w.w) (sym (room _ c.requires.fitting c.loop-w.invariant))
    (roomy _ _ _ _ c.loop-w.out c.loop-w.after c.loop-w.w c.loop-w.invariant (omega arith) f.fits f.size)

pub loop-w-smaller : goal.loop-w-smaller
loop-w-smaller c = let q = went (goal.at.loop-w-smaller c).After-put_step-w in omega arith

pub loop-w-preserved : goal.loop-w-preserved
loop-w-preserved c = (went (goal.at.loop-w-preserved c).After-put_step-w).0

pub returns : goal.returns
returns c =
    put_fills _ _ _ _ _ _ c.loop-w.invariant c.requires.fitting.size (omega arith)
