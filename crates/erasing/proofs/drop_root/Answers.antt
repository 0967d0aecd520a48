-- `erasing::drop_root` meets its contract.
use Rattle.std.proofs.Common.{refl, ap, ◌∙◌}
use native.Mathlib.Nat.{le_trans}
use Rattle.loops.specs.Laws.LoopLaws.{begin, before, again, less, finish}
use Rattle.pool.specs.Erase.{Dropping, stepped}
use Rattle.pool.specs.Pool.{Pool}
use Rattle.pool.specs.Setters.{put_free, celled}
use Rattle.cells.specs.Lent.{Lent, on}
use Rattle.erasing.specs.Erasing.{halted}
use Rattle.erasing.specs.Laws.StepLaws.{halted_yes, halted_wait}
use Rattle.cells.specs.Laws.LentLaws.{kept_on}
use Rattle.erasing.specs.Laws.Ends.{root_ends, is_dropped}
use Rattle.erasing.proofs.drop_root.Goals as goal

pub loop-e-init : goal.loop-e-init
loop-e-init c = (record { same = refl }, begin halted stepped (root_ends _ _ _ c.requires))

pub returns-then-e-eq0 : goal.returns-then-e-eq0
returns-then-e-eq0 c =
    let i = c.loop-e.invariant in
    let f = c.follow-e.ensures in
    let v = c.args.p.now in
    let q = finish halted stepped _ (f.later.on _ _ _ i.1) (halted_yes _ f.end c.if-e-eq0.true) ∙ is_dropped v.pool _ in
    (ap (λ (w : Dropping). w.freed) q, (kept_on i.0 f.kept).same ∙ ap (λ (w : Dropping). on (λ (p : Pool). put_free w.free (celled w.cells p)) v) q)

pub pop_waiting-e-requires-clause-fine : goal.pop_waiting-e-requires-clause-fine
pop_waiting-e-requires-clause-fine c =
    let i = c.loop-e.invariant in
    let f = c.follow-e.ensures in
    rw (ap (λ (v : Lent). v.shape) (kept_on i.0 f.kept).same)
    (before halted stepped _ (f.later.on _ _ _ i.1) (halted_wait _ f.end c.if-e-eq0.false))

pub loop-e-smaller : goal.loop-e-smaller
loop-e-smaller c =
    let i = c.loop-e.invariant in
    let f = c.follow-e.ensures in
    le_trans (less halted stepped _ (f.later.on _ _ _ i.1) (halted_wait _ f.end c.if-e-eq0.false) c.pop_waiting-e.ensures.is)
    (f.later.fewer _ _ _ i.1)

pub loop-e-preserved : goal.loop-e-preserved
loop-e-preserved c =
    let i = c.loop-e.invariant in
    let f = c.follow-e.ensures in
    let d = c.pop_waiting-e.ensures in
    (kept_on (kept_on i.0 f.kept) d.kept, again halted stepped _ (f.later.on _ _ _ i.1) (halted_wait _ f.end c.if-e-eq0.false) d.is)
