use Rattle.std.specs.Prelude.{◌≡◌, refl, length}
use Rattle.std.proofs.Common.{eq-eqb, ne_eqb, ap, sym, ◌∙◌, arith}
use Rattle.cells.specs.Lent.{on}
use Rattle.loops.specs.Laws.LoopLaws.{again, less, finish}
use Rattle.pool.specs.Operations.{item, Made}
use Rattle.pool.specs.Setters.{put_free}
use Rattle.levels.specs.Copying.{copying, over, moved, told, made, placed}
use Rattle.levels.specs.Laws.CopyingLaws.{share-next, is_copy}
use Rattle.levels.specs.Laws.Recelling.{recelled}
use Rattle.levels.proofs.copy.copy.Goals.{After-loop-left, After-twin}
use Rattle.levels.proofs.copy.copy.Goals as goal

-- what a turn has made
went : (c : After-twin) →
    let l = c.loop-left in
    copying c.twin.new.p.pool.cells c.next_of-rest.result c.next_of-next.result l.free
    ≡ moved (copying l.p.pool.cells l.free l.left l.head)
unfolding moved
went c =
    let cs = c.loop-left.p.pool.cells in
    let x = item cs c.loop-left.left in
    rw (c.twin.ensures, c.next_of-next.ensures.0, c.next_of-rest.ensures.0, share-next cs x c.loop-left.free) refl

-- what the loop has made
done : (c : After-loop-left) →
    let l = c.loop-left in
    told (copying l.p.pool.cells l.free l.left l.head) ≡ made c.args.p.now.pool c.args.x
done c = ap told (finish over moved _ c.loop-left.invariant.1 (eq-eqb _ 0 c.loop-left-test.false)) ∙ sym (is_copy _ _ _ _ 0)

pub loop-left-smaller : goal.loop-left-smaller
loop-left-smaller c = less over moved _ c.loop-left.invariant.1 (ne_eqb _ 0 c.loop-left-test.true) (went c)

pub loop-left-preserved : goal.loop-left-preserved
loop-left-preserved c =
    let i = c.loop-left.invariant in
    (rw c.twin.ensures (recelled _ i.0), again over moved _ i.1 (ne_eqb _ 0 c.loop-left-test.true) (went c))

pub set_free-requires : goal.set_free-requires
set_free-requires c =
    let d = done (goal.at.set_free-requires c).After-loop-left in
    omega (arith, ap (λ (z : Made). z.free) d, ap (λ (z : Made). length z.cells) d, c.requires.top, c.sizes-2.ensures.measured)

pub returns : goal.returns
returns c =
    let d = done (goal.at.returns c).After-loop-left in (
      ap (λ (z : Made). z.head) d,
      c.set_free.ensures ∙ ap (on (put_free c.loop-left.free)) c.loop-left.invariant.0.same ∙ ap (λ (z : Made). on (placed z) c.args.p.now) d,
    )
