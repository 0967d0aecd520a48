use Rattle.std.specs.Prelude.{List, ℕ, ◌≡◌, ◌+◌}
use Rattle.std.proofs.Common.{ap, ◌∙◌, arith}
use Rattle.pool.specs.Pool.{Cell}
use Rattle.pool.specs.Setters.{celled, put_next}
use Rattle.table.specs.View.{view}
use Rattle.table.specs.Laws.ViewLaws.{said, after}
use Rattle.setup.specs.Laws.Linked.{linked, linked-step, linked-all}
use Rattle.setup.proofs.link.Goals as goal

pub loop-c-preserved : goal.loop-c-preserved
loop-c-preserved c =
    let a = c.args in
    let i = c.loop-c.c in
    said (after (put_next i (i + 1)) c.loop-c.invariant c.set_next.ensures)
    (ap (λ (cs : List Cell). celled cs (view a.s a.t.now)) (linked-step i _ (omega arith) (omega arith)))

pub returns : goal.returns
returns c =
    let a = c.args in
    let n : c.loop-c.c ≡ a.s.cells = omega arith in
    said c.loop-c.invariant (ap (λ (cs : List Cell). celled cs (view a.s a.t.now)) (ap (λ (k : ℕ). linked k a.s.cells) n ∙ linked-all _))
