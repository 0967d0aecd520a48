-- `answering::engine::Engine::tell` meets its contract.
use Rattle.std.proofs.Common.{ℕ, ap, ◌∙◌, subst, arith}
use Rattle.lines.specs.Printed.{reply}
use Rattle.answering.specs.Kept.{Prints}
use Rattle.answering.specs.Session.{free_cells}
use Rattle.answering.specs.Laws.SessionLaws.{printed, reply_short}
use Rattle.answering.proofs.engine.Engine.tell.Goals as goal

pub returns : goal.returns
returns c =
    let s = c.args.said in
    let f = c.free_cells-free.ensures ∙ ap free_cells c.self.view_is in
    subst (λ (n : ℕ). Prints (reply s.answer s.kind s.value n) c.put_reply.result c.put_reply.new.out) f
    (printed (reply s.answer s.kind s.value c.free_cells-free.result) c.put_reply.ensures
    (omega (arith, reply_short s.answer s.kind s.value c.free_cells-free.result)))
