-- `answering::engine::Engine::write` meets its contract.
use Rattle.std.proofs.Common.{arith}
use Rattle.answering.specs.Laws.WriteLaws.{reply-room, speaks_refused, speaks_text}
use Rattle.answering.proofs.engine.Engine.write.Goals as goal

pub slice_bounds-write_text-end : goal.slice_bounds-write_text-end
slice_bounds-write_text-end c = omega (arith, reply-room _ _ _ _ _ _ c.tell-count.ensures)

pub returns-in-Ok : goal.returns-in-Ok
returns-in-Ok c =
    speaks_text c.args.self.now c.args.h c.tell-count.result c.in-Ok.n _ _ _ c.in-Ok.ensures (rw c.plain.ensures at c.tell-count.ensures)

pub returns-in-Err : goal.returns-in-Err
returns-in-Err c =
    speaks_refused c.args.self.now c.args.h c.tell.result c.in-Err.answer _ c.in-Err.ensures (rw c.plain-in-Err.ensures at c.tell.ensures)
