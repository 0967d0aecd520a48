-- `answering::engine::Engine::write_text` meets its contract.
use Rattle.std.proofs.Common.{sym}
use Rattle.answering.proofs.engine.Engine.write_text.Goals as goal

pub returns : goal.returns
returns c = rw (sym c.self.view_is) c.write_text.ensures
