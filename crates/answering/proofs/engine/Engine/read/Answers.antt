-- `answering::engine::Engine::read` meets its contract.
use Rattle.std.proofs.Common.{sym, ◌∙◌, arith, length-take-le}
use Rattle.answering.specs.Laws.SessionLaws.{in_use}
use Rattle.answering.proofs.engine.Engine.read.Goals as goal

pub returns : goal.returns
returns c =
    let e = c.self.inside in
    rw (sym c.self.view_is)
    (in_use _ _ _ _ e.used c.read_text.ensures
    (c.read_text.auto.table ∙ length-take-le e.used e.table (omega (arith, c.self.invariant, c.self.told))))
