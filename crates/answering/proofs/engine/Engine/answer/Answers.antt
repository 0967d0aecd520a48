-- `answering::engine::Engine::answer` meets its contract.
use Rattle.std.proofs.Common.{arith, ap, sym, ◌∙◌, refl, Some}
use Rattle.lines.specs.declared.order.Order.{Order}
use Rattle.lines.specs.Meaning.{meant}
use Rattle.lines.specs.Laws.CommandLaws.{text_short}
use Rattle.answering.specs.Session.{does}
use Rattle.answering.specs.Laws.SessionLaws.{speaks_order, speaks_asked}
use Rattle.answering.proofs.engine.Engine.answer.Goals.{in-New, in-Operation, in-Reading}
use Rattle.answering.proofs.engine.Engine.answer.Goals as goal

pub returns-in_default-parse : goal.returns-in_default-parse
returns-in_default-parse c =
    rw c.in-Some.is
    (speaks_asked c.args.self.now c.in-Some.line.now _ _ _ c.in_default-parse.ensures c.put_question-in_default-parse.ensures (omega (arith, c.requires.room)))

pub read-said-requires : goal.read-said-requires
read-said-requires c =
    let e = ap (λ (o : Order). meant (Some o)) (sym c.in-Reading.is) ∙ c.in-Some-parse.ensures in
    (omega (arith, text_short c.in-Some.line.now c.in-Reading.text.now c.in-Reading.h e, rw c.in-Some.is at c.requires.short), omega (arith, c.requires.room))

pub returns : goal.returns
unfolding does
returns c =
    let us = c.args.self.now in
    let s = c.in-Some.line.now in
    let m = c.match-order in
    rw c.in-Some.is
    (elim m.branch [
      | in-New w ↦
          speaks_order us m.self s _ _ m.said _ _ (ap (λ (o : Order). meant (Some o)) (sym w.in-New.is) ∙ c.in-Some-parse.ensures) refl
          (rw (w.said-is, w.self-is) w.open-said.ensures) c.tell.ensures
      | in-Operation w ↦
          speaks_order us m.self s _ _ m.said _ _ (ap (λ (o : Order). meant (Some o)) (sym w.in-Operation.is) ∙ c.in-Some-parse.ensures) refl
          (rw (w.said-is, w.self-is) (rw w.from.ensures at w.operate-said.ensures)) c.tell.ensures
      | in-Reading w ↦
          speaks_order us m.self s _ _ m.said _ _ (ap (λ (o : Order). meant (Some o)) (sym w.in-Reading.is) ∙ c.in-Some-parse.ensures) refl
          (rw (w.said-is, w.self-is) w.read-said.ensures) c.tell.ensures
    ])
