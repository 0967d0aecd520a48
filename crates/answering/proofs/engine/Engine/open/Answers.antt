-- `answering::engine::Engine::open` meets its contract.
use Rattle.std.proofs.Common.{◌≡◌, sym, ap, ◌∙◌, arith, Bool, true, take, length, length-take-le}
use Rattle.table.specs.declared.Shape.{Shape}
use Rattle.table.specs.Sizes.{sizes_fit}
use Rattle.table.specs.View.{four, word_count}
use Rattle.table.specs.Laws.SizesLaws.{fits_told}
use Rattle.answering.specs.Laws.SessionLaws.{opens, keeps_old}
use Rattle.answering.proofs.engine.Engine.open.Goals.{After-words-words, After-fits}
use Rattle.answering.proofs.engine.Engine.open.Goals as goal

-- the words of n cells
counted : (c : After-words-words) → c.words-words.result ≡ word_count (four c.args.n)
counted c = c.words-words.ensures ∙ ap word_count c.four-s.ensures

tested : (c : After-fits) (b : Bool) → c.fits.result ≡ b → sizes_fit (four c.args.n) c.words-words.result ≡ b
tested c b e = sym (ap (λ (s : Shape). sizes_fit s c.words-words.result) c.four-s.ensures) ∙ sym c.fits.ensures ∙ e

pub returns-then-not-fits : goal.returns-then-not-fits
returns-then-not-fits c =
    let at = goal.at.returns-then-not-fits c in
    rw (c.plain.ensures, c.from.ensures)
    (keeps_old c.args.self.now c.args.n _ (counted at.After-words-words) (tested at.After-fits _ c.if-not-fits.true))

pub returns : goal.returns
returns c =
    let at = goal.at.returns c in
    let w = c.words-words.result in
    let n = counted at.After-words-words in
    let e = tested at.After-fits true c.if-not-fits.false in
    let k : length (take w c.self.inside.table) ≡ w =
    length-take-le w c.self.inside.table (omega (arith, (fits_told (four c.args.n) w e).few, n, c.self.told)) in
    rw c.plain-2.ensures
    (opens c.args.self.now (take w c.self.inside.table) c.set_up-answer.new.t _ c.args.n w n e k
    (c.set_up-answer.auto.t ∙ k) c.set_up-answer.ensures)
