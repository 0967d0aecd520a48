-- `Pool::share` meets its contract.
use Rattle.std.specs.Prelude.{List, ℕ, ◌+◌}
use Rattle.std.proofs.Common.{ap, sym, ◌∙◌}
use Rattle.pool.specs.Pool.{Cell}
use Rattle.pool.specs.Setters.{celled, put_count}
use Rattle.cells.specs.Lent.{on}
use Rattle.cells.specs.Laws.StepLaws.{share-null, share-on}
use Rattle.cells.proofs.lent.Pool.share.Goals as goal

pub returns-then-x-ne0 : goal.returns-then-x-ne0
returns-then-x-ne0 c =
    let a = c.args in
    c.set_count.ensures
    ∙ ap (λ (n : ℕ). on (put_count a.x (n + 1)) a.self.now) c.count_of-n.ensures.0
    ∙ ap (λ (cs : List Cell). on (celled cs) a.self.now) (sym (share-on _ _ c.if-x-ne0.true))

pub returns-else-x-ne0 : goal.returns-else-x-ne0
returns-else-x-ne0 c = ap (λ (cs : List Cell). on (celled cs) c.args.self.now) (sym (share-null _ _ c.if-x-ne0.false))
