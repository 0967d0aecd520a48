-- `ops::level::conc` meets its contract.
use Rattle.std.proofs.Common.{refl, ap, sym, eqb-true}
use Rattle.levels.specs.Laws.JoiningLaws.{join_none}
use Rattle.ops.specs.Laws.GivesLaws.{refuses, does}
use Rattle.ops.specs.Laws.TestLaws.{says-shared, needs_none}
use Rattle.ops.specs.Laws.WordLaws.{two}
use Rattle.cells.specs.Lent.{on}
use Rattle.pool.specs.Pool.{Pool}
use Rattle.pool.specs.Script.{effect}
use Rattle.ops.proofs.level.conc.Goals as goal

pub returns-then-is_null : goal.returns-then-is_null
unfolding effect
returns-then-is_null c v =
    let e = sym (rw c.seen.ensures.pool at c.if-is_null.ensures) in
    does (needs_none (two refl c.requires refl) refl refl (rw e refl) refl) (ap (λ (q : Pool). on (λ _. q) c.args.p.now) (join_none _ c.args.a _ (eqb-true _ 0 e))) refl

pub returns-in_default : goal.returns-in_default
returns-in_default c v =
    refuses (says-shared (two refl c.requires refl) refl refl (rw (sym (rw c.seen.ensures.pool at c.if-is_null.ensures)) (sym (rw c.seen-2.ensures.pool at c.in_default.ensures.0))))

pub returns : goal.returns
unfolding effect
returns c v =
    does (needs_none (two refl c.requires refl) refl refl (rw (sym (rw c.seen.ensures.pool at c.if-is_null.ensures)) (sym (rw c.seen-2.ensures.pool at c.in-Some.ensures.0))) refl) c.conc.ensures refl
