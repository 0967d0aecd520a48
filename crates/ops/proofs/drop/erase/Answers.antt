-- `ops::drop::erase` meets its contract.
use Rattle.std.proofs.Common.{refl, ℕ, ap, arith, Ok}
use Rattle.ops.specs.Laws.Freed.{freed_few}
use Rattle.ops.specs.Laws.GivesLaws.{does}
use Rattle.ops.specs.Laws.TestLaws.{needs_none}
use Rattle.ops.specs.Laws.WordLaws.{one}
use Rattle.pool.specs.Script.{effect}
use Rattle.ops.proofs.drop.erase.Goals as goal

pub overflow_cast-result : goal.overflow_cast-result
overflow_cast-result c =
    let z = c.requires.sized in
    omega (arith, c.erase-n.ensures.0, freed_few c.args.p.now.pool c.args.a c.requires.sound (omega (arith, z.held, c.requires.a_bound)), z.measured, z.few)

pub returns : goal.returns
unfolding effect
returns c b v =
    does (needs_none (one refl c.requires refl) refl refl refl refl) c.erase-n.ensures.1 (ap (λ (n : ℕ). Ok (2, n)) c.erase-n.ensures.0)
