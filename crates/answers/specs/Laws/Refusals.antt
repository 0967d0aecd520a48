-- A refusal has a number of its own, and no refusal has that of an answer that is done.
use Rattle.std.specs.Prelude.{◌≡◌, ◌≢◌, ℕ}
use Rattle.std.proofs.Common.{arith}
use Rattle.answers.specs.Answers.{DONE, unless}
use Rattle.answers.specs.Laws.Unless.{refuses}
use Rattle.answers.specs.Refusals.{refusal_no}
use Rattle.answers.specs.declared.refusal.Refusal.{Refusal}
use Rattle.answers.specs.declared.refusal.Refusal.TheVariants as refusal

pub refusal_some : (r : Refusal) → refusal_no r ≢ DONE
refusal_some refusal.TableSize e = omega (arith, e)
refusal_some refusal.WorkSpace e = omega (arith, e)
refusal_some refusal.Script e = omega (arith, e)
refusal_some refusal.Results e = omega (arith, e)
refusal_some refusal.Unsound e = omega (arith, e)
refusal_some refusal.Code e = omega (arith, e)
refusal_some refusal.Holder e = omega (arith, e)
refusal_some refusal.Same e = omega (arith, e)
refusal_some refusal.Null e = omega (arith, e)
refusal_some refusal.Occupied e = omega (arith, e)
refusal_some refusal.Shared e = omega (arith, e)
refusal_some refusal.NoRoom e = omega (arith, e)
refusal_some refusal.TextSize e = omega (arith, e)
refusal_some refusal.End e = omega (arith, e)
refusal_some refusal.NotAList e = omega (arith, e)
refusal_some refusal.Atom e = omega (arith, e)
refusal_some refusal.Deep e = omega (arith, e)
refusal_some refusal.Output e = omega (arith, e)
refusal_some refusal.Groups e = omega (arith, e)

-- a call whose test refuses is refused with its number
pub unless_refused : {X : Type 0} (n : ℕ) (refuse : ℕ → X) (go : X) (r : Refusal) → refusal_no r ≡ n → unless n refuse go ≡ refuse n
unless_refused n refuse go r e = refuses n refuse go (λ z. refusal_some r (search (e, z)))
