-- How an operation comes to its reply: refused with nothing changed, or done with what its effect tells.
use Rattle.std.specs.Prelude.{◌≡◌, refl, ℕ, Result, Ok, Err, IsErrAnd}
use Rattle.std.proofs.Common.{ne_eqb}
use Rattle.std.proofs.lemmas.Result.{err_from_is_err_and}
use Rattle.answers.specs.Answers.{DONE}
use Rattle.answers.specs.Laws.Refusals.{refusal_some}
use Rattle.answers.specs.Refusals.{refusal_no}
use Rattle.answers.specs.declared.refusal.Refusal.{Refusal}
use Rattle.answers.specs.declared.told.Told.{Told}
use Rattle.heads.specs.FirstTold.{FirstTold}
use Rattle.ops.specs.Replies.{said, reply, numbers, Gives}
use Rattle.pool.specs.Pool.{Pool}
use Rattle.pool.specs.Script.{Operation, refusal, effect, tells_first, pool_after}
use Rattle.cells.specs.Lent.{Lent, on}

-- refused: nothing is changed
pub refuses : {v : Lent} {o : Operation} {k : Refusal} → refusal v.pool o ≡ refusal_no k → Gives v v (Err k) o
unfolding reply pool_after
refuses {k = k} e =
    let n = ne_eqb (refusal_no k) DONE (refusal_some k) in
    record { is = rw (e, n) refl; told = rw (e, n) refl }

-- at the exit of a test that refuses
pub refuses_with : {v : Lent} {r : Result Told Refusal} {o : Operation} (k : Refusal) → IsErrAnd r (λ e. e ≡ k) → refusal v.pool o ≡ refusal_no k
    → Gives v v r o
refuses_with {r = r} k h e =
    let p = err_from_is_err_and r h in
    rw (p.1, p.2) (refuses e)

pub does : {v u : Lent} {x : Told} {o : Operation} → refusal v.pool o ≡ DONE → u ≡ on (λ p. (effect p o).pool) v
    → numbers (Ok x) ≡ said (effect v.pool o) → Gives v u (Ok x) o
unfolding reply pool_after
does e h q = record { is = rw e h; told = rw e q }

-- the first element as result words
pub first_said : {x : Told} {p : Pool} {a : ℕ} → FirstTold p a x → numbers (Ok x) ≡ said (tells_first p a p)
first_said h = λ i. Ok (h.kind i, h.value i)
