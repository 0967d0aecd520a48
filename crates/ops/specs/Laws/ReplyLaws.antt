-- What a reply tells of its operation: done or refused, and what it leaves.
use Rattle.std.specs.Prelude.{◌≡◌, refl, Bool, true, false, cond, ℕ, ◌<◌, eqb, Ok, Err}
use Rattle.std.proofs.Common.{arith, eqb-true}
use Rattle.answers.specs.Answers.{DONE}
use Rattle.answers.specs.Laws.Refusals.{refusal_some}
use Rattle.answers.specs.Operations.{kind_told, value_told}
use Rattle.answers.specs.Refusals.{refusal_no}
use Rattle.answers.specs.declared.refusal.Refusal.{Refusal}
use Rattle.answers.specs.declared.told.Told.{Told}
use Rattle.ops.specs.Replies.{said, reply, numbers}
use Rattle.pool.specs.Pool.{Pool}
use Rattle.pool.specs.Script.{Operation, refusal, effect}

pub record Did (p : Pool) (o : Operation) (x : Told) : Type 0 where
  pub done : refusal p o ≡ DONE
  pub kind : kind_told x ≡ (effect p o).kind
  pub value : value_told x ≡ (effect p o).value

pub did : (p : Pool) (o : Operation) (x : Told) → numbers (Ok x) ≡ reply p o → Did p o x
unfolding reply
did p o x e = go (eqb (refusal p o) DONE) refl e
  where
    go : (b : Bool) → eqb (refusal p o) DONE ≡ b → numbers (Ok x) ≡ cond b (said (effect p o)) (Err (refusal p o)) → Did p o x
    go true q h =
        let z : ◌≡◌ {A = ℕ × ℕ} (kind_told x, value_told x) ((effect p o).kind, (effect p o).value) = cc in
        record { done = eqb-true (refusal p o) DONE q; kind = λ i. (z i).0; value = λ i. (z i).1 }
    go false q h = cc

pub stopped : (p : Pool) (o : Operation) (k : Refusal) → numbers (Err k) ≡ reply p o → (refusal p o ≡ refusal_no k) × (DONE < refusal_no k)
unfolding reply
stopped p o k e = (go (eqb (refusal p o) DONE) refl e, omega (arith, refusal_some k))
  where
    go : (b : Bool) → eqb (refusal p o) DONE ≡ b → numbers (Err k) ≡ cond b (said (effect p o)) (Err (refusal p o)) → refusal p o ≡ refusal_no k
    go true q h = cc
    go false q h = cc
