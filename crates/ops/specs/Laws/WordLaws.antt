-- The tests 6 to 8, one after another, and what they leave: the words are in order.
use Rattle.std.specs.Prelude.{◌≡◌, ◌≢◌, refl, Bool, true, false, cond, ℕ, length}
use Rattle.std.proofs.Common.{sym, ◌∙◌, arith, ne_eqb}
use Rattle.std.proofs.lemmas.Bool.{lt-leb}
use Rattle.answers.specs.Answers.{DONE, CODE, HOLDER, SAME}
use Rattle.answers.specs.Laws.Refusals.{refusal_some}
use Rattle.answers.specs.Refusals.{refusal_no}
use Rattle.answers.specs.declared.refusal.Refusal.{Refusal}
use Rattle.cells.specs.Asked.{OnOne, OnTwo}
use Rattle.cells.specs.Lent.{Lent, Sized}
use Rattle.ops.specs.Tests.{early}
use Rattle.pool.specs.Pool.{Pool, Sound}
use Rattle.pool.specs.Script.{Operation, uses_b, bad_code, bad_holder, same_holder, refusal}
use Rattle.pool.specs.Laws.ScriptLaws.{Opened, not_refused, a_holder, b-holder}
use Rattle.table.specs.View.{holder_count}

module _ (p : Pool) (o : Operation) where
  -- the words are refused, or they are in order
  pub early-refused : early (length p.holders) o ≢ DONE → refusal p o ≡ early (length p.holders) o
  unfolding early refusal
  early-refused n = go (bad_code o) (bad_holder p o) (same_holder o) _ n
    where
      go : (x y z : Bool) (m : ℕ) → cond x CODE (cond y HOLDER (cond z SAME DONE)) ≢ DONE
          → cond x CODE (cond y HOLDER (cond z SAME m)) ≡ cond x CODE (cond y HOLDER (cond z SAME DONE))
      go true y z m h = refl
      go false true z m h = refl
      go false false true m h = refl
      go false false false m h = absurd (h refl)

  pub early-passed : early (length p.holders) o ≡ DONE → Opened p o
  unfolding early
  early-passed e =
      let (coded, e7) = not_refused (bad_code o) CODE _ (omega arith) e in
      let (within, e8) = not_refused (bad_holder p o) HOLDER _ (omega arith) e7 in
      record { coded = coded; within = within; apart = (not_refused (same_holder o) SAME DONE (omega arith) e8).0 }

-- the same of a lent pool, whose shape tells how many holders it has
module _ {v : Lent} (z : Sized v) (o : Operation) where
  pub words-refused : (k : Refusal) → refusal_no k ≡ early (holder_count v.shape) o → refusal v.pool o ≡ refusal_no k
  words-refused k e =
      let h : refusal_no k ≡ early (length v.pool.holders) o = rw z.held e in
      early-refused v.pool o (λ d. refusal_some k (h ∙ d)) ∙ sym h

  pub words-passed : DONE ≡ early (holder_count v.shape) o → Opened v.pool o
  words-passed e = early-passed v.pool o (sym (rw z.held e))

-- its words are in order
module _ {v : Lent} {o : Operation} (coded : bad_code o ≡ false) where
  pub one : OnOne v o.a → uses_b o.code ≡ false → Opened v.pool o
  one k u = record { coded = coded; within = rw (lt-leb (length v.pool.holders) o.a (omega (arith, k.sized.held)), u) refl; apart = rw u refl }

  pub two : OnTwo v o.a o.b → uses_b o.code ≡ true → Opened v.pool o
  two k u = record {
    coded = coded;
    within = rw (
      lt-leb (length v.pool.holders) o.a (omega (arith, k.sized.held)),
      u,
      lt-leb (length v.pool.holders) o.b (omega (arith, k.sized.held)),
    ) refl;
    apart = rw (u, ne_eqb o.a o.b k.a_bound.2) refl;
  }

-- and back
module _ {v : Lent} {o : Operation} (z : Sized v) (k : Sound v.pool) (h : Opened v.pool o) where
  pub on_one : OnOne v o.a
  on_one = record { sized = z; a_bound = omega (arith, a_holder v.pool o h, z.held); sound = k }

  pub on-two : uses_b o.code ≡ true → OnTwo v o.a o.b
  on-two u =
      let (lb, ab) = b-holder v.pool o h u in
      record { sized = z; a_bound = (on_one.a_bound, omega (arith, lb, z.held), ab); sound = k }
