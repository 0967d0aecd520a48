-- What the tests 9 to 12 come to, over their shape: the first that holds is the refusal, and where none does the operation is done.
use Rattle.std.specs.Prelude.{◌≡◌, refl, ◌≢◌, Bool, true, false, cond, not, ℕ, eqb, ltb}
use Rattle.std.proofs.Common.{sym, ◌∙◌, arith, eq-eqb, ne_eqb, eqb-true, lt-ltb, le-ltb}
use Rattle.std.proofs.Math.Decide.{ℕ_discrete}
use Rattle.std.proofs.lemmas.Bool.{eqb-false, not-false}
use Rattle.answers.specs.Answers.{DONE, NULL, OCCUPIED, SHARED, NO_ROOM}
use Rattle.answers.specs.Laws.Refusals.{refusal_some}
use Rattle.answers.specs.Refusals.{refusal_no}
use Rattle.answers.specs.declared.refusal.Refusal.{Refusal}
use Rattle.ops.specs.Tests.{parting}
use Rattle.pool.specs.Pool.{Pool, holder, frees, Sound}
use Rattle.pool.specs.Script.{Operation, null_list, occupied, shared_cells, needed, lacks_room, refusal}
use Rattle.pool.specs.Laws.ScriptLaws.{Opened, not_refused, none_free, free_some}

module _ {p : Pool} {o : Operation} (h : Opened p o) where
  pub says-null : null_list p o ≡ true → refusal p o ≡ NULL
  unfolding refusal
  says-null e = rw (h.coded, h.within, h.apart, e) refl

  module _ (filled : null_list p o ≡ false) where
    pub says-occupied : occupied p o ≡ true → refusal p o ≡ OCCUPIED
    unfolding refusal
    says-occupied e = rw (h.coded, h.within, h.apart, filled, e) refl

    module _ (vacant : occupied p o ≡ false) where
      pub says-shared : shared_cells p o ≡ true → refusal p o ≡ SHARED
      unfolding refusal
      says-shared e = rw (h.coded, h.within, h.apart, filled, vacant, e) refl

      module _ (own : shared_cells p o ≡ false) where
        pub says-full : lacks_room p o ≡ true → refusal p o ≡ NO_ROOM
        unfolding refusal
        says-full e = rw (h.coded, h.within, h.apart, filled, vacant, own, e) refl

        pub says-done : lacks_room p o ≡ false → refusal p o ≡ DONE
        unfolding refusal
        says-done e = rw (h.coded, h.within, h.apart, filled, vacant, own, e) refl

        pub needs_none : needed p o ≡ 0 → refusal p o ≡ DONE
        needs_none e = says-done (rw e (le-ltb (frees p.cells) 0 (omega arith)))

-- 9 and 10 at once, where the first element of a goes to b
pub record Parts (p : Pool) (a b : ℕ) : Type 0 where
  pub filled : holder p a ≢ 0
  pub vacant : holder p b ≡ 0

pub parts : {p : Pool} {a b : ℕ} → parting p a b ≡ DONE → Parts p a b
unfolding parting
parts {p} {a} {b} e =
    let (filled, e10) = not_refused (eqb (holder p a) 0) NULL _ (omega arith) e in
    let (vacant, e11) = not_refused (not (eqb (holder p b) 0)) OCCUPIED DONE (omega arith) e10 in
    record { filled = eqb-false (holder p a) 0 filled; vacant = eqb-true (holder p b) 0 (not-false _ vacant) }

module _ {p : Pool} {o : Operation} (h : Opened p o) (nulls : null_list p o ≡ eqb (holder p o.a) 0)
    (fills : occupied p o ≡ not (eqb (holder p o.b) 0)) where
  pub says-parting : parting p o.a o.b ≢ DONE → refusal p o ≡ parting p o.a o.b
  unfolding parting
  says-parting n = go (eqb (holder p o.a) 0) (not (eqb (holder p o.b) 0)) nulls fills n
    where
      go : (x y : Bool) → null_list p o ≡ x → occupied p o ≡ y → cond x NULL (cond y OCCUPIED DONE) ≢ DONE → refusal p o ≡ cond x NULL (cond y OCCUPIED DONE)
      go true y e f m = says-null h e
      go false true e f m = says-occupied h e f
      go false false e f m = absurd (m refl)

  pub parting-refused : (k : Refusal) → refusal_no k ≡ parting p o.a o.b → refusal p o ≡ refusal_no k
  parting-refused k e = says-parting (λ d. refusal_some k (e ∙ d)) ∙ sym e

  -- past them the other two tests decide
  module _ (q : Parts p o.a o.b) where
    filled : null_list p o ≡ false
    filled = nulls ∙ ne_eqb (holder p o.a) 0 q.filled

    vacant : occupied p o ≡ false
    vacant = fills ∙ rw (eq-eqb (holder p o.b) 0 q.vacant) refl

    pub parting-shared : shared_cells p o ≡ true → refusal p o ≡ SHARED
    parting-shared e = says-shared h filled vacant e

    pub parting-done : shared_cells p o ≡ false → needed p o ≡ 0 → refusal p o ≡ DONE
    parting-done own none = needs_none h filled vacant own none

-- room for one cell
pub one_free : (p : Pool) → Sound p → eqb p.free 0 ≡ ltb (frees p.cells) 1
one_free p s = go (ℕ_discrete p.free 0)
  where
    go : Dec (p.free ≡ 0) → eqb p.free 0 ≡ ltb (frees p.cells) 1
    go (yes e) = eq-eqb p.free 0 e ∙ sym (lt-ltb (frees p.cells) 1 (omega (arith, none_free p s e)))
    go (no n) = ne_eqb p.free 0 n ∙ sym (le-ltb (frees p.cells) 1 (free_some p s n))
