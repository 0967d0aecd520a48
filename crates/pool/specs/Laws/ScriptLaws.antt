-- What the tests of an operation have ruled out is what its own law asks.
use Rattle.std.specs.Prelude.{◌≡◌, refl, ◌≢◌, Bool, true, false, cond, ◌&&◌, ℕ, zero, suc, ◌≤◌, ◌<◌, leb, length}
use Rattle.std.proofs.Common.{subst, arith}
use package.borrow.Author.Tests.{leb-false, eqb-false}
use Rattle.answers.specs.Answers.{DONE, CODE, HOLDER, SAME, NULL, OCCUPIED, SHARED, NO_ROOM}
use Rattle.pool.specs.Tally.{occ}
use Rattle.pool.specs.Pool.{Pool, count_of, holder, frees, Sound}
use Rattle.pool.specs.Script.{Operation, uses_b, bad_code, bad_holder, same_holder, null_list, occupied, shared_cells, lacks_room, refusal}
use Rattle.pool.specs.Laws.SoundLaws.{sound_held}
use Rattle.pool.specs.Laws.Advance.{holder_live}
use Rattle.pool.specs.Laws.Room.{room, no_room, frees-lives}
use Rattle.pool.specs.Laws.Level.{both_false}

-- the tests of the words themselves, 6 to 8, do not hold
pub record Opened (p : Pool) (o : Operation) : Type 0 where
  pub coded : bad_code o ≡ false
  pub within : bad_holder p o ≡ false
  pub apart : same_holder o ≡ false

-- none of the tests holds
pub record Allowed (p : Pool) (o : Operation) : Type 0 where
  pub opened : Opened p o
  pub filled : null_list p o ≡ false
  pub vacant : occupied p o ≡ false
  pub own : shared_cells p o ≡ false
  pub room : lacks_room p o ≡ false

pub not_refused : (b : Bool) (k m : ℕ) → 0 < k → cond b k m ≡ DONE → (b ≡ false) × (m ≡ DONE)
not_refused true k m l e = absurd (omega arith)
not_refused false k m l e = (refl, e)

pub allowed : (p : Pool) (o : Operation) → refusal p o ≡ DONE → Allowed p o
unfolding refusal
allowed p o e =
    let (coded, e7) = not_refused (bad_code o) CODE _ (omega arith) e in
    let (within, e8) = not_refused (bad_holder p o) HOLDER _ (omega arith) e7 in
    let (apart, e9) = not_refused (same_holder o) SAME _ (omega arith) e8 in
    let (filled, e10) = not_refused (null_list p o) NULL _ (omega arith) e9 in
    let (vacant, e11) = not_refused (occupied p o) OCCUPIED _ (omega arith) e10 in
    let (own, e12) = not_refused (shared_cells p o) SHARED _ (omega arith) e11 in
    record {
      opened = record { coded = coded; within = within; apart = apart };
      filled = filled;
      vacant = vacant;
      own = own;
      room = (not_refused (lacks_room p o) NO_ROOM DONE (omega arith) e12).0;
    }

-- the same with the code said as a number, so that the tests compute
pub with_code : (p : Pool) (o : Operation) (c : ℕ) → o.code ≡ c → Allowed p o → Allowed p (record { code = c; a = o.a; b = o.b; v = o.v })
with_code p o c e h = subst (λ (k : ℕ). Allowed p (record { code = k; a = o.a; b = o.b; v = o.v })) e h

module _ (p : Pool) (o : Operation) (h : Opened p o) where
  pub a_holder : o.a < length p.holders
  a_holder = leb-false (length p.holders) o.a (both_false (leb (length p.holders) o.a) (uses_b o.code && leb (length p.holders) o.b) h.within).0

  -- where b is used
  pub b-holder : uses_b o.code ≡ true → (o.b < length p.holders) × (o.a ≢ o.b)
  b-holder e =
      let w = (both_false (leb (length p.holders) o.a) (uses_b o.code && leb (length p.holders) o.b) h.within).1 in
      (leb-false (length p.holders) o.b (rw e at w), eqb-false o.a o.b (rw e at h.apart))

-- the free chain is empty exactly if no cell is free
pub some_free : (p : Pool) → Sound p → 0 < frees p.cells → p.free ≢ 0
some_free p s l = room p.free p.cells (occ p.holders) (sound_held p s) (omega (arith, frees-lives p.cells))

pub none_free : (p : Pool) → Sound p → p.free ≡ 0 → frees p.cells ≡ 0
none_free p s e = go (frees p.cells) refl
  where
    go : (n : ℕ) → frees p.cells ≡ n → frees p.cells ≡ 0
    go zero q = q
    go (suc n) q = absurd (some_free p s (omega arith) e)

pub free_some : (p : Pool) → Sound p → p.free ≢ 0 → 0 < frees p.cells
free_some p s n = omega (arith, no_room p.free p.cells (occ p.holders) (sound_held p s) n, frees-lives p.cells)

-- the first count where it is not over 1
pub own_head : (p : Pool) (a : ℕ) → Sound p → holder p a ≢ 0 → count_of p.cells (holder p a) ≤ 1 → count_of p.cells (holder p a) ≡ 1
own_head p a s n l = omega (arith, holder_live p a s n)
