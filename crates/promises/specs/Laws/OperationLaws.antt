-- Each operation that is allowed gives the holders of a sound pool the machine's lists, and says what the machine says.
use Rattle.std.specs.Prelude.{◌≡◌, ◌≢◌, Bool, true, cond, not, ◌&&◌, ℕ, ◌≤◌, ◌<◌, eqb, ltb}
use Rattle.std.proofs.Math.Path.{refl, ap, ap₂}
use Rattle.std.proofs.Common.{sym, ◌∙◌, subst, inl, inr, arith}
use Rattle.std.proofs.Math.Bool.{false}
use mathlib.Core.List.{List, [], ◌∷◌}
use Rattle.std.proofs.Math.Decide.{ℕ_discrete, dec_lt}
use Rattle.std.proofs.Math.ListN.{get_or}
use Rattle.std.proofs.Math.Seq.{get_or-set_same}
use package.borrow.Author.Tests.{not-false, ltb-false, eqb-true, eqb-false, eq-eqb, ne_eqb}
use Rattle.lists.specs.Lst.{Lst, nil, atom, list, reversed, joined}
use Rattle.pool.specs.Pool.{Pool, kind_of, elem_of, count_of, holder, ListAt, frees, Sound}
use Rattle.pool.specs.Operations.{pfa, pfl, decap, adv, borrow, erase, inv, cinv, conc, length_of, shared_at}
use Rattle.pool.specs.Script.{PFA, PFL, DECAP, ADV, BORROW, ERASE, INV, CINV, CONC, FIRST, LENGTH, Operation, effect}
use Rattle.pool.specs.Laws.EraseLaws.{erases}
use Rattle.pool.specs.Laws.Prefix.{Stay, pfa-does, pfl-does}
use Rattle.pool.specs.Laws.Borrow.{borrow-does}
use Rattle.pool.specs.Laws.Decap.{decap-does}
use Rattle.pool.specs.Laws.Advance.{adv-does}
use Rattle.pool.specs.Laws.Inverse.{inv-does}
use Rattle.pool.specs.Laws.Room.{frees-lives}
use Rattle.pool.specs.Laws.Copy.{cinv-does}
use Rattle.pool.specs.Laws.Conc.{conc-does}
use Rattle.pool.specs.Laws.Level.{length_is, both_false, alone}
use Rattle.pool.specs.Laws.ScriptLaws.{Allowed, a_holder, b-holder, some_free, own_head}
use Rattle.promises.specs.Grounds.{BadCode}
use Rattle.promises.specs.Laws.TestsTell.{tells_code}
use Rattle.promises.specs.Machine.{Lists, assign, tail, head_list, turn, first_of, says}

-- the holders of a pool have these lists
abbrev pub HoldsIn : Pool → Lists → Type 0
HoldsIn p m = (i : ℕ) → ListAt p.cells (holder p i) (m i)

pub record Does (p : Pool) (o : Operation) : Type 0 where
  pub lists : (m : Lists) → HoldsIn p m → HoldsIn (effect p o).pool (turn m o)
  pub words : (m : Lists) → HoldsIn p m → (n : ℕ) × (((effect p o).kind ∷ (effect p o).value ∷ []) ≡ says m o n)

pub assigned : (q : Pool) (m : Lists) (a : ℕ) (l : Lst) → ListAt q.cells (holder q a) l → ((i : ℕ) → i ≢ a → ListAt q.cells (holder q i) (m i)) → HoldsIn q (assign m a l)
unfolding assign
assigned q m a l h k i = go (eqb i a) refl
  where
    go : (b : Bool) → eqb i a ≡ b → ListAt q.cells (holder q i) (cond b l (m i))
    go true e = subst (λ (j : ℕ). ListAt q.cells (holder q j) l) (sym (eqb-true i a e)) h
    go false e = k i (eqb-false i a e)

-- what a holder that was not assigned has, and one that was
pub assign_other : (m : Lists) (a : ℕ) (l : Lst) (i : ℕ) → i ≢ a → assign m a l i ≡ m i
unfolding assign
assign_other m a l i n = ap (λ (b : Bool). cond b l (m i)) (ne_eqb i a n)

pub assign_own : (m : Lists) (a : ℕ) (l : Lst) → assign m a l a ≡ l
unfolding assign
assign_own m a l = ap (λ (b : Bool). cond b l (m a)) (eq-eqb a a refl)

module _ (q : Pool) (m : Lists) (a b : ℕ) where
  both : (l k : Lst) → a ≢ b → ListAt q.cells (holder q a) l → ListAt q.cells (holder q b) k → ((i : ℕ) → i ≢ a → i ≢ b → ListAt q.cells (holder q i) (m i)) → HoldsIn q (assign (assign m a l) b k)
  both l k ab h g r = assigned q (assign m a l) b k g (λ i n. go i n (eqb i a) refl)
    where
      go : (i : ℕ) → i ≢ b → (c : Bool) → eqb i a ≡ c → ListAt q.cells (holder q i) (assign m a l i)
      go i n true e = let q' = eqb-true i a e in subst (λ (j : ℕ). ListAt q.cells (holder q j) (assign m a l j)) (sym q') (rw (assign_own m a l) h)
      go i n false e = let ne = eqb-false i a e in rw (assign_other m a l i ne) (r i ne n)

abbrev op : ℕ → ℕ → ℕ → ℕ → Operation
op c a b v = record { code = c; a = a; b = b; v = v }

past : (k c : ℕ) → c ≢ k → k ≤ c → k < c
past k c n l = omega arith

not_less : (c k : ℕ) → (c < k → ⊥) → k ≤ c
not_less c k n = omega arith

-- a null holder has the null list
null : (q : Pool) (h : ℕ) → holder q h ≡ 0 → ListAt q.cells (holder q h) nil
unfolding ListAt
null q h e = e

-- the first element comes off
module _ (p q : Pool) (a b : ℕ) (ab : a ≢ b) (n : holder p a ≢ 0)
    (f : (u : ℕ) (t : Lst) → ListAt p.cells (holder p a) (atom u t) → (elem_of p.cells (holder p a) ≡ u) × ListAt q.cells (holder q a) t × (holder q b ≡ 0))
    (g : (e t : Lst) → ListAt p.cells (holder p a) (list e t) → ListAt q.cells (holder q a) t × ListAt q.cells (holder q b) e)
    (r : Stay p q (λ i. (i ≢ a) × (i ≢ b))) where
  parted : (m : Lists) → HoldsIn p m → HoldsIn q (assign (assign m a (tail (m a))) b (head_list (m a)))
  unfolding tail head_list ListAt
  parted m k = go (m a) (k a)
    where
      go : (l : Lst) → ListAt p.cells (holder p a) l → HoldsIn q (assign (assign m a (tail l)) b (head_list l))
      go nil w = absurd (n w)
      go (atom u t) w = both q m a b t nil ab (f u t w).1 (null q b (f u t w).2) (λ i c d. r i (m i) (c, d) (k i))
      go (list e t) w = both q m a b t e ab (g e t w).0 (g e t w).1 (λ i c d. r i (m i) (c, d) (k i))

module _ (p : Pool) (s : Sound p) (a b v : ℕ) where
  -- what the first element is told as
  first-words : (x : ℕ) (l : Lst) → x ≢ 0 → ListAt p.cells x l → (kind_of p.cells x ∷ cond (eqb (kind_of p.cells x) 0) (elem_of p.cells x) 0 ∷ []) ≡ first_of l
  unfolding ListAt first_of
  first-words x nil n w = absurd (n w)
  first-words x (atom u l) n w = ap₂ (λ (k e : ℕ). k ∷ e ∷ []) w.1 (rw (eq-eqb (kind_of p.cells x) 0 w.1) w.2)
  first-words x (list e l) n w = ap₂ (λ (k e : ℕ). k ∷ e ∷ []) w.1 (rw (ne_eqb (kind_of p.cells x) 0 (λ z. omega (arith, w.1))))

  does-pfa : Allowed p (op PFA a b v) → Does p (op PFA a b v)
  unfolding effect turn says
  does-pfa h =
      let d = pfa-does p a v s (a_holder p (op PFA a b v) h.opened) (some_free p s (ltb-false (frees p.cells) 1 h.room)) in
      record { lists = λ m k. assigned (pfa p a v) m a (atom v (m a)) (d.gets (m a) (k a)) (λ i n. d.others i (m i) n (k i)); words = λ m k. (0, refl) }

  does-pfl : Allowed p (op PFL a b v) → Does p (op PFL a b v)
  unfolding effect turn says
  does-pfl h =
      let (lb, ab) = b-holder p (op PFL a b v) h.opened refl in
      let d = pfl-does p a b s (a_holder p (op PFL a b v) h.opened) lb ab (some_free p s (ltb-false (frees p.cells) 1 h.room)) in
      record {
        lists = λ m k. both (pfl p a b) m a b (list (m b) (m a)) nil ab (d.gets (m a) (m b) (k a) (k b)) (null (pfl p a b) b d.null) (λ i n n'. d.others i (m i) (n, n') (k i));
        words = λ m k. (0, refl);
      }

  does-decap : Allowed p (op DECAP a b v) → Does p (op DECAP a b v)
  unfolding effect turn says
  does-decap h =
      let (lb, ab) = b-holder p (op DECAP a b v) h.opened refl in
      let x = holder p a in
      let n : x ≢ 0 = eqb-false x 0 h.filled in
      let one = own_head p a s n (ltb-false 1 (count_of p.cells x) (both_false (ltb 1 (count_of p.cells x)) false h.own).0) in
      let d = decap-does p a b s (a_holder p (op DECAP a b v) h.opened) lb ab (eqb-true (holder p b) 0 (not-false _ h.vacant)) one in
      record {
        lists = parted p (decap p a b) a b ab n d.atoms d.lists d.others;
        words = λ m k. (0, first-words x (m a) n (k a));
      }

  does-adv : Allowed p (op ADV a b v) → Does p (op ADV a b v)
  unfolding effect turn says
  does-adv h =
      let (lb, ab) = b-holder p (op ADV a b v) h.opened refl in
      let n : holder p a ≢ 0 = eqb-false (holder p a) 0 h.filled in
      let d = adv-does p a b s (a_holder p (op ADV a b v) h.opened) lb ab (eqb-true (holder p b) 0 (not-false _ h.vacant)) n in
      record {
        lists = parted p (adv p a b) a b ab n d.atoms d.lists d.others;
        words = λ m k. (0, first-words (holder p a) (m a) n (k a));
      }

  does-borrow : Allowed p (op BORROW a b v) → Does p (op BORROW a b v)
  unfolding effect turn says
  does-borrow h =
      let d = borrow-does p a b s (b-holder p (op BORROW a b v) h.opened refl).0 (eqb-true (holder p b) 0 (not-false _ h.vacant)) in
      record { lists = λ m k. assigned (borrow p a b) m b (m a) (d.gets (m a) (k a)) (λ i n. d.others i (m i) n (k i)); words = λ m k. (0, refl) }

  does-erase : Allowed p (op ERASE a b v) → Does p (op ERASE a b v)
  unfolding effect turn says
  does-erase h =
      let q = (erase p a).0 in
      let d = erases p a s in
      let e : holder q a ≡ 0 = ap (λ (hs : List ℕ). get_or hs a 0) d.holders ∙ get_or-set_same p.holders a 0 0 (a_holder p (op ERASE a b v) h.opened) in
      record { lists = λ m k. assigned q m a nil (null q a e) (λ i n. d.others i (m i) n (k i)); words = λ m k. ((erase p a).1, refl) }

  does-inv : Allowed p (op INV a b v) → Does p (op INV a b v)
  unfolding effect turn says
  does-inv h = record {
    lists = λ m k. let d = inv-does p a (m a) s (a_holder p (op INV a b v) h.opened) (k a) (alone p a (m a) s (k a) h.own) in
        assigned (inv p a) m a (reversed (m a)) (d.gets (m a) (k a)) (λ i n. d.others i (m i) n (k i));
    words = λ m k. (0, refl);
  }

  does-cinv : Allowed p (op CINV a b v) → Does p (op CINV a b v)
  unfolding effect turn says
  does-cinv h = record {
    lists = λ m k. let d = cinv-does p a b (m a) s (b-holder p (op CINV a b v) h.opened refl).0 (eqb-true (holder p b) 0 (not-false _ h.vacant)) (k a)
        (omega (arith, length_is p a (m a) s (k a), frees-lives p.cells, ltb-false (frees p.cells) (length_of p a) h.room)) in
        assigned (cinv p a b) m b (reversed (m a)) (d.gets (m a) (k a)) (λ i n. d.others i (m i) n (k i));
    words = λ m k. (0, refl);
  }

  does-conc : Allowed p (op CONC a b v) → Does p (op CONC a b v)
  unfolding effect turn says
  does-conc h =
      let (lb, ab) = b-holder p (op CONC a b v) h.opened refl in
      let u : (not (eqb (holder p b) 0) && shared_at p a) ≡ false = h.own in
      record {
        lists = λ m k. let d = conc-does p a b (m a) (m b) s (a_holder p (op CONC a b v) h.opened) lb ab (k a) (k b) (λ n. alone p a (m a) s (k a) (rw (ne_eqb (holder p b) 0 n) at u)) in
            both (conc p a b) m a b (joined (m a) (m b)) nil ab d.gets (null (conc p a b) b d.null) (λ i n n'. d.others i (m i) (n, n') (k i));
        words = λ m k. (0, refl);
      }

  does-first : Allowed p (op FIRST a b v) → Does p (op FIRST a b v)
  unfolding effect turn says
  does-first h = record { lists = λ m k. k; words = λ m k. (0, first-words (holder p a) (m a) (eqb-false (holder p a) 0 h.filled) (k a)) }

  does-length : Allowed p (op LENGTH a b v) → Does p (op LENGTH a b v)
  unfolding effect turn says
  does-length h = record { lists = λ m k. k; words = λ m k. (0, ap (λ (n : ℕ). 2 ∷ n ∷ []) (length_is p a (m a) s (k a))) }

  -- code k, or another
  at_code : (c k : ℕ) → Allowed p (op c a b v) → (Allowed p (op k a b v) → Does p (op k a b v)) → (c ≢ k → Does p (op c a b v)) → Does p (op c a b v)
  at_code c k h f g = go (ℕ_discrete c k)
    where
      go : Dec (c ≡ k) → Does p (op c a b v)
      go (yes e) = subst (λ (d : ℕ). Does p (op d a b v)) (sym e) (f (subst (λ (d : ℕ). Allowed p (op d a b v)) e h))
      go (no n) = g n

  does : (c : ℕ) → Allowed p (op c a b v) → Does p (op c a b v)
  does c h =
      at_code c PFA h does-pfa (λ n1. at_code c PFL h does-pfl (λ n2. at_code c DECAP h does-decap (λ n3. at_code c ADV h does-adv (λ n4.
      at_code c BORROW h does-borrow (λ n5. at_code c ERASE h does-erase (λ n6. at_code c INV h does-inv (λ n7. at_code c CINV h does-cinv (λ n8.
      at_code c CONC h does-conc (λ n9. at_code c FIRST h does-first (λ n10. at_code c LENGTH h does-length (λ n11.
      absurd ((tells_code (op c a b v)).1 h.opened.coded (other n1 n2 n3 n4 n5 n6 n7 n8 n9 n10 n11)))))))))))))
    where
      other : c ≢ 1 → c ≢ 2 → c ≢ 3 → c ≢ 4 → c ≢ 5 → c ≢ 6 → c ≢ 7 → c ≢ 8 → c ≢ 9 → c ≢ 10 → c ≢ 11 → BadCode (op c a b v)
      other n1 n2 n3 n4 n5 n6 n7 n8 n9 n10 n11 = go (dec_lt c PFA)
        where
          go : Dec (c < PFA) → BadCode (op c a b v)
          go (yes l) = inl l
          go (no l) = inr (past 11 c n11 (past 10 c n10 (past 9 c n9 (past 8 c n8 (past 7 c n7 (past 6 c n6 (past 5 c n5 (past 4 c n4 (past 3 c n3 (past 2 c n2 (past 1 c n1 (not_less c PFA l))))))))))))

pub operation-does : (p : Pool) (o : Operation) → Sound p → Allowed p o → Does p o
operation-does p o s h = does p s o.a o.b o.v o.code h
