-- Each test of the calls tells the condition that document 01 gives for its answer.
use Rattle.std.specs.Prelude.{◌≡◌, ◌≢◌, ◌⊎◌, Bool, cond, not, ◌&&◌, ◌||◌, List, eqb, leb, length, drop}
use Rattle.std.proofs.Math.Path.{refl}
use Rattle.std.proofs.Common.{sym, ap, ◌∙◌, subst, inl, inr, true≢false, arith}
use Rattle.std.proofs.Math.Bool.{true, false}
use Rattle.std.proofs.lemmas.Bool.{false≢true}
use Prim.Native.Nat.{ℕ, zero, suc, ◌*◌, ◌/◌, ◌%◌, ◌≤◌, ◌<◌}
use Rattle.std.proofs.Math.Dec.{ltb}
use borrow.Author.Tests.{ltb-true, leb-false, eqb-true, eqb-false, eq-eqb}
use Rattle.answers.specs.Answers.{DONE, TABLE_SIZE, WORK_SPACE, SCRIPT, RESULTS, TEXT_SIZE, END}
use Rattle.answers.specs.Codes.{operation_words, result_words}
use Rattle.lists.specs.Lst.{Lst, nil, atom, list}
use Rattle.pool.specs.Pool.{Cell, Pool, count_of, next_of, holder, ListAt, frees, Sound}
use Rattle.pool.specs.Operations.{any_shared, shared_at, length_of}
use Rattle.pool.specs.Check.{check}
use Rattle.pool.specs.Laws.CheckLaws.{check_decides}
use Rattle.pool.specs.Laws.SoundLaws.{denoted}
use Rattle.pool.specs.Laws.Inverse.{Alone}
use Rattle.pool.specs.Laws.Level.{length_is, alone}
use Rattle.pool.specs.Script.{PFA, DECAP, INV, CINV, CONC, last_code, Operation, among, uses_b, bad_code, bad_holder, same_holder, null_list, occupied, shared_cells, needed, lacks_room}
use Rattle.table.specs.Limits.{cells_most, holders_fit, cells_told, holders_told, table_words}
use Rattle.table.specs.Laws.ViewLaws.{view_holders}
use Rattle.table.specs.View.{shape}
use Rattle.table.specs.Sizes.{sizes_fit, cells_of, shape_of}
use Rattle.table.specs.Laws.SizesLaws.{fits_told}
use Rattle.text.specs.Limits.{record_bytes, text_most}
use Rattle.text.specs.Text.{bad_text, others, at_end, size_fault}
use Rattle.calls.specs.Entry.{bad_table, bad_work, entry_fault, no_holder, shown, unsound}
use Rattle.calls.specs.Run.{bad_script, bad_results, script_fault}
use Rattle.promises.specs.Grounds.{BadSize, BadTable, BadWork, BadScript, Unsound, NoHolder, entry_rows, script_rows, with_b, taking_first, filling_b, taking_one, UsesB, onward, SomeShared, BadCode, BadHolder, Same, Null, Occupied, Shared, Needs, NoRoom}
use Rattle.promises.specs.TextGrounds.{BadText, size_rows}
use Rattle.promises.specs.Rows.{Answers}
use Rattle.promises.specs.Laws.Tells.{Tells, tells_eq, tells_le, tells_lt, tells_not, tells_and, tells_or, tells_as, tells_among, first, Each}
use Rattle.table.specs.declared.Form.{Form}

-- sizes

tells_true : (b : Bool) → Tells b (b ≡ true)
tells_true b = ((λ e. e), (λ e q. false≢true (sym e ∙ q)))

pub tells_size : (form : Form) → (h n k : ℕ) → Tells (not (sizes_fit (shape form h n) k)) (BadSize form h n k)
tells_size form h n k = tells_as (tells_not (sizes_fit (shape form h n) k) (tells_and (leb 1 n) (leb n (cells_most form) && (holders_fit form h && eqb k (table_words form h n))) (tells_le 1 n) (tells_and (leb n (cells_most form)) (holders_fit form h && eqb k (table_words form h n)) (tells_le n (cells_most form)) (tells_and (holders_fit form h) (eqb k (table_words form h n)) (tells_true (holders_fit form h)) (tells_eq k (table_words form h n))))))
    (λ f. bad f (leb 1 n) (leb n (cells_most form)) (holders_fit form h) refl refl refl)
    good
  where
    bad : ((1 ≤ n) × ((n ≤ cells_most form) × ((holders_fit form h ≡ true) × (k ≡ table_words form h n))) → ⊥) → (b c d : Bool) → leb 1 n ≡ b → leb n (cells_most form) ≡ c → holders_fit form h ≡ d → BadSize form h n k
    bad f true true true e g w = inr (inr (inr (λ q. f ((tells_le 1 n).0 e, ((tells_le n (cells_most form)).0 g, (w, q))))))
    bad f true true false e g w = inr (inr (inl w))
    bad f true false d e g w = inr (inl (leb-false n (cells_most form) g))
    bad f false c d e g w = inl (leb-false 1 n e)

    good : BadSize form h n k → (1 ≤ n) × ((n ≤ cells_most form) × ((holders_fit form h ≡ true) × (k ≡ table_words form h n))) → ⊥
    good (inl z) r = omega (arith, r.0)
    good (inr (inl z)) r = omega (arith, r.1.0)
    good (inr (inr (inl z))) r = false≢true (sym z ∙ r.1.1.0)
    good (inr (inr (inr z))) r = z r.1.1.1

tells_none : (b : Bool) (n : ℕ) → (b ≡ true → 1 ≤ n) → (A : Type 0) → Tells (not b) A → Tells (eqb (cond b n 0) 0) A
tells_none true n h A t = (λ e. absurd (omega (arith, h refl, eqb-true n 0 e)), λ e. t.1 refl)
tells_none false n h A t = (λ e. t.0 refl, λ e. absurd (true≢false (sym (eq-eqb 0 0 refl) ∙ e)))

pub tells_table : (form : Form) → (ts : List ℕ) → Tells (bad_table form ts) (BadTable form ts)
unfolding cells_of
tells_table form ts = tells_none (sizes_fit (shape form (holders_told form ts) (cells_told ts)) (length ts)) (cells_told ts) (λ e. (fits_told (shape form (holders_told form ts) (cells_told ts)) (length ts) e).some) (BadTable form ts) (tells_size form (holders_told form ts) (cells_told ts) (length ts))

-- words of the right size tell their own number of cells
told_cells : (b : Bool) (n : ℕ) → eqb (cond b n 0) 0 ≡ false → cond b n 0 ≡ n
told_cells true n e = refl
told_cells false n e = absurd (eqb-false 0 0 e refl)

pub cells_told_lem : (form : Form) → (ts : List ℕ) → bad_table form ts ≡ false → cells_of form ts ≡ cells_told ts
unfolding cells_of
cells_told_lem form ts e = told_cells (sizes_fit (shape form (holders_told form ts) (cells_told ts)) (length ts)) (cells_told ts) e

tells_work : (k : ℕ) (form : Form) (ts ws : List ℕ) → bad_table form ts ≡ false → Tells (bad_work k form ts (length ws)) (BadWork k ts ws)
tells_work k form ts ws e = subst (λ (n : ℕ). Tells (bad_work k form ts (length ws)) (length ws < k * n)) (cells_told_lem form ts e) (tells_lt (length ws) (k * cells_of form ts))

abbrev itself : ℕ → ℕ
itself n = n

-- the first tests of every call, and those of a script's sizes
pub entry_answers : (k : ℕ) (form : Form) (ts ws : List ℕ) → Answers (entry_rows k form ts ws) (entry_fault k form ts (length ws))
unfolding entry_fault
entry_answers k form ts ws =
    first itself (Answers (drop 1 (entry_rows k form ts ws))) (bad_table form ts) TABLE_SIZE _ (tells_table form ts) refl (λ e.
    first itself (λ m. m ≡ DONE) (bad_work k form ts (length ws)) WORK_SPACE DONE (tells_work k form ts ws e) refl (λ _. refl))

tells_script : (ss : List ℕ) → Tells (bad_script ss) (BadScript ss)
tells_script ss = tells_or (not (eqb (length ss % operation_words) 0)) _ (tells_not (eqb (length ss % operation_words) 0) (tells_eq (length ss % operation_words) 0)) (tells_lt _ (length ss))

pub script_answers : (ss rs : List ℕ) → Answers (script_rows ss rs) (script_fault ss rs)
unfolding script_fault
script_answers ss rs =
    first itself (Answers (drop 1 (script_rows ss rs))) (bad_script ss) SCRIPT _ (tells_script ss) refl (λ _.
    first itself (λ m. m ≡ DONE) (bad_results ss rs) RESULTS DONE (tells_lt (length rs) (result_words * (length ss / operation_words))) refl (λ _. refl))

-- no number of these rows is DONE
pub entry_each : (k : ℕ) (form : Form) (ts ws : List ℕ) → Each (λ n. n ≡ DONE → ⊥) (entry_rows k form ts ws)
entry_each k form ts ws = ((λ z. omega arith), ((λ z. omega arith), tt))

pub script_each : (ss rs : List ℕ) → Each (λ n. n ≡ DONE → ⊥) (script_rows ss rs)
script_each ss rs = ((λ z. omega arith), ((λ z. omega arith), tt))

pub tells_sound : (p : Pool) → Tells (check p) (Sound p)
tells_sound p = ((check_decides p).0, λ e s. absurd (true≢false (sym ((check_decides p).1 s) ∙ e)))

pub tells_unsound : (form : Form) → (ts : List ℕ) → Tells (unsound form ts) (Unsound form ts)
tells_unsound form ts = tells_not (check (shown form ts)) (tells_sound (shown form ts))

-- the holders that a table shows are those that it tells
pub shown_holders : (form : Form) → (ts : List ℕ) → length (shown form ts).holders ≡ holders_told form ts
shown_holders form ts = view_holders (shape_of form ts) ts

pub tells_holder : (form : Form) → (ts : List ℕ) (h : ℕ) → Tells (no_holder form ts h) (NoHolder (shown form ts) h)
tells_holder form ts h = subst (λ (n : ℕ). Tells (no_holder form ts h) (n ≤ h)) (sym (shown_holders form ts)) (tells_le (holders_told form ts) h)

tells_text : (xs : List ℕ) → Tells (bad_text xs) (BadText xs)
tells_text xs = tells_or (not (eqb (length xs % record_bytes) 0)) (ltb text_most (length xs)) (tells_not (eqb (length xs % record_bytes) 0) (tells_eq (length xs % record_bytes) 0)) (tells_lt text_most (length xs))

pub size_answers : (xs : List ℕ) → Answers (size_rows xs) (size_fault xs)
unfolding size_fault
size_answers xs =
    first itself (Answers (drop 1 (size_rows xs))) (bad_text xs) TEXT_SIZE _ (tells_text xs) refl (λ _.
    first itself (λ m. m ≡ DONE) (at_end xs) END DONE (tells_eq (others xs) 0) refl (λ _. refl))

pub size_each : (xs : List ℕ) → Each (λ n. n ≡ DONE → ⊥) (size_rows xs)
size_each xs = ((λ z. omega arith), ((λ z. omega arith), tt))

-- an operation

pub tells_code : (o : Operation) → Tells (bad_code o) (BadCode o)
tells_code o = tells_as (tells_not (leb PFA o.code && leb o.code last_code) (tells_and (leb PFA o.code) (leb o.code last_code) (tells_le PFA o.code) (tells_le o.code last_code)))
    (λ f. bad f (leb PFA o.code) refl)
    good
  where
    bad : ((PFA ≤ o.code) × (o.code ≤ last_code) → ⊥) → (b : Bool) → leb PFA o.code ≡ b → BadCode o
    bad f true e = inr (go (leb o.code last_code) refl)
      where
        go : (c : Bool) → leb o.code last_code ≡ c → last_code < o.code
        go true g = absurd (f ((tells_le PFA o.code).0 e, (tells_le o.code last_code).0 g))
        go false g = leb-false o.code last_code g
    bad f false e = inl (leb-false PFA o.code e)

    good : BadCode o → (PFA ≤ o.code) × (o.code ≤ last_code) → ⊥
    good (inl h) r = omega (arith, r.0)
    good (inr h) r = omega (arith, r.1)

pub tells_uses : (c : ℕ) → Tells (uses_b c) (UsesB c)
tells_uses c = tells_among c with_b

-- the main level: a cell met on it is one that the test meets

module _ (cs : List Cell) where
  found : (k x : ℕ) → any_shared k cs x ≡ true → (n : ℕ) × (onward cs n x ≢ 0) × (1 < count_of cs (onward cs n x))
  unfolding any_shared onward
  found zero x e = absurd (false≢true e)
  found (suc k) zero e = absurd (false≢true e)
  found (suc k) (suc i) e = go (ltb 1 (count_of cs (suc i))) refl (found k (next_of cs (suc i))) e
    where
      go : (b : Bool) → ltb 1 (count_of cs (suc i)) ≡ b
          → (any_shared k cs (next_of cs (suc i)) ≡ true → (n : ℕ) × (onward cs n (next_of cs (suc i)) ≢ 0) × (1 < count_of cs (onward cs n (next_of cs (suc i)))))
          → (b || any_shared k cs (next_of cs (suc i))) ≡ true → (n : ℕ) × (onward cs n (suc i) ≢ 0) × (1 < count_of cs (onward cs n (suc i)))
      go true q r g = (0, (λ z. omega arith), ltb-true 1 (count_of cs (suc i)) q)
      go false q r g = let (n, a, b) = r g in (suc n, a, b)

  from_null : (n x : ℕ) → x ≡ 0 → onward cs n x ≡ 0
  unfolding onward
  from_null zero x e = e
  from_null (suc n) x e = from_null n (next_of cs x) (ap (next_of cs) e)

  -- where each count of the main level is 1
  lone : (l : Lst) (n x : ℕ) → ListAt cs x l → Alone cs x l → onward cs n x ≢ 0 → count_of cs (onward cs n x) ≡ 1
  unfolding ListAt Alone onward
  lone nil n x w o m = absurd (m (from_null n x w))
  lone (atom v l) zero x w o m = o.0
  lone (atom v l) (suc n) x w o m = lone l n (next_of cs x) w.3 o.1 m
  lone (list e l) zero x w o m = o.0
  lone (list e l) (suc n) x w o m = lone l n (next_of cs x) w.3 o.1 m

pub tells_shared : (p : Pool) (a : ℕ) → Sound p → Tells (shared_at p a) (SomeShared p a)
tells_shared p a s = (some, none)
  where
    some : shared_at p a ≡ true → SomeShared p a
    some e = let (n, m, g) = found p.cells (length p.cells) (holder p a) e in (onward p.cells n (holder p a), (m, (n, refl)), g)

    none : shared_at p a ≡ false → SomeShared p a → ⊥
    none e (c, (m, (n, q)), g) =
        let (l, w) = denoted p s a in
        let one = lone p.cells l n (holder p a) w (alone p a l s w e) (λ z. m (sym q ∙ z)) in
        omega (arith, ap (count_of p.cells) q)

module _ (p : Pool) (o : Operation) (s : Sound p) where
  pub tells_held : Tells (bad_holder p o) (BadHolder p o)
  tells_held =
      let at_least : (h : ℕ) → Tells (leb (length p.holders) h) (NoHolder p h) = λ h. tells_le (length p.holders) h in
      tells_or (leb (length p.holders) o.a) (uses_b o.code && leb (length p.holders) o.b) (at_least o.a) (tells_and (uses_b o.code) (leb (length p.holders) o.b) (tells_uses o.code) (at_least o.b))

  pub tells_same : Tells (same_holder o) (Same o)
  tells_same = tells_and (uses_b o.code) (eqb o.a o.b) (tells_uses o.code) (tells_eq o.a o.b)

  pub tells_null : Tells (null_list p o) (Null p o)
  tells_null = tells_and (among o.code taking_first) (eqb (holder p o.a) 0) (tells_among o.code taking_first) (tells_eq (holder p o.a) 0)

  some_b : Tells (not (eqb (holder p o.b) 0)) (holder p o.b ≢ 0)
  some_b = tells_not (eqb (holder p o.b) 0) (tells_eq (holder p o.b) 0)

  pub tells_occupied : Tells (occupied p o) (Occupied p o)
  tells_occupied = tells_and (among o.code filling_b) (not (eqb (holder p o.b) 0)) (tells_among o.code filling_b) some_b

  pub tells_own : Tells (shared_cells p o) (Shared p o)
  tells_own = tells_as
      (tells_or (eqb o.code DECAP && ltb 1 (count_of p.cells (holder p o.a))) _
      (tells_and (eqb o.code DECAP) (ltb 1 (count_of p.cells (holder p o.a))) (tells_eq o.code DECAP) (tells_lt 1 (count_of p.cells (holder p o.a))))
      (tells_and (eqb o.code INV || (eqb o.code CONC && not (eqb (holder p o.b) 0))) (shared_at p o.a)
      (tells_or (eqb o.code INV) (eqb o.code CONC && not (eqb (holder p o.b) 0)) (tells_eq o.code INV) (tells_and (eqb o.code CONC) (not (eqb (holder p o.b) 0)) (tells_eq o.code CONC) some_b))
      (tells_shared p o.a s)))
      to back
    where
      to : ((o.code ≡ DECAP) × (1 < count_of p.cells (holder p o.a))) ⊎ (((o.code ≡ INV) ⊎ ((o.code ≡ CONC) × (holder p o.b ≢ 0))) × SomeShared p o.a) → Shared p o
      to (inl h) = inl h
      to (inr (inl e, h)) = inr (inl (e, h))
      to (inr (inr e, h)) = inr (inr (e.0, e.1, h))

      back : Shared p o → ((o.code ≡ DECAP) × (1 < count_of p.cells (holder p o.a))) ⊎ (((o.code ≡ INV) ⊎ ((o.code ≡ CONC) × (holder p o.b ≢ 0))) × SomeShared p o.a)
      back (inl h) = inl h
      back (inr (inl h)) = inr (inl h.0, h.1)
      back (inr (inr h)) = inr (inr (h.0, h.1), h.2)

  -- the cells that an operation needs are as many as the test takes
  pub needs_is : (n : ℕ) → Needs p o n → needed p o ≡ n
  needs_is n (inl (u, e)) = go (among o.code taking_one) refl
    where
      go : (b : Bool) → among o.code taking_one ≡ b → cond b 1 (cond (eqb o.code CINV) (length_of p o.a) 0) ≡ n
      go true q = sym e
      go false q = absurd ((tells_among o.code taking_one).1 q u)
  needs_is n (inr (c, (l, w, e))) = ap (λ (k : ℕ). cond (among k taking_one) 1 (cond (eqb k CINV) (length_of p o.a) 0)) c ∙ length_is p o.a l s w ∙ sym e

  pub needed_some : 0 < needed p o → Needs p o (needed p o)
  needed_some h = go (among o.code taking_one) refl (eqb o.code CINV) refl h
    where
      go : (b : Bool) → among o.code taking_one ≡ b → (c : Bool) → eqb o.code CINV ≡ c → 0 < cond b 1 (cond c (length_of p o.a) 0) → Needs p o (cond b 1 (cond c (length_of p o.a) 0))
      go true q c e g = inl ((tells_among o.code taking_one).0 q, refl)
      go false q true e g = let (l, w) = denoted p s o.a in inr (eqb-true o.code CINV e, (l, w, length_is p o.a l s w))
      go false q false e g = absurd (omega arith)

  pub tells_room : Tells (lacks_room p o) (NoRoom p o)
  tells_room = tells_as (tells_lt (frees p.cells) (needed p o)) (λ h. (needed p o, needed_some (omega arith), h)) (λ h. let e = needs_is h.0 h.1 in omega (arith, h.2))
