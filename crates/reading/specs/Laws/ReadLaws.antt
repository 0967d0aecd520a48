-- Reading, test by test: each answer of the code is the one that is asked.
use Rattle.std.specs.Prelude.{◌≡◌, refl, ◌≢◌, Bool, true, false, not, List, ℕ, ◌≤◌, ◌<◌, eqb, ltb, length}
use Rattle.std.proofs.Common.{sym, ap, ◌∙◌, subst, arith, eq-eqb, ne_eqb, le-leb, lt-ltb, le-ltb}
use Rattle.std.proofs.Math.Bool.{cond}
use Rattle.std.proofs.lemmas.Bool.{lt-leb}
use Rattle.answers.specs.Answers.{DONE, UNSOUND, HOLDER, OCCUPIED, NO_ROOM, refused, done, unless}
use Rattle.answers.specs.Laws.Refusals.{refusal_some}
use Rattle.answers.specs.Laws.Unless.{goes_on_lem, refuses}
use Rattle.answers.specs.Refusals.{refusal_no}
use Rattle.answers.specs.declared.refusal.Refusal.{Refusal}
use Rattle.answers.specs.declared.Outcome.{Outcome}
use Rattle.calls.specs.Entry.{work_words, entry_fault, Provided, no_holder, unsound, used}
use Rattle.calls.specs.Read.{Read, not_read, read_into, reading_in}
use Rattle.calls.specs.Laws.EntryLaws.{passed}
use Rattle.entry.specs.Laws.EntryLaws.{TurnedAway, judged}
use Rattle.lists.specs.Lst.{extent}
use Rattle.sound.specs.Decided.{Decided}
use Rattle.pool.specs.Operations.{read}
use Rattle.pool.specs.Pool.{Pool, holder, frees}
use Rattle.groups.specs.Stored.{size_fault, scanned, verdict, list_in}
use Rattle.groups.specs.declared.Stored.{Stored}
use Rattle.groups.specs.Laws.StoredLaws.{right-size}
use Rattle.scan.specs.declared.Scanned.{Scanned}
use Rattle.table.specs.declared.Form.{Form}
use Rattle.table.specs.Sizes.{shape_of}
use Rattle.table.specs.Laws.SizesLaws.{table_shape}
use Rattle.table.specs.View.{holder_count, view, words, Table, Shows}
use Rattle.table.proofs.WordsLaws.{shown-words}
use Rattle.table.specs.declared.Shape.{Shape}
use Rattle.text.specs.Text as text
use Rattle.text.specs.Text.{Answer, refusal}
use Rattle.calls.specs.Promised.{Reads}

-- what is read is the list of the form that was named
pub as_stored : {s : Shape} {us : List ℕ} (p : Pool) (h : ℕ) (xs : List ℕ) {b k : Stored} → b ≡ k → Shows s us (read p h (list_in k xs)) → Shows s us (read p h (list_in b xs))
as_stored {s} {us} p h xs e w = subst (λ (x : Stored). Shows s us (read p h (list_in x xs))) (sym e) w

-- a call that reads nothing
nothing : {x : Read} {r : Outcome} (k : ℕ) (ts vs : List ℕ) → x ≡ not_read k ts vs → r ≡ refused k → Reads r ts vs x
nothing {x} {r} k ts vs e a = subst (Reads r ts vs) (sym e) (record { outcome = a; table = refl; work = refl })

-- bytes of a right size, in the form b, are scanned for a null holder
pub record Scans (b : Stored) (s : Shape) (ts : List ℕ) (h : ℕ) (xs : List ℕ) : Type 0 where
  pub table : Table s ts
  pub sized : size_fault b xs ≡ DONE
  pub null : holder (view s ts) h ≡ 0

module _ (b : Stored) {s : Shape} {ts : List ℕ} (t : Table s ts) (h : ℕ) (xs ws : List ℕ) where
  -- what is asked, for the shape that the code has
  abbrev read_on : Shape → Read
  read_on u =
      let p = view u ts in
      let v = verdict b xs in
      cond (not (eqb (holder p h) 0)) (not_read OCCUPIED ts (used s.form ts ws))
      (unless v.no (λ n. not_read n ts (used s.form ts ws))
      (cond (ltb (frees p.cells) (extent (list_in b xs))) (not_read NO_ROOM ts (used s.form ts ws))
      (record { answer = DONE; count = v.taken; table = words u (read p h (list_in b xs)); work = used s.form ts ws })))

  asked : read_into s.form b ts ws h xs ≡ read_on s
  asked = ap read_on (table_shape s ts t)

  pub occupied : {r : Outcome} → holder (view s ts) h ≢ 0 → r ≡ refused OCCUPIED → Reads r ts (used s.form ts ws) (read_into s.form b ts ws h xs)
  occupied n a = nothing OCCUPIED ts (used s.form ts ws) (asked ∙ simp (ne_eqb (holder (view s ts) h) 0 n)) a

module _ {b : Stored} {s : Shape} {ts : List ℕ} {h : ℕ} {xs : List ℕ} (k : Scans b s ts h xs) where
  judged_as : {a : Answer} → scanned b xs ≡ a → verdict b xs ≡ a
  judged_as e = right-size b xs k.sized ∙ e

  pub faulty : (ws : List ℕ) (f : Refusal) {r : Outcome} → scanned b xs ≡ refusal (refusal_no f) → r ≡ refused (refusal_no f)
      → Reads r ts (used s.form ts ws) (read_into s.form b ts ws h xs)
  faulty ws f told a =
      let no : (verdict b xs).no ≡ refusal_no f = ap (λ (v : Answer). v.no) (judged_as told) in
      let some : (verdict b xs).no ≢ 0 = λ q. refusal_some f (sym no ∙ q) in
      nothing (verdict b xs).no ts (used s.form ts ws) (asked b k.table h xs ws ∙ simp (eq-eqb (holder (view s ts) h) 0 k.null, ne_eqb (verdict b xs).no 0 some))
      (a ∙ ap refused (sym no))

  module _ (c : Scanned) (told : (scanned b xs ≡ text.done c.taken) × (c.extent ≡ extent (list_in b xs))) where
    pub good : (verdict b xs).no ≡ 0
    good = ap (λ (v : Answer). v.no) (judged_as told.0)

    pub no_room : (ws : List ℕ) {r : Outcome} → frees (view s ts).cells < c.extent → r ≡ refused NO_ROOM → Reads r ts (used s.form ts ws) (read_into s.form b ts ws h xs)
    no_room ws l a =
        let more : frees (view s ts).cells < extent (list_in b xs) = omega (arith, told.1) in
        nothing NO_ROOM ts (used s.form ts ws) (asked b k.table h xs ws ∙ simp (eq-eqb (holder (view s ts) h) 0 k.null, eq-eqb (verdict b xs).no 0 good, lt-ltb _ _ more)) a

    module _ (l : c.extent ≤ frees (view s ts).cells) where
      pub room : extent (list_in b xs) ≤ frees (view s ts).cells
      room = omega (arith, told.1)

      pub reads : (ws us : List ℕ) {r : Outcome} → Shows s us (read (view s ts) h (list_in b xs)) → r ≡ done c.taken → Reads r us (used s.form ts ws) (read_into s.form b ts ws h xs)
      reads ws us {r} a said =
          let x : Read = record { answer = DONE; count = (verdict b xs).taken; table = words s (read (view s ts) h (list_in b xs)); work = used s.form ts ws } in
          let q : read_into s.form b ts ws h xs ≡ x = asked b k.table h xs ws ∙ simp (eq-eqb (holder (view s ts) h) 0 k.null, eq-eqb (verdict b xs).no 0 good, le-ltb _ _ room) in
          let bytes : c.taken ≡ (verdict b xs).taken = sym (ap (λ (v : Answer). v.taken) (judged_as told.0)) in
          subst (Reads r us (used s.form ts ws)) (sym q) (record { outcome = said ∙ ap done bytes; table = shown-words a; work = refl })

pub entry-refused : (f : Form) (b : Stored) (ts ws : List ℕ) (h : ℕ) (xs : List ℕ) {r : Outcome} {n : ℕ} → TurnedAway work_words f ts (length ws) n → r ≡ refused n → Reads r ts ws (reading_in f b ts ws h xs)
unfolding reading_in
entry-refused f b ts ws h xs k g =
    nothing (entry_fault work_words f ts (length ws)) ts ws (refuses (entry_fault work_words f ts (length ws)) (λ (n : ℕ). not_read n ts ws) _ k.some) (g ∙ ap refused k.is)

-- the form of the shape is the form that was named
pub of_form : {f g : Form} (b : Stored) (ts ws : List ℕ) (h : ℕ) (xs : List ℕ) {r : Outcome} {us vs : List ℕ} → g ≡ f → Reads r us vs (reading_in g b ts ws h xs) → Reads r us vs (reading_in f b ts ws h xs)
of_form b ts ws h xs {r} {us} {vs} e k = subst (λ (f : Form). Reads r us vs (reading_in f b ts ws h xs)) e k

module _ (b : Stored) {s : Shape} {ts : List ℕ} (ws : List ℕ) (h : ℕ) (xs : List ℕ) (o : Provided work_words s ts (length ws)) where
  held_by : holder_count (shape_of s.form ts) ≡ s.holders
  held_by = ap (λ (z : Shape). z.holders) (table_shape s ts o.table)

  -- past the entry, and past the holder
  abbrev sizing : Read
  sizing = unless (size_fault b xs) (λ n. not_read n ts ws) (cond (unsound s.form ts) (not_read UNSOUND ts (used s.form ts ws)) (read_into s.form b ts ws h xs))

  enters : {c : Bool} → no_holder s.form ts h ≡ c → reading_in s.form b ts ws h xs ≡ cond c (not_read HOLDER ts ws) sizing
  unfolding reading_in
  enters e =
      goes_on_lem (entry_fault work_words s.form ts (length ws)) (λ (n : ℕ). not_read n ts ws) _ (passed o.table work_words (length ws) o.long)
      ∙ (λ i. cond (e i) (not_read HOLDER ts ws) sizing)

  pub no_holder_lem : s.holders ≤ h → {r : Outcome} → r ≡ refused HOLDER → Reads r ts ws (reading_in s.form b ts ws h xs)
  no_holder_lem l = nothing HOLDER ts ws (enters (le-leb (holder_count (shape_of s.form ts)) h (omega (arith, held_by))))

  module _ (l : h < s.holders) where
    held : reading_in s.form b ts ws h xs ≡ sizing
    held = enters (lt-leb (holder_count (shape_of s.form ts)) h (omega (arith, held_by)))

    pub wrong_size : {n : ℕ} → n ≡ size_fault b xs → n ≢ DONE → {r : Outcome} → r ≡ refused n → Reads r ts ws (reading_in s.form b ts ws h xs)
    wrong_size e d g = nothing (size_fault b xs) ts ws (held ∙ refuses (size_fault b xs) (λ (n : ℕ). not_read n ts ws) _ (λ z. d (e ∙ z))) (g ∙ ap refused e)

    module _ (z : size_fault b xs ≡ DONE) {us : List ℕ} {c : Bool} (d : Decided s ts ws us c) where
      goes : {a : Bool} → not c ≡ a → reading_in s.form b ts ws h xs ≡ cond a (not_read UNSOUND ts us) (read_into s.form b ts ws h xs)
      goes e =
          let j = judged o.table d in
          held ∙ goes_on_lem (size_fault b xs) (λ (n : ℕ). not_read n ts ws) _ z
          ∙ (λ i. cond ((j.0 ∙ e) i) (not_read UNSOUND ts (sym j.1 i)) (read_into s.form b ts ws h xs))

      pub not_sound : not c ≡ true → {r : Outcome} → r ≡ refused UNSOUND → Reads r ts us (reading_in s.form b ts ws h xs)
      not_sound e = nothing UNSOUND ts us (goes e)

      pub all-passed : not c ≡ false → {r : Outcome} {vs : List ℕ} → Reads r vs (used s.form ts ws) (read_into s.form b ts ws h xs) → Reads r vs us (reading_in s.form b ts ws h xs)
      all-passed e {r} {vs} k = subst (Reads r vs us) (sym (goes e)) (subst (λ (w : List ℕ). Reads r vs w (read_into s.form b ts ws h xs)) (sym (judged o.table d).1) k)
