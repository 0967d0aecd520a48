-- A reading is refused with table as it was, or puts the list of its bytes into a null holder of the sound pool that
-- the table shows.
use Rattle.std.specs.Prelude.{◌≡◌, ◌≢◌, Bool, cond, not, ℕ, ◌≤◌, eqb, ltb, length}
use Rattle.std.proofs.Math.Path.{refl}
use Rattle.std.proofs.Common.{◌∙◌, arith}
use Rattle.std.proofs.Math.Bool.{true, false}
use mathlib.Core.List.{List}
use borrow.Author.Tests.{eqb-true, ltb-false, leb-false, not-false, eq-eqb, le-ltb}
use Rattle.answers.specs.Answers.{DONE, UNSOUND, HOLDER, OCCUPIED, NO_ROOM}
use Rattle.answers.specs.Laws.Unless.{goes_on_lem, both_ways}
use Rattle.lists.specs.Lst.{extent}
use Rattle.pool.specs.Pool.{holder, frees}
use Rattle.pool.specs.Operations.{read}
use Rattle.pool.specs.Laws.Room.{frees-lives}
use Rattle.pool.specs.Laws.Load.{Read, read-does}
use Rattle.table.specs.Limits.{holders_told}
use Rattle.groups.specs.Stored.{size_fault, verdict, list_in}
use Rattle.groups.specs.declared.Stored.{Stored}
use Rattle.calls.specs.Entry.{work_words, entry_fault, no_holder, shown, unsound, stored, used}
use Rattle.calls.specs.Read.{Read as Reading, not_read, reading_in}
use Rattle.promises.specs.Laws.Tables.{Good, entered_good}
use Rattle.table.specs.declared.Form.{Form}

-- the tests before the bytes
pub record Entered (form : Form) (k : Stored) (ts ws : List ℕ) (h : ℕ) (xs : List ℕ) : Type 0 where
  pub entry : entry_fault work_words form ts (length ws) ≡ DONE
  pub held : no_holder form ts h ≡ false
  pub size : size_fault k xs ≡ DONE
  pub sound : unsound form ts ≡ false

pub record Taken (form : Form) (k : Stored) (ts ws : List ℕ) (h : ℕ) (xs : List ℕ) : Type 0 where
  pub entered : Entered form k ts ws h xs
  pub vacant : holder (shown form ts) h ≡ 0
  pub right : (verdict k xs).no ≡ DONE
  pub room : extent (list_in k xs) ≤ frees (shown form ts).cells

module _ (form : Form) (k : Stored) (ts ws : List ℕ) (h : ℕ) (xs : List ℕ) where
  abbrev pub filled_in : Reading
  filled_in = record { answer = DONE; count = (verdict k xs).taken; table = stored form ts (read (shown form ts) h (list_in k xs)); work = used form ts ws }

  abbrev refuse : ℕ → Reading
  refuse n = not_read n ts ws

  abbrev refuse_used : ℕ → Reading
  refuse_used n = not_read n ts (used form ts ws)

  -- the two ways
  pub read_ways : (P : Reading → Type 0) → ((n : ℕ) (us : List ℕ) → n ≢ DONE → P (not_read n ts us)) → (Taken form k ts ws h xs → P filled_in) → P (reading_in form k ts ws h xs)
  unfolding reading_in
  read_ways P f g =
      both_ways (entry_fault work_words form ts (length ws)) refuse _ P (f _ ws) (λ e.
      test HOLDER (no_holder form ts h) refl ws (λ z. omega arith) (λ r.
      both_ways (size_fault k xs) refuse _ P (f _ ws) (λ s.
      test UNSOUND (unsound form ts) refl (used form ts ws) (λ z. omega arith) (λ u.
      test OCCUPIED (not (eqb (holder (shown form ts) h) 0)) refl (used form ts ws) (λ z. omega arith) (λ v.
      both_ways (verdict k xs).no refuse_used _ P (f _ (used form ts ws)) (λ y.
      test NO_ROOM (ltb (frees (shown form ts).cells) (extent (list_in k xs))) refl (used form ts ws) (λ z. omega arith) (λ m.
      g (record {
        entered = record { entry = e; held = r; size = s; sound = u };
        vacant = eqb-true (holder (shown form ts) h) 0 (not-false _ v);
        right = y;
        room = ltb-false (frees (shown form ts).cells) (extent (list_in k xs)) m;
      }))))))))
    where
      test : (n : ℕ) (b : Bool) {c : Bool} → c ≡ b → (us : List ℕ) → n ≢ DONE → {go : Reading} → (c ≡ false → P go) → P (cond b (not_read n ts us) go)
      test n true e us d on = f n us d
      test n false e us d on = on e

  -- nothing in the way: the list is taken
  pub takes : Taken form k ts ws h xs → reading_in form k ts ws h xs ≡ filled_in
  unfolding reading_in
  takes t =
      goes_on_lem (entry_fault work_words form ts (length ws)) refuse _ t.entered.entry ∙ rw t.entered.held (
      goes_on_lem (size_fault k xs) refuse _ t.entered.size ∙ rw (t.entered.sound, eq-eqb (holder (shown form ts) h) 0 t.vacant) (
      goes_on_lem (verdict k xs).no refuse_used _ t.right ∙ rw (le-ltb (frees (shown form ts).cells) (extent (list_in k xs)) t.room)))

  pub reading_good : Entered form k ts ws h xs → Good form ts
  reading_good e = entered_good form ts ws e.entry e.sound

  -- what the pool is then
  pub read-pool : Taken form k ts ws h xs → Read (shown form ts) h (list_in k xs) (read (shown form ts) h (list_in k xs))
  read-pool t =
      let g = reading_good t.entered in
      let below = leb-false (holders_told form ts) h t.entered.held in
      read-does (shown form ts) h (list_in k xs) g.sound (omega (arith, g.table.held)) t.vacant (omega (arith, t.room, frees-lives (shown form ts).cells))
