-- A writing is refused with the output as it was, or writes the bytes of the list that the holder has.
use Rattle.std.specs.Prelude.{◌≡◌, ◌≢◌, Bool, cond, List, ℕ, length}
use Rattle.std.proofs.Math.Path.{refl}
use Rattle.std.proofs.Common.{◌∙◌, arith}
use Rattle.std.proofs.Math.Bool.{true, false}
use Rattle.answers.specs.Answers.{DONE, UNSOUND, HOLDER}
use Rattle.answers.specs.Laws.Unless.{goes_on_lem, both_ways}
use Rattle.lists.specs.Lst.{Lst}
use Rattle.pool.specs.Tally.{occ}
use Rattle.pool.specs.Pool.{Pool, holder, ListAt, Sound}
use Rattle.pool.specs.Operations.{list_of}
use Rattle.pool.specs.Laws.Reach.{path_le, list_from_is}
use Rattle.pool.specs.Laws.SoundLaws.{none_aside, sound_held}
use Rattle.groups.specs.Stored.{bytes_of, judged}
use Rattle.groups.specs.declared.Stored.{Stored}
use Rattle.calls.specs.Entry.{work_words, entry_fault, no_holder, shown, unsound, used, over}
use Rattle.calls.specs.Write.{Write, not_written, write_list, writing_in}
use Rattle.promises.specs.Laws.Tables.{Good, entered_good}
use Rattle.table.specs.declared.Form.{Form}

-- the list of a holder is the one that is read off
pub list_of_is : (p : Pool) (h : ℕ) (l : Lst) → Sound p → ListAt p.cells (holder p h) l → list_of p h ≡ l
list_of_is p h l s w = list_from_is l (length p.cells) p.cells (holder p h) (path_le p.free p.cells (occ p.holders) none_aside (sound_held p s) l (holder p h) w) w

pub record Opened (form : Form) (ts ws : List ℕ) (h : ℕ) : Type 0 where
  pub entry : entry_fault work_words form ts (length ws) ≡ DONE
  pub held : no_holder form ts h ≡ false
  pub sound : unsound form ts ≡ false

pub opened_good : (form : Form) → {ts ws : List ℕ} {h : ℕ} → Opened form ts ws h → Good form ts
opened_good form {ts} {ws} o = entered_good form ts ws o.entry o.sound

module _ (form : Form) (k : Stored) (ts ws : List ℕ) (h : ℕ) (out : List ℕ) where
  abbrev refuse : ℕ → Write
  refuse n = not_written n ws out

  abbrev accepted : Lst → Write
  accepted l = record { answer = DONE; count = length (bytes_of k l); work = used form ts ws; output = over (bytes_of k l) out }

  pub opens : Opened form ts ws h → writing_in form k ts ws h out ≡ write_list k (list_of (shown form ts) h) (used form ts ws) out
  unfolding writing_in
  opens o = goes_on_lem (entry_fault work_words form ts (length ws)) refuse _ o.entry ∙ rw (o.held, o.sound)

  -- the two ways
  pub write_ways : (P : Write → Type 0) → ((n : ℕ) (us : List ℕ) → n ≢ DONE → P (not_written n us out))
      → (Opened form ts ws h → (l : Lst) → list_of (shown form ts) h ≡ l → judged k (length out) l ≡ DONE → P (accepted l))
      → P (writing_in form k ts ws h out)
  unfolding writing_in
  write_ways P f g = both_ways (entry_fault work_words form ts (length ws)) refuse _ P (f _ ws) (λ e. go e (no_holder form ts h) (unsound form ts) refl refl)
    where
      go : entry_fault work_words form ts (length ws) ≡ DONE → (c d : Bool) → no_holder form ts h ≡ c → unsound form ts ≡ d
          → P (cond c (not_written HOLDER ws out) (cond d (not_written UNSOUND (used form ts ws) out) (write_list k (list_of (shown form ts) h) (used form ts ws) out)))
      go e true d r s = f HOLDER ws (λ z. omega arith)
      go e false true r s = f UNSOUND (used form ts ws) (λ z. omega arith)
      go e false false r s =
          both_ways (judged k (length out) (list_of (shown form ts) h)) (λ (n : ℕ). not_written n (used form ts ws) out) _ P (f _ (used form ts ws))
          (g (record { entry = e; held = r; sound = s }) (list_of (shown form ts) h) refl)
