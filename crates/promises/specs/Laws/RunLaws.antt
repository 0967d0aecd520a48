-- A script run is refused at its first tests, or performs its operations on the sound pool that the table shows.
use Rattle.std.specs.Prelude.{◌≡◌, refl, ◌≢◌, Bool, cond, List, [], ◌∷◌, ◌++◌, ℕ, length}
use Rattle.std.proofs.Common.{◌∙◌, arith}
use Rattle.std.proofs.Math.Bool.{true, false}
use Rattle.answers.specs.Answers.{DONE, UNSOUND}
use Rattle.answers.specs.Laws.Unless.{goes_on_lem, both_ways}
use Rattle.pool.specs.Script.{performed}
use Rattle.calls.specs.Entry.{work_words, entry_fault, shown, unsound, used}
use Rattle.calls.specs.Run.{Ran, operations, script_fault, not_run, ran_to, ran_in}
use Rattle.promises.specs.Rows.{Row, row, None}
use Rattle.promises.specs.Grounds.{Unsound, entry_rows, script_rows, run_rows}
use Rattle.promises.specs.Laws.Tells.{none_both, none-answered, answered-none}
use Rattle.promises.specs.Laws.TestsTell.{entry_answers, entry_each, script_answers, script_each, tells_unsound}
use Rattle.promises.specs.Laws.Tables.{Good, entered_good, fails}
use Rattle.table.specs.declared.Form.{Form}

pub record Passed (form : Form) (ts ws ss rs : List ℕ) : Type 0 where
  pub entry : entry_fault work_words form ts (length ws) ≡ DONE
  pub script : script_fault ss rs ≡ DONE
  pub sound : unsound form ts ≡ false

pub passed_good : (form : Form) → {ts ws ss rs : List ℕ} → Passed form ts ws ss rs → Good form ts
passed_good form {ts} {ws} h = entered_good form ts ws h.entry h.sound

module _ (form : Form) (ts ws ss rs : List ℕ) where
  abbrev rows : List Row
  rows = row UNSOUND (Unsound form ts) ∷ []

  pub passes : None (run_rows form ts ws ss rs) → Passed form ts ws ss rs
  passes n =
      let (e, m) = (none_both (entry_rows work_words form ts ws) (script_rows ss rs ++ rows)).1 n in
      let (s, u) = (none_both (script_rows ss rs) rows).1 m in
      record {
        entry = none-answered (entry_rows work_words form ts ws) _ e (entry_answers work_words form ts ws);
        script = none-answered (script_rows ss rs) _ s (script_answers ss rs);
        sound = fails (unsound form ts) (tells_unsound form ts) u.0;
      }

  pub passed_none : Passed form ts ws ss rs → None (run_rows form ts ws ss rs)
  passed_none h =
      (none_both (entry_rows work_words form ts ws) (script_rows ss rs ++ rows)).0 (
        answered-none (entry_rows work_words form ts ws) _ (entry_each work_words form ts ws) (entry_answers work_words form ts ws) h.entry,
        (none_both (script_rows ss rs) rows).0 (answered-none (script_rows ss rs) _ (script_each ss rs) (script_answers ss rs) h.script, ((tells_unsound form ts).1 h.sound, tt)),
      )

  abbrev pub whole : Ran
  whole = ran_to form (performed (shown form ts) (operations ss)) ts ws rs

  abbrev refuse : ℕ → Ran
  refuse n = not_run n ts ws rs

  -- the two ways
  pub run_ways : (P : Ran → Type 0) → ((n : ℕ) (us : List ℕ) → n ≢ DONE → P (not_run n ts us rs)) → (Passed form ts ws ss rs → P whole) → P (ran_in form ts ws ss rs)
  unfolding ran_in
  run_ways P f g =
      both_ways (entry_fault work_words form ts (length ws)) refuse _ P (f _ ws) (λ e.
      both_ways (script_fault ss rs) refuse _ P (f _ ws) (λ s. last e s (unsound form ts) refl))
    where
      last : entry_fault work_words form ts (length ws) ≡ DONE → script_fault ss rs ≡ DONE → (b : Bool) → unsound form ts ≡ b → P (cond b (not_run UNSOUND ts (used form ts ws) rs) whole)
      last e s true u = f UNSOUND (used form ts ws) (λ z. omega arith)
      last e s false u = g (record { entry = e; script = s; sound = u })

  pub runs : Passed form ts ws ss rs → ran_in form ts ws ss rs ≡ whole
  unfolding ran_in
  runs h = goes_on_lem (entry_fault work_words form ts (length ws)) refuse _ h.entry ∙ goes_on_lem (script_fault ss rs) refuse _ h.script ∙ rw h.sound
