-- The promises leave one engine: whoever keeps them gives for every input what ours gives, the answer, the number and
-- every lent word.
use Rattle.std.specs.Prelude.{◌≡◌, refl, ◌⊎◌, List, [], ℕ, take, drop}
use Rattle.std.proofs.Common.{sym, ap, ◌∙◌, subst, inl, inr, arith}
use Rattle.std.proofs.Math.Decide.{ℕ_discrete}
use Rattle.answers.specs.Answers.{DONE}
use Rattle.pool.specs.Laws.SoundLaws.{denoted}
use Rattle.calls.specs.Entry.{bad_table, shown, unsound, over}
use Rattle.calls.specs.Run.{Ran, operations, ran_in}
use Rattle.calls.specs.Write.{writing_in}
use Rattle.promises.specs.Engine.{Engine, ours}
use Rattle.promises.specs.Rows.{Row, First, None}
use Rattle.promises.specs.Grounds.{run_rows}
use Rattle.promises.specs.StoredGrounds.{write_rows}
use Rattle.promises.specs.Keeps.{Keeps, ours_keeps}
use Rattle.promises.specs.Laws.Tells.{first-none}
use Rattle.promises.specs.Laws.TestsTell.{tells_table, tells_unsound}
use Rattle.promises.specs.Laws.Tables.{good, fails}
use Rattle.promises.specs.Laws.RunLaws.{passed_good, passes, runs}
use Rattle.promises.specs.OneOutcome.{one_answer}
use Rattle.promises.specs.Same.SameParts.{RanAs, by_parts_run, WroteAs, by_parts_write}
use Rattle.promises.specs.Same.SameRun.{stops_as}
use Rattle.promises.specs.Same.SameRows.{decide, same_first, same_work}
use Rattle.promises.specs.Same.SameSetUp.{same-set_up_answer, same-set_up_table}
use Rattle.promises.specs.Same.SameText.{same_check, same_rest, same_read, same_move}
use Rattle.groups.specs.declared.Stored.{Stored}
use Rattle.table.specs.declared.Form.{Form}

module _ (form : Form) (E : Engine) (K : Keeps form E) where
  same-run : (ts ws ss rs : List ℕ) → E.run ts ws ss rs ≡ ran_in form ts ws ss rs
  same-run ts ws ss rs =
      by_parts_run form ts ws ss rs (go (decide rows [] (λ n. Unit {0}) (ran_in form ts ws ss rs).answer
      ((ours_keeps form).first.run_refusals ts ws ss rs)))
      (record { answer = refl; count = refl; table = refl; work = refl; results = refl })
    where
      rows : List Row
      rows = run_rows form ts ws ss rs

      work : (E.run ts ws ss rs).work ≡ (ran_in form ts ws ss rs).work
      work =
          same_work (take 4 rows) ts ws (E.run ts ws ss rs).work (ran_in form ts ws ss rs).work
          (decide (take 4 rows) (drop 4 rows) (λ n. Unit {0}) (ran_in form ts ws ss rs).answer
          ((ours_keeps form).first.run_refusals ts ws ss rs)) (K.first.run_work ts ws ss rs)
          ((ours_keeps form).first.run_work ts ws ss rs)

      go : None rows ⊎ (None rows → ⊥) → RanAs (ran_in form ts ws ss rs) (E.run ts ws ss rs)
      go (inl n) =
          let h = passes form ts ws ss rs n in
          let (qs, s, e) = K.first.scripts_stop ts ws ss rs n in
          let (x, y, z, v) = stops_as form E K ws (operations ss) (passed_good form h) h.entry s in
          let w = sym (runs form ts ws ss rs h) in
          record {
            answer = x ∙ ap (λ (r : Ran). r.answer) w;
            count = y ∙ ap (λ (r : Ran). r.count) w;
            table = z ∙ ap (λ (r : Ran). r.table) w;
            work = work;
            results = e ∙ ap (λ (ps : List ℕ). over ps rs) v ∙ ap (λ (r : Ran). r.results) w;
          }
      go (inr n) =
          let (t, q, c) = K.first.refused-run ts ws ss rs n in
          let (t', q', c') = (ours_keeps form).first.refused-run ts ws ss rs n in
          record {
            answer =
                same_first rows (λ m. Unit {0}) _ _ (K.first.run_refusals ts ws ss rs)
                ((ours_keeps form).first.run_refusals ts ws ss rs) n;
            count = c ∙ sym c';
            table = t ∙ sym t';
            work = work;
            results = q ∙ sym q';
          }

  same_write : (k : Stored) (ts ws : List ℕ) (h : ℕ) (out : List ℕ) → E.write k ts ws h out ≡ writing_in form k ts ws h out
  same_write k ts ws h out =
      by_parts_write form k ts ws h out (go (ℕ_discrete (writing_in form k ts ws h out).answer DONE))
      (record { answer = refl; count = refl; work = refl; output = refl })
    where
      rows : List Row
      rows = write_rows form k ts ws h out

      answer : (E.write k ts ws h out).answer ≡ (writing_in form k ts ws h out).answer
      answer =
          one_answer rows _ _ (K.first.write_refusals k ts ws h out)
          ((ours_keeps form).first.write_refusals k ts ws h out)

      work : (E.write k ts ws h out).work ≡ (writing_in form k ts ws h out).work
      work =
          same_work (take 3 rows) ts ws (E.write k ts ws h out).work (writing_in form k ts ws h out).work
          (decide (take 3 rows) (drop 3 rows) (λ m. m ≡ DONE) (writing_in form k ts ws h out).answer
          ((ours_keeps form).first.write_refusals k ts ws h out)) (K.first.write_work k ts ws h out)
          ((ours_keeps form).first.write_work k ts ws h out)

      go : Dec ((writing_in form k ts ws h out).answer ≡ DONE) → WroteAs (writing_in form k ts ws h out) (E.write k ts ws h out)
      go (yes e) =
          let (n, _) = first-none rows (λ m. m ≡ DONE) DONE (
            (λ z. omega arith),
            (
              (λ z. omega arith),
              ((λ z. omega arith), ((λ z. omega arith), ((λ z. omega arith), ((λ z. omega arith), tt)))),
            ),
          )
          (subst (First rows (λ m. m ≡ DONE)) e ((ours_keeps form).first.write_refusals k ts ws h out)) in
          let g = good form ts (fails (bad_table form ts) (tells_table form ts) n.0)
          (fails (unsound form ts) (tells_unsound form ts) n.1.1.1.0) in
          let (l, w) = denoted (shown form ts) g.sound h in
          let (o, c) = K.second.writing-gives k ts ws h out l w (answer ∙ e) in
          let (o', c') = (ours_keeps form).second.writing-gives k ts ws h out l w e in
          record { answer = answer; count = c ∙ sym c'; work = work; output = o ∙ sym o' }
      go (no d) =
          let (o, c) = K.first.refused_write k ts ws h out (λ z. d (sym answer ∙ z)) in
          let (o', c') = (ours_keeps form).first.refused_write k ts ws h out d in
          record { answer = answer; count = c ∙ sym c'; work = work; output = o ∙ sym o' }

  pub as_ours : E ≡ ours form
  as_ours = λ i. record {
    set_up =
        λ ts n h. record { answer = same-set_up_answer form E K ts n h i; table = same-set_up_table form E K ts n h i };
    run = λ ts ws ss rs. same-run ts ws ss rs i;
    read = λ k ts ws h xs. same_read form E K k ts ws h xs i;
    write = λ k ts ws h out. same_write k ts ws h out i;
    move = λ k xs out. same_move form E K k xs out i;
    check = λ xs. same_check form E K xs i;
    rest = λ xs. same_rest form E K xs i;
  }
