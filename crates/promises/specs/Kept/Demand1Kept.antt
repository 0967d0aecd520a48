-- Our engine keeps demand 1: each chain of tests is the chain of rows, and a script is its operations one by one.
use Rattle.std.specs.Prelude.{◌≡◌, refl, ◌≢◌, ◌⊎◌, Bool, cond, not, List, [], ◌∷◌, ◌++◌, ℕ, suc, ◌≤◌, ◌<◌, eqb, ltb, length, drop, replicate}
use Rattle.std.proofs.Common.{sym, ap, ◌∙◌, subst, inl, inr, arith, eqb-true, le-ltb}
use Rattle.std.proofs.lemmas.Bool.{eqb-false}
use Rattle.answers.specs.Answers.{DONE, RESULTS, UNSOUND, HOLDER, OCCUPIED, NO_ROOM, OUTPUT, unless}
use Rattle.answers.specs.Codes.{result_words}
use Rattle.answers.specs.Laws.Unless.{both_ways}
use Rattle.lists.specs.Lst.{Lst, extent}
use Rattle.pool.specs.Pool.{Pool, holder, frees, Sound}
use Rattle.pool.specs.Laws.PoolLaws.{ListAt_unique}
use Rattle.pool.specs.Operations.{list_of}
use Rattle.pool.specs.Laws.SoundLaws.{denoted}
use Rattle.pool.specs.Script.{Operation, Run, refusal, effect, goes_on, stops, performed}
use Rattle.pool.specs.Laws.ByCode.{either_way}
use Rattle.pool.proofs.Whole.{effect_alike, effect_sound}
use Rattle.pool.specs.Laws.ScriptLaws.{allowed}
use Rattle.text.specs.Text.{Answer}
use Rattle.groups.specs.Stored.{size_fault, verdict, scanned, list_in, judged}
use Rattle.groups.specs.Laws.StoredLaws.{right-size}
use Rattle.calls.specs.SetUp.{Given}
use Rattle.calls.specs.Entry.{work_words, entry_fault, no_holder, shown, unsound, stored, used, over}
use Rattle.calls.specs.Laws.EntryLaws.{entry_alike}
use Rattle.calls.specs.Run.{Ran, operations, script_fault, not_run, ran_to, ran_in}
use Rattle.calls.specs.Read.{Read as Reading, not_read, reading_in}
use Rattle.calls.specs.Write.{Write, not_written, write_list, writing_in}
use Rattle.promises.specs.Engine.{ours}
use Rattle.promises.specs.Rows.{Row, row, Answers}
use Rattle.promises.specs.Grounds.{Unsound, NoHolder, set_up_rows, entry_rows, script_rows, operation_rows}
use Rattle.promises.specs.StoredGrounds.{size_rows, fault_rows, room_rows, into_rows, write_rows, Has, TooDeep, TooLong, Spells}
use Rattle.promises.specs.Demand1.{words_of, alone, Stops, end, refused, done, Demand1, SetUpRefusals, RunRefusals, ReadRefusals, WriteRefusals, ScriptsStop, RefusedRun}
use Rattle.promises.specs.Laws.Tells.{tells_eq, tells_lt, tells_not, first, unless-first, Tells, tells_as}
use Rattle.promises.specs.Laws.TestsTell.{tells_size, entry_answers, entry_each, script_answers, script_each, tells_unsound, tells_holder}
use Rattle.promises.specs.Laws.StoredRows.{size_answers, size_each, fault_answers, fault_each, spells_once, spells_ours, Judged, judges}
use Rattle.promises.specs.Laws.OperationRows.{operation_answers}
use Rattle.promises.specs.Laws.TextRows.{check_answers, check-refused}
use Rattle.promises.specs.Laws.Tables.{Good, entered_good, stores, stored_good, stored_same, good_sound}
use Rattle.promises.specs.Laws.RunLaws.{Passed, passed_good, passes, passed_none, whole, runs, run_ways}
use Rattle.promises.specs.Laws.ScriptDoes.{one-done}
use Rattle.promises.specs.Laws.ReadLaws.{filled_in, read_ways}
use Rattle.promises.specs.Laws.WriteLaws.{list_of_is, write_ways}
use Rattle.setup.specs.Laws.SetUpLaws.{set_up_ways}
use Rattle.promises.specs.Kept.MoveDoes.{move_rows_lem, refused_moves}
use Rattle.promises.specs.Kept.WorkDoes.{run_work, read_work, write_work}
use Rattle.table.specs.declared.Form.{Form}

set_up_rows_lem : (form : Form) → SetUpRefusals form (ours form)
set_up_rows_lem form ts n h = set_up_ways form ts n h (λ (g : Given). Answers (set_up_rows form ts n h) g.answer)
    (λ e. inr ((tells_size form h n (length ts)).1 (ap not e), refl))
    (λ e. inl ((tells_size form h n (length ts)).0 (ap not e), refl))

abbrev of_run : Ran → ℕ
of_run r = r.answer

run-rows : (form : Form) → RunRefusals form (ours form)
unfolding ran_in
run-rows form ts ws ss rs =
    unless-first (entry_rows work_words form ts ws) (script_rows ss rs ++ last) (entry_fault work_words form ts (length ws)) (entry_each work_words form ts ws) (entry_answers work_words form ts ws) of_run any refuse sizing (λ _. refl) (λ _.
    unless-first (script_rows ss rs) last (script_fault ss rs) (script_each ss rs) (script_answers ss rs) of_run any refuse sounding (λ _. refl) (λ _.
    first of_run any (unsound form ts) (not_run UNSOUND ts (used form ts ws) rs) (whole form ts ws ss rs) (tells_unsound form ts) refl (λ _. tt)))
  where
    any : ℕ → Type 0
    any n = Unit {0}

    last : List Row
    last = row UNSOUND (Unsound form ts) ∷ []

    refuse : ℕ → Ran
    refuse n = not_run n ts ws rs

    sounding : Ran
    sounding = cond (unsound form ts) (not_run UNSOUND ts (used form ts ws) rs) (whole form ts ws ss rs)

    sizing : Ran
    sizing = unless (script_fault ss rs) refuse sounding

abbrev of_read : Reading → ℕ
of_read r = r.answer

read-rows : (form : Form) → ReadRefusals form (ours form)
unfolding reading_in
read-rows form k ts ws h xs =
    unless-first (entry_rows work_words form ts ws) (row HOLDER (NoHolder (shown form ts) h) ∷ size_rows k xs ++ into_rows form k ts h xs) (entry_fault work_words form ts (length ws)) (entry_each work_words form ts ws) (entry_answers work_words form ts ws) of_read done? refuse holding (λ _. refl) (λ _.
    first of_read (Answers (size_rows k xs ++ into_rows form k ts h xs)) (no_holder form ts h) (not_read HOLDER ts ws) sizing (tells_holder form ts h) refl (λ _.
    unless-first (size_rows k xs) (into_rows form k ts h xs) (size_fault k xs) (size_each k xs) (size_answers k xs) of_read done? refuse sounding (λ _. refl) (λ s.
    first of_read (Answers (drop 1 (into_rows form k ts h xs))) (unsound form ts) (not_read UNSOUND ts (used form ts ws)) filling (tells_unsound form ts) refl (λ _.
    first of_read (Answers (fault_rows k xs ++ room_rows form k ts xs)) (not (eqb (holder (shown form ts) h) 0)) (not_read OCCUPIED ts (used form ts ws)) judging (tells_not (eqb (holder (shown form ts) h) 0) (tells_eq (holder (shown form ts) h) 0)) refl (λ _.
    unless-first (fault_rows k xs) (room_rows form k ts xs) (verdict k xs).no (fault_each k xs) (faults (right-size k xs s)) of_read done? refuse_used fitting (λ _. refl) (λ e.
    first of_read done? (ltb (frees (shown form ts).cells) (extent (list_in k xs))) (not_read NO_ROOM ts (used form ts ws)) (filled_in form k ts ws h xs) (tells_room-read e) refl (λ _. refl)))))))
  where
    done? : ℕ → Type 0
    done? m = m ≡ DONE

    refuse : ℕ → Reading
    refuse n = not_read n ts ws

    refuse_used : ℕ → Reading
    refuse_used n = not_read n ts (used form ts ws)

    -- what is left of the call, test by test from the last
    fitting : Reading
    fitting = cond (ltb (frees (shown form ts).cells) (extent (list_in k xs))) (not_read NO_ROOM ts (used form ts ws)) (filled_in form k ts ws h xs)

    judging : Reading
    judging = unless (verdict k xs).no refuse_used fitting

    filling : Reading
    filling = cond (not (eqb (holder (shown form ts) h) 0)) (not_read OCCUPIED ts (used form ts ws)) judging

    sounding : Reading
    sounding = cond (unsound form ts) (not_read UNSOUND ts (used form ts ws)) filling

    sizing : Reading
    sizing = unless (size_fault k xs) refuse sounding

    holding : Reading
    holding = cond (no_holder form ts h) (not_read HOLDER ts ws) sizing

    faults : verdict k xs ≡ scanned k xs → Answers (fault_rows k xs) (verdict k xs).no
    faults e = subst (λ (r : Answer). Answers (fault_rows k xs) r.no) (sym e) (fault_answers k xs)

    -- the list of the bytes is one, and it is the one read
    tells_room-read : (verdict k xs).no ≡ DONE → Tells (ltb (frees (shown form ts).cells) (extent (list_in k xs))) ((m : ℕ) × (l : Lst) × Spells k xs m l × (frees (shown form ts).cells < extent l))
    tells_room-read e =
        let w = spells_ours k xs e in
        tells_as (tells_lt (frees (shown form ts).cells) (extent (list_in k xs))) (λ f. ((verdict k xs).taken, list_in k xs, w, f))
        (λ (m, l, d, f). subst (λ (j : Lst). frees (shown form ts).cells < extent j) (spells_once k xs m (verdict k xs).taken l (list_in k xs) d w).1 f)

abbrev of_write : Write → ℕ
of_write r = r.answer

write_rows_lem : (form : Form) → WriteRefusals form (ours form)
unfolding writing_in
write_rows_lem form k ts ws h out =
    unless-first (entry_rows work_words form ts ws) (drop 2 (write_rows form k ts ws h out)) (entry_fault work_words form ts (length ws)) (entry_each work_words form ts ws) (entry_answers work_words form ts ws) of_write (λ m. m ≡ DONE) (λ (n : ℕ). not_written n ws out) holding (λ _. refl) (λ e.
    first of_write (later 3) (no_holder form ts h) (not_written HOLDER ws out) sounding (tells_holder form ts h) refl (λ _.
    first of_write (later 4) (unsound form ts) (not_written UNSOUND (used form ts ws) out) (write_list k (list_of (shown form ts) h) (used form ts ws) out) (tells_unsound form ts) refl (λ u. bytes (entered_good form ts ws e u).sound)))
  where
    later : ℕ → ℕ → Type 0
    later j = Answers (drop j (write_rows form k ts ws h out))

    sounding : Write
    sounding = cond (unsound form ts) (not_written UNSOUND (used form ts ws) out) (write_list k (list_of (shown form ts) h) (used form ts ws) out)

    holding : Write
    holding = cond (no_holder form ts h) (not_written HOLDER ws out) sounding

    -- the answer is the judgement, whatever it is
    answered : (n : ℕ) (y : Write) → y.answer ≡ DONE → (unless n (λ (m : ℕ). not_written m (used form ts ws) out) y).answer ≡ n
    answered n y e = both_ways n (λ (m : ℕ). not_written m (used form ts ws) out) y (λ (w : Write). w.answer ≡ n) (λ d. refl) (λ z. e ∙ sym z)

    bytes : Sound (shown form ts) → later 4 (write_list k (list_of (shown form ts) h) (used form ts ws) out).answer
    bytes s =
        let (l, w) = denoted (shown form ts) s h in
        let e : list_of (shown form ts) h ≡ l = list_of_is (shown form ts) h l s w in
        subst (λ (j : Lst). later 4 (write_list k j (used form ts ws) out).answer) (sym e)
        (subst (later 4) (sym (answered (judged k (length out) l) _ refl)) (rows l w (judges k (length out) l)))
      where
        rows : (l : Lst) → Has form ts h l → Judged k (length out) l (judged k (length out) l) → later 4 (judged k (length out) l)
        rows l w (inl (d, e)) = inl ((l, w, d), e)
        rows l w (inr (d, r)) = inr ((λ n. d (same (TooDeep k (length out)) n)), rest r)
          where
            same : (P : Lst → Type 0) → (m : Lst) × Has form ts h m × P m → P l
            same P (m, u, n) = subst P (ListAt_unique (shown form ts).cells (holder (shown form ts) h) m l u w) n

            rest : (TooLong k (length out) l × (judged k (length out) l ≡ OUTPUT)) ⊎ ((TooLong k (length out) l → ⊥) × (judged k (length out) l ≡ DONE)) → later 5 (judged k (length out) l)
            rest (inl (n, e)) = inl ((l, w, n), e)
            rest (inr (n, e)) = inr ((λ m. n (same (TooLong k (length out)) m)), e)

-- a script

abbrev zeros : List ℕ
zeros = replicate result_words 0

-- a script of one operation
pub one_fits : (o : Operation) (rs : List ℕ) → result_words ≤ length rs → script_fault (words_of o) rs ≡ DONE
unfolding script_fault
one_fits o rs l = ap (λ (b : Bool). cond b RESULTS DONE) (le-ltb (length rs) result_words l)

pub one_passes : (form : Form) → (ts ws : List ℕ) (o : Operation) → Good form ts → entry_fault work_words form ts (length ws) ≡ DONE → Passed form ts ws (words_of o) zeros
one_passes form ts ws o g w = record { entry = w; script = one_fits o zeros (omega arith); sound = good_sound form ts g }

one-done-run : (form : Form) → (ts ws : List ℕ) (o : Operation) → Good form ts → entry_fault work_words form ts (length ws) ≡ DONE → refusal (shown form ts) o ≡ DONE
    → alone (ours form) ws ts o ≡ ran_to form (goes_on (effect (shown form ts) o) (stops (effect (shown form ts) o).pool DONE)) ts ws zeros
unfolding operations
one-done-run form ts ws o g w e = runs form ts ws (words_of o) zeros (one_passes form ts ws o g w) ∙ ap (λ (r : Run). ran_to form r ts ws zeros) (one-done (shown form ts) o e)

stops-from : (form : Form) → (ws : List ℕ) (os : List Operation) (ts : List ℕ) → Good form ts → entry_fault work_words form ts (length ws) ≡ DONE → let r = performed (shown form ts) os in Stops form (ours form) ws ts os r.answer r.done (stored form ts r.pool) r.results
unfolding performed
stops-from form ws [] ts g w = subst (λ (us : List ℕ). Stops form (ours form) ws ts [] DONE 0 us []) (sym (stored_same form ts g.table)) end
stops-from form ws (o ∷ os) ts g w = either_way (λ (r : Run). Stops form (ours form) ws ts (o ∷ os) r.answer r.done (stored form ts r.pool) r.results) (eqb (refusal p o) DONE) (goes_on (effect p o) (performed q os)) (stops p (refusal p o))
    (λ e. on (eqb-true (refusal p o) DONE e) (stops-from form ws os (stored form ts q)))
    (λ e. subst (λ (us : List ℕ). Stops form (ours form) ws ts (o ∷ os) (refusal p o) 0 us []) (sym (stored_same form ts g.table)) (refused rows (eqb-false (refusal p o) DONE e)))
  where
    p : Pool
    p = shown form ts

    q : Pool
    q = (effect (shown form ts) o).pool

    rows : Answers (operation_rows (shown form ts) o) (refusal (shown form ts) o)
    rows = operation_answers (shown form ts) o g.sound

    on : refusal (shown form ts) o ≡ DONE → (Good form (stored form ts q) → entry_fault work_words form (stored form ts q) (length ws) ≡ DONE → let r = performed (shown form (stored form ts q)) os in Stops form (ours form) ws (stored form ts q) os r.answer r.done (stored form (stored form ts q) r.pool) r.results)
        → let r = performed q os in Stops form (ours form) ws ts (o ∷ os) r.answer (suc r.done) (stored form ts r.pool) ((effect (shown form ts) o).kind ∷ (effect (shown form ts) o).value ∷ r.results)
    on e ih =
        let st = stores form ts q g.table (effect_alike (shown form ts) o) (effect_sound (shown form ts) o g.sound (allowed (shown form ts) o e)) in
        let r = performed q os in
        let us = stored form ts q in
        let one = one-done-run form ts ws o g w e in
        let k0 = ih (stored_good form ts q st (effect_sound (shown form ts) o g.sound (allowed (shown form ts) o e))) (entry_alike work_words (length ws) form form (stored form ts q) ts st.cells ∙ w) in
        let k1 : Stops form (ours form) ws us os r.answer r.done (stored form us r.pool) r.results
        = subst (λ (z : Pool). let y = performed z os in Stops form (ours form) ws us os y.answer y.done (stored form us y.pool) y.results) st.shows k0 in
        let k2 : Stops form (ours form) ws us os r.answer r.done (stored form ts r.pool) r.results
        = subst (λ (vs : List ℕ). Stops form (ours form) ws us os r.answer r.done vs r.results) (st.again r.pool) k1 in
        let k3 : Stops form (ours form) ws (alone (ours form) ws ts o).table os r.answer r.done (stored form ts r.pool) r.results
        = subst (λ (vs : List ℕ). Stops form (ours form) ws vs os r.answer r.done (stored form ts r.pool) r.results) (sym (ap (λ (y : Ran). y.table) one)) k2 in
        subst (λ (qs : List ℕ). Stops form (ours form) ws ts (o ∷ os) r.answer (suc r.done) (stored form ts r.pool) qs) (ap (λ (y : Ran). y.results ++ r.results) one)
        (done (subst (Answers (operation_rows (shown form ts) o)) e rows) k3)

script_stops : (form : Form) → ScriptsStop form (ours form)
script_stops form ts ws ss rs n =
    let h = passes form ts ws ss rs n in
    subst (λ (r : Ran). (qs : List ℕ) × Stops form (ours form) ws ts (operations ss) r.answer r.count r.table qs × (r.results ≡ over qs rs)) (sym (runs form ts ws ss rs h))
    ((performed (shown form ts) (operations ss)).results, stops-from form ws (operations ss) ts (passed_good form h) h.entry, refl)

-- refused calls

run-refused : (form : Form) → RefusedRun form (ours form)
run-refused form ts ws ss rs m = run_ways form ts ws ss rs (λ (r : Ran). (r.table ≡ ts) × (r.results ≡ rs) × (r.count ≡ 0)) (λ n us _. (refl, refl, refl)) (λ h. absurd (m (passed_none form ts ws ss rs h)))

pub demand1 : (form : Form) → Demand1 form (ours form)
demand1 form = record {
  set_up_refusals = set_up_rows_lem form;
  run_refusals = run-rows form;
  read_refusals = read-rows form;
  write_refusals = write_rows_lem form;
  move_refusals = move_rows_lem form;
  check_refusals = check_answers;
  refused-set_up = λ ts n h. set_up_ways form ts n h (λ (g : Given). g.answer ≢ DONE → g.table ≡ ts) (λ e m. absurd (m refl)) (λ e m. refl);
  refused-run = run-refused form;
  refused-read = λ k ts ws h xs. read_ways form k ts ws h xs (λ (r : Reading). r.answer ≢ DONE → (r.table ≡ ts) × (r.count ≡ 0)) (λ n us m _. (refl, refl)) (λ t m. absurd (m refl));
  refused_write = λ k ts ws h out. write_ways form k ts ws h out (λ (r : Write). r.answer ≢ DONE → (r.output ≡ out) × (r.count ≡ 0)) (λ n us m _. (refl, refl)) (λ o l e j m. absurd (m refl));
  refused_move = refused_moves form;
  refused-check = check-refused;
  run_work = run_work form;
  read_work = read_work form;
  write_work = write_work form;
  scripts_stop = script_stops form;
}
