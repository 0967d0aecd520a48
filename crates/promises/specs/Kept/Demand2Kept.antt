-- Our engine keeps demand 2: operations and scripts follow the machine, reading and writing follow the text form and undo each other.
use Rattle.std.specs.Prelude.{◌≡◌, refl, false, List, [], ℕ, ◌*◌, ◌≤◌, ◌<◌, leb, length, take, drop}
use Rattle.std.proofs.Common.{sym, ap, ◌∙◌, subst, arith}
use Rattle.std.proofs.Math.Seq.{take-append_seam}
use package.borrow.Author.Tests.{lt-leb, eq-eqb, ne_eqb}
use Rattle.answers.specs.Answers.{DONE}
use Rattle.lists.specs.Lst.{Lst, extent}
use Rattle.pool.specs.Pool.{Pool, frees}
use Rattle.pool.specs.Operations.{read}
use Rattle.pool.specs.Script.{performed}
use Rattle.pool.specs.Laws.ScriptLaws.{allowed}
use Rattle.table.specs.Limits.{holders_told}
use Rattle.text.specs.Text.{Answer, others}
use Rattle.text.specs.Laws.Rest.{rest-refused, rest-blank, rest_more}
use Rattle.groups.specs.Stored.{verdict, list_in, bytes_of, judged}
use Rattle.groups.specs.declared.Stored.{Stored}
use Rattle.groups.specs.declared.Stored.TheVariants.{Text}
use Rattle.calls.specs.Entry.{work_words, bad_table, entry_fault, no_holder, shown, unsound, stored, used, over}
use Rattle.calls.specs.Run.{Ran, operations, ran_in}
use Rattle.calls.specs.Laws.EntryLaws.{entry_tests, passed}
use Rattle.calls.specs.Read.{Read as Reading, reading_in}
use Rattle.calls.specs.Write.{Write, write_list, writing_in}
use Rattle.promises.specs.Engine.{ours}
use Rattle.table.specs.Limits.{cells_told}
use Rattle.promises.specs.StoredGrounds.{Has, Spells, spelling, Anew}
use Rattle.promises.specs.Machine.{Lists, assign, turn, turn_all, Says}
use Rattle.promises.specs.Demand1.{words_of}
use Rattle.promises.specs.Demand2.{Holds, Ready, Demand2, OperationsGive, OthersStay, ScriptsGive, ReadingGives, CheckingGives, RestGives, WritingGives, WrittenReadsBack, ReadWritesBack}
use Rattle.promises.specs.Laws.TestsTell.{shown_holders, tells_table, tells_unsound, cells_told_lem}
use Rattle.promises.specs.Laws.TextRows.{check_takes}
use Rattle.promises.specs.Laws.OperationLaws.{HoldsIn, operation-does, assigned}
use Rattle.promises.specs.Laws.Tables.{Good, good, stored_good, good_table, good_sound, fails}
use Rattle.promises.specs.Laws.RunLaws.{passed_good, run_ways}
use Rattle.promises.specs.Laws.ScriptDoes.{script_does, turn-other}
use Rattle.promises.specs.Laws.ReadLaws.{Taken, filled_in, read_ways, takes, read-pool}
use Rattle.promises.specs.Laws.WriteLaws.{Opened, opened_good, opens, list_of_is, write_ways}
use Rattle.promises.specs.Laws.OneOperation.{one-accepted, effect-stored}
use Rattle.promises.specs.Laws.Invariant.{ran-stored, read-stored, read_alike, read_has}
use Rattle.promises.specs.Kept.CellsDo.{sizes_stay, holders_stay, prefix_takes, prefix_list_takes, decap-frees, adv_erases, borrow_shares, erase_erases}
use Rattle.promises.specs.Kept.LevelsDo.{inv-turns_cells, cinv-copies_cells, conc_joins_cells, asking-leaves, reading_uses}
use Rattle.promises.specs.Kept.CellsStay.{live_cells_stay}
use Rattle.promises.specs.Kept.SetUpDoes.{set_up_gives}
use Rattle.promises.specs.Laws.TextOnce as text
use Rattle.promises.specs.Laws.StoredRows.{spells_ours}
use Rattle.promises.specs.Laws.StoredTrips.{spelt, accepted-size, shallow_writes, written_read, read-written, written_anew}
use Rattle.promises.specs.Laws.Atoms.{word_fits}
use Rattle.promises.specs.Kept.MoveDoes.{read_alike_forms, moves_give, goes_home, as_tables}
use Rattle.table.specs.declared.Form.{Form}

-- operations and scripts

operation-gives : (form : Form) → OperationsGive form (ours form)
operation-gives form ts ws rs o m k e =
    let a = one-accepted form ts ws rs o e in
    let d = operation-does (shown form ts) o a.good.sound (allowed (shown form ts) o a.allows) in
    let (n, w) = d.words m k in (
      subst (λ (us : List ℕ). Holds form us (turn m o)) (sym a.table) (subst (λ (q : Pool). HoldsIn q (turn m o)) (sym (effect-stored form ts o a.good a.allows).shows) (d.lists m k)),
      (n, a.results ∙ ap (λ (qs : List ℕ). over qs rs) w),
    )

others_stay : (form : Form) → OthersStay form (ours form)
others_stay form ts ws rs o m k e i na nb = subst (Has form (ran_in form ts ws (words_of o) rs).table i) (turn-other m o i na nb) ((operation-gives form ts ws rs o m k e).0 i)

script_gives : (form : Form) → ScriptsGive form (ours form)
unfolding turn_all Says
script_gives form ts ws ss rs m k =
    run_ways form ts ws ss rs (λ (r : Ran). let os = take r.count (operations ss) in Holds form r.table (turn_all m os) × ((qs : List ℕ) × Says m os qs × (r.results ≡ over qs rs)))
    (λ n us _. (k, ([], refl, refl)))
    (λ h.
    let d = script_does (operations ss) (shown form ts) m (passed_good form h).sound k in
    let r = performed (shown form ts) (operations ss) in
    (subst (λ (q : Pool). HoldsIn q (turn_all m (take r.done (operations ss)))) (sym (ran-stored form h).shows) d.lists, (r.results, d.words, refl)))

-- reading and writing

read_holds : (form : Form) (b : Stored) (ts ws : List ℕ) (h : ℕ) (xs : List ℕ) (m : Lists) → Holds form ts m → Taken form b ts ws h xs → Holds form (filled_in form b ts ws h xs).table (assign m h (list_in b xs))
read_holds form b ts ws h xs m k t =
    let d = read-pool form b ts ws h xs t in
    subst (λ (q : Pool). HoldsIn q (assign m h (list_in b xs))) (sym (read-stored form t).shows)
    (assigned (read (shown form ts) h (list_in b xs)) m h (list_in b xs) d.gets (λ i n. d.others i (m i) n (k i)))

reading : (form : Form) → ReadingGives form (ours form)
reading form b ts ws h xs m k =
    read_ways form b ts ws h xs (λ (r : Reading). r.answer ≡ DONE → (l : Lst) × Spells b xs r.count l × Holds form r.table (assign m h l)) (λ n us d e. absurd (d e))
    (λ t e. (list_in b xs, spells_ours b xs t.right, read_holds form b ts ws h xs m k t))

checking : (form : Form) → CheckingGives (ours form)
checking form xs e = let (t, r, q) = (text.spells_ours xs e).1 in (list_in Text xs, t, r, q)

after_list : (form : Form) → RestGives (ours form)
after_list form xs =
    let left = others (drop (verdict Text xs).taken xs) in
    ((λ e more. rest_more xs e (ne_eqb left 0 more)), (λ e none. rest-blank xs e (eq-eqb left 0 none)), rest-refused xs)

abbrev writing : (form : Form) → Stored → List ℕ → List ℕ → Lst → List ℕ → Write
writing form b ts ws l out = record { answer = DONE; count = length (bytes_of b l); work = used form ts ws; output = over (bytes_of b l) out }

writes_list : (form : Form) (b : Stored) (ts ws : List ℕ) (h : ℕ) (out : List ℕ) (l : Lst) → Opened form ts ws h → Has form ts h l → judged b (length out) l ≡ DONE → writing_in form b ts ws h out ≡ writing form b ts ws l out
writes_list form b ts ws h out l o w j =
    opens form b ts ws h out o ∙ ap (λ (k : Lst). write_list b k (used form ts ws) out) (list_of_is (shown form ts) h l (opened_good form o).sound w) ∙ rw (eq-eqb (judged b (length out) l) DONE j)

written_out : (form : Form) → WritingGives form (ours form)
written_out form b ts ws h out l w =
    write_ways form b ts ws h out (λ (r : Write). r.answer ≡ DONE → (r.output ≡ over (spelling b l) out) × (r.count ≡ length (spelling b l))) (λ n us d e. absurd (d e))
    (λ o k e j _. let q : bytes_of b k ≡ spelling b l = ap (bytes_of b) (sym e ∙ list_of_is (shown form ts) h l (opened_good form o).sound w) ∙ sym (spelt b l) in (ap (λ (z : List ℕ). over z out) q, ap length q))

-- a table lent with work space enough passes the first tests
ready_good : (form : Form) → {ts ws : List ℕ} → Ready form ts ws → Good form ts
ready_good form {ts} r = good form ts (fails (bad_table form ts) (tells_table form ts) r.table) (fails (unsound form ts) (tells_unsound form ts) (λ u. u r.sound))

ready_work : (form : Form) → (ts ws : List ℕ) → Good form ts → work_words * cells_told ts ≤ length ws → entry_fault work_words form ts (length ws) ≡ DONE
ready_work form ts ws g l = let e = cells_told_lem form ts (good_table form ts g) in passed g.table work_words (length ws) (omega arith)

-- the round trips

below : (form : Form) → (ts : List ℕ) (h : ℕ) → h < length (shown form ts).holders → no_holder form ts h ≡ false
below form ts h l = lt-leb (holders_told form ts) h (subst (λ (n : ℕ). h < n) (shown_holders form ts) l)

back_again : (form : Form) → WrittenReadsBack form (ours form)
back_again form b ts ws out us vs h k l words t lh w d f u lk z room =
    let g = ready_good form t in
    let j = shallow_writes b (length out) l d f in
    let e = writes_list form b ts ws h out l (record { entry = ready_work form ts ws g t.work; held = below form ts h lh; sound = good_sound form ts g }) w j in
    let (right, same) = written_read b (length out) l (word_fits form ts h l words g w) j in
    let xs = bytes_of b l in
    let i = ready_good form u in
    let takes_it : Taken form b us vs k xs = record {
      entered = record { entry = ready_work form us vs i u.work; held = below form us k lk; size = accepted-size b xs (length xs) right; sound = good_sound form us i };
      vacant = z;
      right = ap (λ (a : Answer). a.no) right;
      room = subst (λ (m : Lst). extent m ≤ frees (shown form us).cells) (sym same) room;
    } in
    let cut : take (length xs) (over xs out) ≡ xs = take-append_seam xs (drop (length xs) out) in
    subst (λ (y : Write). let r = reading_in form b us vs k (take y.count y.output) in (y.answer ≡ DONE) × (r.answer ≡ DONE) × (r.count ≡ y.count) × Has form r.table k l) (sym e)
    (subst (λ (ys : List ℕ). let r = reading_in form b us vs k ys in (DONE ≡ DONE) × (r.answer ≡ DONE) × (r.count ≡ length xs) × Has form r.table k l) (sym cut)
    (subst (λ (r : Reading). (DONE ≡ DONE) × (r.answer ≡ DONE) × (r.count ≡ length xs) × Has form r.table k l) (sym (takes form b us vs k xs takes_it))
    (refl, refl, ap (λ (a : Answer). a.taken) right, subst (Has form (filled_in form b us vs k xs).table k) same (read_has form takes_it))))

-- the holders that are shown are as many as before
held_as : (form : Form) → (ts us : List ℕ) (q : Pool) (h : ℕ) → shown form us ≡ q → length q.holders ≡ length (shown form ts).holders → no_holder form ts h ≡ false → no_holder form us h ≡ false
held_as form ts us q h e l n = ap (λ (k : ℕ). leb k h) (sym (shown_holders form us) ∙ ap (λ (p : Pool). length p.holders) e ∙ l ∙ shown_holders form ts) ∙ n

out_again : (form : Form) → ReadWritesBack (ours form)
out_again form b ts ws vs out h xs bs =
    read_ways form b ts ws h xs (λ (r : Reading). r.answer ≡ DONE → Anew b xs r.count bs → work_words * cells_told ts ≤ length vs → r.count ≤ length out → let w = writing_in form b r.table vs h out in (w.answer ≡ DONE) × (w.output ≡ over bs out))
    (λ n us d e. absurd (d e))
    (λ k _. go k)
  where
    go : Taken form b ts ws h xs → Anew b xs (verdict b xs).taken bs → work_words * cells_told ts ≤ length vs → (verdict b xs).taken ≤ length out → let w = writing_in form b (filled_in form b ts ws h xs).table vs h out in (w.answer ≡ DONE) × (w.output ≡ over bs out)
    go k c v f =
        let q = read (shown form ts) h (list_in b xs) in
        let us = stored form ts q in
        let st = read-stored form k in
        let g = stored_good form ts q st (read-pool form b ts ws h xs k).sound in
        let told = cells_told_lem form ts (entry_tests work_words form ts (length ws) k.entered.entry).0 in
        let o : Opened form us vs h = record { entry = passed g.table work_words (length vs) (omega (arith, st.cells, told)); held = held_as form ts us q h st.shows (read_alike (shown form ts) h (list_in b xs)).holders k.entered.held; sound = good_sound form us g } in
        let e = writes_list form b us vs h out (list_in b xs) o (read_has form k) (read-written b xs (length out) k.right f) in
        (ap (λ (y : Write). y.answer) e, ap (λ (y : Write). y.output) e ∙ ap (λ (y : List ℕ). over y out) (written_anew b xs bs k.right c))

pub demand2 : (form : Form) → Demand2 form (ours form)
demand2 form = record {
  set_up_gives = set_up_gives form;
  operations_give = operation-gives form;
  sizes_stay = sizes_stay form;
  holders_stay = holders_stay form;
  prefix_takes_head = prefix_takes form;
  prefix_list_takes_head = prefix_list_takes form;
  decap-frees_to_head = decap-frees form;
  adv_erases = adv_erases form;
  borrow_shares = borrow_shares form;
  erase_erases = erase_erases form;
  inv-turns = inv-turns_cells form;
  cinv-copies = cinv-copies_cells form;
  conc_joins = conc_joins_cells form;
  asking-leaves = asking-leaves form;
  live_cells_stay = live_cells_stay form;
  others_stay = others_stay form;
  scripts_give = script_gives form;
  reading-gives = reading form;
  reading_uses_its_cells = reading_uses form;
  forms_read_alike = read_alike_forms form;
  checking_gives = checking form;
  checking_takes = check_takes;
  rest_gives = after_list form;
  writing-gives = written_out form;
  written-reads_back = back_again form;
  read_writes_back = out_again form;
  moving_gives = moves_give form;
  moves_home = goes_home form;
  moves_as_tables = as_tables form;
}
