-- Our engine keeps demand 3: its tables stay sound, and the laws of sound pools are what the demand says.
use Rattle.std.specs.Prelude.{◌≡◌, refl, ◌⊎◌, ◌↔◌, List, [], ◌∷◌, ◌++◌, ℕ, ◌+◌, ◌<◌, length, get_or, take}
use Rattle.std.proofs.Common.{sym, ap, ◌∙◌, subst, inl, inr, arith}
use Rattle.answers.specs.Answers.{DONE}
use Rattle.lists.specs.Lst.{Lst, extent}
use Rattle.pool.specs.Pool.{Pool, Live, lives, frees, Sound}
use Rattle.pool.specs.Operations.{erase}
use Rattle.pool.specs.Laws.EraseLaws.{erases}
use Rattle.pool.specs.Script.{ERASE, number_kind, Operation, Effect, effect, refusal}
use Rattle.pool.specs.Tally.{Number}
use Rattle.pool.specs.Laws.Room.{frees-lives}
use Rattle.pool.specs.Laws.SoundLaws.{sound_held, denoted}
use Rattle.calls.specs.Entry.{work_words, bad_table, shown, unsound, over}
use Rattle.calls.specs.Run.{Ran, operations, ran_in}
use Rattle.calls.specs.Read.{reading_in}
use Rattle.promises.specs.Engine.{ours}
use Rattle.promises.specs.Rows.{None}
use Rattle.promises.specs.Grounds.{NoRoom, entry_rows}
use Rattle.promises.specs.StoredGrounds.{at_reading, fault_rows, into_rows, room_rows, Spells}
use Rattle.promises.specs.Demand1.{words_of}
use Rattle.promises.specs.Demand3.{Free, Used, OnlyBy, erasing, Lent, Demand3, NoRoomToPerform, NoRoomToRead}
use Rattle.promises.specs.Laws.Tells.{passed_over, last_row, none-answered}
use Rattle.promises.specs.Laws.TestsTell.{tells_table, entry_answers, tells_unsound, needs_is}
use Rattle.promises.specs.Laws.OperationRows.{room_answers}
use Rattle.promises.specs.Laws.Tables.{Good, good, good_table, good_sound, fails}
use Rattle.promises.specs.Laws.RunLaws.{Passed, runs}
use Rattle.promises.specs.Laws.ScriptDoes.{one_answer}
use Rattle.promises.specs.Laws.StoredRows.{spells_once}
use Rattle.promises.specs.Laws.OneOperation.{one-accepted, effect-stored}
use Rattle.promises.specs.Laws.Invariant.{reached_good}
use Rattle.promises.specs.Laws.FreeCells.{free_or_live, live_not_free, used_live, live_used, number-used, Number_unique, erase-frees_cells}
use Rattle.promises.specs.Kept.Demand1Kept.{one_fits, demand1}
use Rattle.groups.specs.declared.Stored.{Stored}
use Rattle.table.specs.declared.Form.{Form}

abbrev erasure : ℕ → ℕ → ℕ → Operation
erasure a b v = record { code = ERASE; a = a; b = b; v = v }

pub effect-erase : (p : Pool) (a b v : ℕ) → effect p (erasure a b v) ≡ record { pool = (erase p a).0; kind = number_kind; value = (erase p a).1 }
unfolding effect
effect-erase p a b v = refl

erased : (form : Form) → (ts ws rs : List ℕ) (a b v : ℕ) → let r = ran_in form ts ws (erasing a b v) rs in r.answer ≡ DONE → (shown form r.table ≡ (erase (shown form ts) a).0) × (r.results ≡ over (2 ∷ (erase (shown form ts) a).1 ∷ []) rs)
erased form ts ws rs a b v e =
    let w = one-accepted form ts ws rs (erasure a b v) e in
    let d = effect-erase (shown form ts) a b v in (
      ap (shown form) w.table ∙ (effect-stored form ts (erasure a b v) w.good w.allows).shows ∙ ap (λ (z : Effect). z.pool) d,
      w.results ∙ ap (λ (z : Effect). over (z.kind ∷ z.value ∷ []) rs) d,
    )

-- a run that is done has found the table sound
erased_sound : (form : Form) → (ts ws rs : List ℕ) (a b v : ℕ) → (ran_in form ts ws (erasing a b v) rs).answer ≡ DONE → Sound (shown form ts)
erased_sound form ts ws rs a b v e = (one-accepted form ts ws rs (erasure a b v) e).good.sound

lent_good : (form : Form) → {ts : List ℕ} → Lent form (ours form) ts → Good form ts
lent_good form (inl r) = reached_good form r
lent_good form {ts} (inr (t, s)) = good form ts (fails (bad_table form ts) (tells_table form ts) t) (fails (unsound form ts) (tells_unsound form ts) (λ u. u s))

-- free cells and needed ones against reached and needed ones
room-counted : (p : Pool) → Sound p → (k n : ℕ) → Number (Used p) (length p.cells) k → (frees p.cells < n) ↔ (length p.cells < k + n)
room-counted p s k n c =
    let u : k ≡ lives p.cells = Number_unique (Used p) c (number-used p s) in
    ((λ h. omega (arith, frees-lives p.cells)), (λ h. omega (arith, frees-lives p.cells)))

either_end : {A B C : Type 0} → A ↔ B → B ↔ C → A ↔ C
either_end f g = ((λ a. g.0 (f.0 a)), (λ c. f.1 (g.1 c)))

room-run : (form : Form) → NoRoomToPerform form (ours form)
unfolding operations
room-run form ts ws rs o k n r w l b c d =
    let g = lent_good form r in
    let t = good_table form ts g in
    let h : Passed form ts ws (words_of o) rs = record { entry = none-answered (entry_rows work_words form ts ws) _ ((tells_table form ts).1 t, (w, tt)) (entry_answers work_words form ts ws); script = one_fits o rs l; sound = good_sound form ts g } in
    let e : (ran_in form ts ws (words_of o) rs).answer ≡ refusal (shown form ts) o = ap (λ (z : Ran). z.answer) (runs form ts ws (words_of o) rs h) ∙ one_answer (shown form ts) o in
    let a = room_answers (shown form ts) o g.sound b in
    let m : NoRoom (shown form ts) o ↔ (frees (shown form ts).cells < n) = ((λ (j, q, f). subst (λ (i : ℕ). frees (shown form ts).cells < i) (sym (needs_is (shown form ts) o g.sound j q) ∙ needs_is (shown form ts) o g.sound n d) f), (λ f. (n, d, f))) in
    either_end ((λ q. a.0 (sym e ∙ q)), (λ q. e ∙ a.1 q)) (either_end m (room-counted (shown form ts) g.sound k n c))

room-read : (form : Form) → NoRoomToRead form (ours form)
room-read form b ts ws h xs k m l r w n s v f c spelt =
    let g = lent_good form r in
    let entered : None (at_reading form b ts ws h xs) = ((tells_table form ts).1 (good_table form ts g), (w, (n, s))) in
    let at-bytes = passed_over (at_reading form b ts ws h xs) (into_rows form b ts h xs) done? (answer form b ts ws h xs) entered ((demand1 form).read_refusals b ts ws h xs) in
    let at-faults = passed_over (take 2 (into_rows form b ts h xs)) (fault_rows b xs ++ room_rows form b ts xs) done? (answer form b ts ws h xs) ((λ u. u g.sound), ((λ u. u v), tt)) at-bytes in
    let a = last_row (λ z. omega arith) (passed_over (fault_rows b xs) (room_rows form b ts xs) done? (answer form b ts ws h xs) f at-faults) in
    let told : ((j : ℕ) × (i : Lst) × Spells b xs j i × (frees (shown form ts).cells < extent i)) ↔ (frees (shown form ts).cells < extent l)
    = ((λ (j, i, d, e). subst (λ (u : Lst). frees (shown form ts).cells < extent u) (spells_once b xs j m i l d spelt).1 e), (λ e. (m, l, spelt, e))) in
    either_end a (either_end told (room-counted (shown form ts) g.sound k (extent l) c))
  where
    done? : ℕ → Type 0
    done? m = m ≡ DONE

    answer : (form : Form) (b : Stored) (ts ws : List ℕ) (h : ℕ) (xs : List ℕ) → ℕ
    answer form b ts ws h xs = (reading_in form b ts ws h xs).answer

pub demand3 : (form : Form) → Demand3 form (ours form)
demand3 form = record {
  counts_are_arrows = λ ts r c i. (sound_held (shown form ts) (reached_good form r).sound).law c (λ z. omega arith);
  no_list_contains_itself = λ ts r. (sound_held (shown form ts) (reached_good form r).sound).acyclic;
  holders_have_lists = λ ts r. denoted (shown form ts) (reached_good form r).sound;
  free_or_reached = λ ts r c i. either (reached_good form r) c (free_or_live (shown form ts) (reached_good form r).sound c i);
  never_both = λ ts r c i f u. live_not_free (shown form ts) (reached_good form r).sound c (used_live (shown form ts) (reached_good form r).sound c (λ z. omega arith) u) f;
  erase-frees = λ ts ws rs a b v e c i. subst (λ (q : Pool). ((Free (shown form ts) c → ⊥) × Free q c) ↔ OnlyBy (shown form ts) a c) (sym (erased form ts ws rs a b v e).0) (erase-frees_cells (shown form ts) (erased_sound form ts ws rs a b v e) a c i);
  erase_counts = λ ts ws rs a b v e. subst (λ (qs : List ℕ). (get_or qs 0 0 ≡ number_kind) × Number (OnlyBy (shown form ts) a) (length (shown form ts).cells) (get_or qs 1 0)) (sym (erased form ts ws rs a b v e).1)
      (refl, (erases (shown form ts) a (erased_sound form ts ws rs a b v e)).number);
  no_room_to_perform = room-run form;
  no_room_to_read = room-read form;
}
  where
    either : {ts : List ℕ} → Good form ts → (c : ℕ) → Free (shown form ts) c ⊎ Live (shown form ts).cells c → Free (shown form ts) c ⊎ Used (shown form ts) c
    either g c (inl f) = inl f
    either {ts} g c (inr l) = inr (live_used (shown form ts) g.sound c l)
