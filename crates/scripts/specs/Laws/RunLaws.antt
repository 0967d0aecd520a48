-- What a script run comes to, past its entry: the sizes test by test, then what each way out of the code gives.
use Rattle.std.specs.Prelude.{◌≡◌, refl, ◌≢◌, Bool, true, false, cond, not, ◌||◌, List, ℕ, ◌*◌, ◌/◌, ◌%◌, eqb, ltb, length}
use Rattle.std.specs.Prelude.{Result, IsErrAnd}
use Rattle.std.proofs.Common.{sym, ap, ◌∙◌, subst, arith, ltb-false, eqb-true}
use Rattle.std.proofs.lemmas.Result.{err_from_is_err_and}
use Rattle.answers.specs.Answers.{DONE, SCRIPT, RESULTS, UNSOUND, refused, unless}
use Rattle.answers.specs.Codes.{operation_words, result_words, script_most}
use Rattle.answers.specs.Laws.Unless.{goes_on_lem, refuses}
use Rattle.answers.specs.Outcomes.{stopped_of}
use Rattle.answers.specs.Refusals.{refusal_no}
use Rattle.answers.specs.declared.Outcome.{Outcome}
use Rattle.answers.specs.declared.Stopped.{Stopped}
use Rattle.answers.specs.declared.refusal.Refusal.{Refusal}
use Rattle.calls.specs.Entry.{work_words, entry_fault, Provided, shown, unsound, used}
use Rattle.calls.specs.Run.{bad_results, script_fault, operations, not_run, ran_to, ran_in, Ran}
use Rattle.calls.specs.Promised.{Runs}
use Rattle.calls.specs.Laws.EntryLaws.{passed}
use Rattle.entry.specs.Laws.EntryLaws.{TurnedAway, judged}
use Rattle.pool.specs.Script.{performed}
use Rattle.sound.specs.Decided.{Decided}
use Rattle.scripts.specs.Performs.{Sized, Performs}
use Rattle.table.specs.declared.Form.{Form}
use Rattle.table.specs.declared.Shape.{Shape}
use Rattle.table.specs.View.{view}
use Rattle.table.specs.Laws.SizesLaws.{table_shape}
use Rattle.table.proofs.WordsLaws.{shown-words}

-- at the exit of a test that refuses
pub stopped_at : (r : Result ℕ Stopped) (k : Refusal) → IsErrAnd r (λ e. (e.refusal ≡ k) × (e.count ≡ 0)) → stopped_of r ≡ refused (refusal_no k)
stopped_at r k h =
    let p = err_from_is_err_and r h in
    rw (p.1, p.2.0, p.2.1) refl

-- the sizes
pub sizes : (ss rs : List ℕ) → script_fault ss rs ≡ DONE → Sized ss rs
unfolding script_fault
sizes ss rs = go (eqb (length ss % operation_words) 0) (ltb script_most (length ss)) (bad_results ss rs) refl refl refl
  where
    go : (a b c : Bool) → eqb (length ss % operation_words) 0 ≡ a → ltb script_most (length ss) ≡ b → bad_results ss rs ≡ c
        → cond (not a || b) SCRIPT (cond c RESULTS DONE) ≡ DONE → Sized ss rs
    go false b c p q r e = absurd (omega arith)
    go true true c p q r e = absurd (omega arith)
    go true false true p q r e = absurd (omega arith)
    go true false false p q r e = record {
      whole = eqb-true (length ss % operation_words) 0 p;
      few = ltb-false script_most (length ss) q;
      room = ltb-false (length rs) (result_words * (length ss / operation_words)) r;
    }

-- a refusal leaves table and results as they were
keeps_all : {ts ws rs : List ℕ} {q : Ran} {r : Outcome} (k : ℕ) → q ≡ not_run k ts ws rs → r ≡ refused k → Runs r ts ws rs q
keeps_all k e g = rw (e, g) (record { outcome = refl; table = refl; work = refl; results = refl })

pub entry-refused : (f : Form) (ts ws ss rs : List ℕ) {r : Outcome} {n : ℕ} → TurnedAway work_words f ts (length ws) n → r ≡ refused n → Runs r ts ws rs (ran_in f ts ws ss rs)
unfolding ran_in
entry-refused f ts ws ss rs k g =
    keeps_all (entry_fault work_words f ts (length ws)) (refuses (entry_fault work_words f ts (length ws)) (λ (n : ℕ). not_run n ts ws rs) _ k.some) (g ∙ ap refused k.is)

-- the form of the shape is the form that was named
pub of_form : {f g : Form} (ts ws ss rs : List ℕ) {r : Outcome} {us vs xs : List ℕ} → g ≡ f → Runs r us vs xs (ran_in g ts ws ss rs) → Runs r us vs xs (ran_in f ts ws ss rs)
of_form ts ws ss rs {r} {us} {vs} {xs} e h = subst (λ (f : Form). Runs r us vs xs (ran_in f ts ws ss rs)) e h

module _ {s : Shape} {ts : List ℕ} (ws ss rs : List ℕ) (o : Provided work_words s ts (length ws)) where
  -- past the entry
  abbrev onward : Ran
  onward = unless (script_fault ss rs) (λ n. not_run n ts ws rs) (cond (unsound s.form ts) (not_run UNSOUND ts (used s.form ts ws) rs) (ran_to s.form (performed (shown s.form ts) (operations ss)) ts ws rs))

  enters : ran_in s.form ts ws ss rs ≡ onward
  unfolding ran_in
  enters = goes_on_lem (entry_fault work_words s.form ts (length ws)) (λ (n : ℕ). not_run n ts ws rs) _ (passed o.table work_words (length ws) o.long)

  pub sizes_refused : {r : Outcome} {n : ℕ} → n ≡ script_fault ss rs → n ≢ DONE → r ≡ refused n → Runs r ts ws rs (ran_in s.form ts ws ss rs)
  sizes_refused e d g = keeps_all (script_fault ss rs) (enters ∙ refuses (script_fault ss rs) (λ (n : ℕ). not_run n ts ws rs) _ (λ z. d (e ∙ z))) (g ∙ ap refused e)

  module _ (z : script_fault ss rs ≡ DONE) {us : List ℕ} {b : Bool} (d : Decided s ts ws us b) where
    goes : {a : Bool} → not b ≡ a → ran_in s.form ts ws ss rs ≡ cond a (not_run UNSOUND ts us rs) (ran_to s.form (performed (shown s.form ts) (operations ss)) ts ws rs)
    goes e = enters ∙ goes_on_lem (script_fault ss rs) (λ (n : ℕ). not_run n ts ws rs) _ z
        ∙ (λ i. cond (((judged o.table d).0 ∙ e) i) (not_run UNSOUND ts (sym (judged o.table d).1 i) rs) (ran_to s.form (performed (shown s.form ts) (operations ss)) ts ws rs))

    pub not_sound : not b ≡ true → {r : Outcome} → r ≡ refused UNSOUND → Runs r ts us rs (ran_in s.form ts ws ss rs)
    not_sound e g = keeps_all UNSOUND (goes e) g

    pub performs_all : not b ≡ false → {r : Outcome} {vs xs : List ℕ} → Performs s rs r vs xs (performed (view s ts) (operations ss)) → Runs r vs us xs (ran_in s.form ts ws ss rs)
    performs_all e {r} {vs} {xs} p =
        let q = subst (λ (u : Shape). Performs u rs r vs xs (performed (view u ts) (operations ss))) (sym (table_shape s ts o.table)) p in
        rw (goes e) (record { outcome = q.outcome; table = shown-words q.table; work = (judged o.table d).1; results = q.results })
