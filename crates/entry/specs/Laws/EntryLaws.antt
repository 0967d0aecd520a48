-- What the answer of `enter` tells a call; and past the entry the test of soundness, in the words of the calls.
use Rattle.std.specs.Prelude.{◌≡◌, ◌≢◌, Bool, not, List, ℕ, zero, suc, ◌*◌, ◌≤◌, IfOk, Result, Ok, Err}
use Rattle.std.proofs.Common.{sym, ap, ◌∙◌, subst, arith}
use Rattle.answers.specs.Answers.{DONE}
use Rattle.answers.specs.Laws.Refusals.{refusal_some}
use Rattle.answers.specs.Refusals.{refusal_no, answer_no}
use Rattle.answers.specs.declared.refusal.Refusal.{Refusal}
use Rattle.calls.specs.Entry.{work_words, entry_fault, Provided, unsound, used}
use Rattle.calls.specs.Laws.EntryLaws.{provided, its_cells}
use Rattle.pool.specs.Check.{check}
use Rattle.sound.specs.Decided.{Decided}
use Rattle.table.specs.declared.Form.{Form}
use Rattle.table.specs.declared.Shape.{Shape}
use Rattle.table.specs.Sizes.{shape_of, cleared}
use Rattle.table.specs.View.{view, Table}
use Rattle.table.specs.Laws.SizesLaws.{table_shape}

-- a product of numbers that are not too large
pub times_le : (k n m : ℕ) → n ≤ m → k * n ≤ k * m
times_le zero n m l = omega arith
times_le (suc k) n m l = omega (arith, times_le k n m l)

module _ (k : ℕ) (f : Form) (ts : List ℕ) (n : ℕ) where
  pub record Admitted (s : Shape) : Type 0 where
    pub form : s.form ≡ f
    pub provided : Provided k s ts n

  pub admitted : {r : Result Shape Refusal} {s : Shape} → answer_no r ≡ entry_fault k f ts n → IfOk r (λ u. u ≡ shape_of f ts) → r ≡ Ok s → Admitted s
  admitted q i e =
      let is = subst (λ (x : Result Shape Refusal). IfOk x (λ u. u ≡ shape_of f ts)) e i in
      record {
        form = ap (λ (u : Shape). u.form) is;
        provided = subst (λ (u : Shape). Provided k u ts n) (sym is) (provided k f ts n (sym q ∙ ap answer_no e));
      }

  pub record TurnedAway (m : ℕ) : Type 0 where
    pub is : m ≡ entry_fault k f ts n
    pub some : entry_fault k f ts n ≢ DONE

  pub turned_away : {r : Result Shape Refusal} {e : Refusal} → answer_no r ≡ entry_fault k f ts n → r ≡ Err e → TurnedAway (refusal_no e)
  turned_away {r} {e} q g =
      let is : refusal_no e ≡ entry_fault k f ts n = sym (ap answer_no g) ∙ q in
      record { is = is; some = λ z. refusal_some e (is ∙ z) }

-- the test of soundness, and the work space after it
pub judged : {s : Shape} {ts ws us : List ℕ} {b : Bool} → Table s ts → Decided s ts ws us b → (unsound s.form ts ≡ not b) × (us ≡ used s.form ts ws)
judged {s} {ts} {ws} t d = (
  ap (λ (u : Shape). not (check (view u ts))) (table_shape s ts t) ∙ ap not (sym d.answer),
  d.work ∙ ap (λ (m : ℕ). cleared (work_words * m) ws) (sym (its_cells t)),
)
