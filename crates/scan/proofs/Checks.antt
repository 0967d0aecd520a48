-- The check and the rest: what scan says is the verdict where the size is right, and the rest begins behind the bytes taken or at the end.
use Prim.Native.Nat.{ℕ, ◌-◌, ◌%◌, ◌≤◌}
use mathlib.Core.Path.{◌≡◌, sym, ap, ◌∙◌}
use mathlib.Core.Logic.{◌≢◌}
use mathlib.Core.Bool.{Bool, true, false}
use mathlib.Core.List.{List}
use native.Mathlib.Omega.{arith}
use lib.ListN.{length, drop, take, length-drop}
use lib.Seq.{take_all}
use Rattle.std.specs.Prelude.{Result, Ok, Err, IsErrAnd}
use Rattle.answers.specs.Answers.{DONE, refused}
use Rattle.answers.specs.Outcomes.{outcome_of}
use Rattle.answers.specs.Laws.Refusals.{refusal_some}
use Rattle.answers.specs.Refusals.{refusal_no}
use Rattle.answers.specs.declared.refusal.Refusal.{Refusal}
use Rattle.answers.specs.declared.Outcome.{Outcome}
use Rattle.text.specs.Text as text
use Rattle.text.specs.Limits.{record_bytes}
use Rattle.text.specs.Text.{scanned, at_end, size_fault, verdict, rest_at}
use Rattle.text.specs.Laws.Accepted.{taken-answer, accepted-size, taken-within}
use Rattle.text.specs.Laws.Rest.{rest-refused, rest-blank, rest_more}
use Rattle.text.specs.Laws.SizeLaws.{its_size, right-size, wrong_size}
use Rattle.scan.specs.Outcomes.{answered_as}

-- a refusal that is handed on
pub refused_as : (r : Result ℕ Refusal) (f : Refusal) → IsErrAnd r (λ e. e ≡ f) → outcome_of r ≡ refused (refusal_no f)
refused_as (Err e) f q = ap (λ (g : Refusal). refused (refusal_no g)) q
refused_as (Ok k) f q = elim q [ ]

-- a text whose size is wrong
pub checked-size : (s : List ℕ) (f : Refusal) → refusal_no f ≡ size_fault s → refused (refusal_no f) ≡ answered_as (verdict s)
checked-size s f e = ap refused e ∙ ap answered_as (sym (wrong_size s (λ z. refusal_some f (e ∙ z))))

-- and one whose size is right
pub checked : (s : List ℕ) {a : text.Answer} → size_fault s ≡ DONE → scanned s ≡ a → answered_as a ≡ answered_as (verdict s)
checked s z e = ap answered_as (sym (right-size s z ∙ e))

-- where the rest begins, by what check says
module _ (s : List ℕ) {a : Outcome} (e : a ≡ answered_as (verdict s)) where
  number : a.answer ≡ (verdict s).no
  number = ap (λ (x : Outcome). x.answer) e

  count : a.count ≡ (verdict s).taken
  count = ap (λ (x : Outcome). x.count) e

  pub refused_end : a.answer ≢ 0 → length s ≡ rest_at s
  refused_end d = sym (rest-refused s (λ z. d (number ∙ z)))

  module _ (z : a.answer ≡ 0) where
    pub whole_records : (a.count ≤ length s) × (length s % record_bytes ≡ 0) × (a.count % record_bytes ≡ 0)
    whole_records =
        let took = taken-answer (verdict s) (sym number ∙ z) in
        let (within, whole) = taken-within s (verdict s).taken took in
        (omega (arith, count, within), (its_size s (accepted-size s (verdict s).taken took).0).whole, omega (arith, count, whole))

    left : {b : Bool} → b ≡ at_end (drop a.count s) → at_end (drop (verdict s).taken s) ≡ b
    left q = ap (λ (k : ℕ). at_end (drop k s)) (sym count) ∙ sym q

    pub blank_end : true ≡ at_end (drop a.count s) → length s ≡ rest_at s
    blank_end q = sym (rest-blank s (sym number ∙ z) (left q))

    pub more-behind : false ≡ at_end (drop a.count s) → a.count ≡ rest_at s
    more-behind q = count ∙ sym (rest_more s (sym number ∙ z) (left q))

-- the part from a start to the end, as a slice's part has it
pub whole-rest : (a : ℕ) (s : List ℕ) → take (length s - a) (drop a s) ≡ drop a s
whole-rest a s = take_all (length s - a) (drop a s) (omega (arith, length-drop a s))
