-- The fill behind the last ")": blanks up to the record's end are taken, any other character is the fault 15.
use Prim.Native.Nat.{ℕ, ◌+◌, ◌-◌, ◌%◌, ◌<◌}
use mathlib.Core.Path.{◌≡◌, ap, ◌∙◌}
use mathlib.Core.List.{List}
use Rattle.std.specs.Prelude.{Ok, Err, take}
use Rattle.answers.specs.declared.refusal.Refusal.TheVariants.{NotAList}
use native.Mathlib.Omega.{arith}
use lib.ListN.{length, drop, get_or, length-drop}
use Rattle.std.proofs.lemmas.List.{get_or-take, get_or-drop, length-take}
use borrow.Author.Tests.{eq-eqb, ne_eqb}
use Rattle.text.specs.Limits.{record_bytes}
use Rattle.text.specs.Text.{place, after_all, fault, State, at, taken, settle, step_of, answer}
use Rattle.text.specs.Marks.{Mark, met, beginnings}
use Rattle.text.specs.Laws.TextLaws.{rests_taken, digit-step, Class, is_open, is_shut, is_comma, is_blank, is_digit, is_other, class}
use Rattle.text.specs.Laws.MarkLaws.{trace-taken}
use Rattle.scan.specs.Places.{over_at, Outlook, outlook}
use Rattle.scan.specs.Outcomes.{Foresees}
use Rattle.scan.proofs.Outlooks.{turn, stops}

inside_record : (i : ℕ) → (i % record_bytes ≡ 0 → ⊥) → over_at i ≡ at (place after_all 0 0 0) i
inside_record i n = simp (ne_eqb (i % record_bytes) 0 n)

no_blank : (b : ℕ) → (b ≡ 32 → ⊥) → Class b → step_of (place after_all 0 0 0) b ≡ fault 15
no_blank b n (is_open e) = ap (step_of (place after_all 0 0 0)) e
no_blank b n (is_shut e) = ap (step_of (place after_all 0 0 0)) e
no_blank b n (is_comma e) = ap (step_of (place after_all 0 0 0)) e
no_blank b n (is_blank e) = absurd (n e)
no_blank b n (is_digit x h e) = ap (step_of (place after_all 0 0 0)) e ∙ digit-step (place after_all 0 0 0) x h
no_blank b n (is_other f) = f (place after_all 0 0 0)

-- a byte between a place and the end of its record, and the end
module _ (s : List ℕ) (from end k : ℕ) (h : k < length (take (end - from) (drop from s))) where
  pub in_fill : (from + k < length s) × (from + k < end)
  in_fill =
      let few = length-take (end - from) (drop from s) in
      let left = length-drop from s in
      (omega (arith, few, left), omega (arith, few, left))

  pub fill_byte : get_or (take (end - from) (drop from s)) k 0 ≡ get_or s (from + k) 0
  fill_byte = get_or-take (end - from) (drop from s) k 0 (omega (arith, in_fill.1)) ∙ get_or-drop from s k 0

module _ (s : List ℕ) (o : Outlook) (e i : ℕ) (q : o ≡ outlook (e + 1) (over_at i) (drop i s)) where
  pub blank_not : i < length s → (i % record_bytes ≡ 0 → ⊥) → (get_or s i 0 ≡ 32 → ⊥) → Foresees o (Err NotAList)
  blank_not h n b =
      let here = q ∙ ap (λ (u : State). outlook (e + 1) u (drop i s)) (inside_record i n) in
      ap (λ (w : Outlook). w.answered) here ∙ stops s (place after_all 0 0 0) i 15 h (no_blank (get_or s i 0) b (class (get_or s i 0)))

  pub blank-on : i < length s → (i % record_bytes ≡ 0 → ⊥) → get_or s i 0 ≡ 32 → o ≡ outlook (e + 1) (over_at (i + 1)) (drop (i + 1) s)
  blank-on h n b =
      let over = place after_all 0 0 0 in
      let z : e + 1 + 0 ≡ e + 1 = omega arith in
      q ∙ ap (λ (u : State). outlook (e + 1) u (drop i s)) (inside_record i n) ∙ turn s (e + 1) over i h
      ∙ ap (λ (c : ℕ). outlook (e + 1 + beginnings (met (at over i) c)) (settle (i + 1) (step_of over c)) (drop (i + 1) s)) b
      ∙ ap (λ (k : ℕ). outlook k (over_at (i + 1)) (drop (i + 1) s)) z

  pub record_full : i % record_bytes ≡ 0 → Foresees o (Ok (record { taken = i; extent = e }))
  record_full z =
      let full : over_at i ≡ taken i = simp (eq-eqb (i % record_bytes) 0 z) in
      let here = q ∙ ap (λ (u : State). outlook (e + 1) u (drop i s)) full in
      let n : o.begins ≡ e + 1 + 0 = ap (λ (w : Outlook). w.begins) here ∙ ap (λ (l : List Mark). e + 1 + beginnings l) (trace-taken i (drop i s)) in
      (ap (λ (w : Outlook). w.answered) here ∙ ap answer (rests_taken i (drop i s)), omega arith)
