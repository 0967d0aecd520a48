-- What a move gives at each return, against the definition of a move.
use Rattle.std.specs.Prelude.{ℕ, ◌-◌, ◌≤◌, ◌<◌, ◌≡◌, refl, ◌≢◌, List, length, replicate}
use Rattle.std.proofs.Common.{sym, ◌∙◌, arith}
use Rattle.std.proofs.Math.Path.{ap}
use Rattle.std.proofs.Math.Seq.{paste}
use Rattle.answers.specs.Answers.{DONE, OUTPUT, moved, not_moved}
use Rattle.answers.specs.Laws.Unless.{goes_on_lem, refuses}
use Rattle.answers.specs.Laws.Refusals.{refusal_some}
use Rattle.answers.specs.Refusals.{refusal_no}
use Rattle.answers.specs.declared.Moved.{Moved}
use Rattle.answers.specs.declared.refusal.Refusal.{Refusal}
use Rattle.calls.specs.Promised.{Moves}
use Rattle.calls.specs.Entry.{over}
use Rattle.calls.specs.Move.{Move, left_alone, put_out, moved_from}
use Rattle.groups.specs.Reading.{size_fault, scanned, verdict, list_in}
use Rattle.groups.specs.Stored.{judged}
use Rattle.groups.specs.declared.Stored.TheVariants.{Text, Groups}
use Rattle.groups.specs.Laws.SizeLaws.{right-size, wrong_size}
use Rattle.groups.specs.Laws.Taking.{taken_holds}
use Rattle.lists.specs.Lst.{Lst}
use Rattle.text.specs.ListText.{text_of, written}
use Rattle.text.specs.Text.{Answer, done, refusal}
use Rattle.text.specs.Writing.{usable}
use Rattle.text.specs.Laws.WritingLaws.{writes, overflows}
use Rattle.writing.specs.RecordEnd.{record_end}
use Rattle.writing.specs.Laws.WroteLaws.{filled-whole}

-- a move that writes nothing
nothing : {xs : List ℕ} {q : Move} {r : Moved} (n : ℕ) → q ≡ left_alone n xs → r ≡ not_moved n → Moves r xs q
nothing n e g = rw (e, g) (record { moved = refl; output = refl })

module _ (s : List ℕ) (m : ℕ) (e : verdict s ≡ done m) (xs : List ℕ) {r : Moved} where
  pub output_short : usable (length xs) < length (text_of (list_in s)) → r ≡ not_moved OUTPUT → Moves r xs (put_out Text m (list_in s) xs)
  output_short l g =
      let j : judged Text (length xs) (list_in s) ≡ OUTPUT = overflows (usable (length xs)) (list_in s) (taken_holds s m e).shallow l in
      nothing OUTPUT (refuses (judged Text (length xs) (list_in s)) (λ (n : ℕ). left_alone n xs) _ (λ z. omega arith) ∙ ap (λ (n : ℕ). left_alone n xs) j) g

  -- the text fits, and is put and filled
  pub list_put : (out zs : List ℕ) (n end : ℕ) → n ≡ length (text_of (list_in s)) → n ≤ usable (length xs) → end ≡ record_end n
      → out ≡ over (text_of (list_in s)) xs → zs ≡ paste out n (replicate (end - n) 32) (end - n) → r ≡ moved DONE m end
      → Moves r zs (put_out Text m (list_in s) xs)
  list_put out zs n end is fits ends o f g =
      let l : Lst = list_in s in
      let w = filled-whole l xs out zs n end is ends o f in
      let j : judged Text (length xs) l ≡ DONE = writes (usable (length xs)) l (taken_holds s m e).shallow (omega arith) in
      rw (goes_on_lem (judged Text (length xs) l) (λ (k : ℕ). left_alone k xs) (record { answer = DONE; taken = m; written = length (written l); output = over (written l) xs }) j)
      (record { moved = g ∙ ap (moved DONE m) w.0; output = w.1 })

-- a call
module _ (s xs : List ℕ) {r : Moved} where
  refused_with : (n : ℕ) → n ≢ DONE → (verdict s).no ≡ n → r ≡ not_moved n → Moves r xs (moved_from Groups s xs)
  unfolding moved_from
  refused_with n z e g =
      nothing n (refuses (verdict s).no (λ (k : ℕ). left_alone k xs) _ (λ y. z (sym e ∙ y)) ∙ ap (λ (k : ℕ). left_alone k xs) e) g

  pub size-refused : (n : ℕ) → n ≡ size_fault s → n ≢ DONE → r ≡ not_moved n → Moves r xs (moved_from Groups s xs)
  size-refused n e z g = refused_with n z (ap (λ (a : Answer). a.no) (wrong_size s (λ y. z (e ∙ y))) ∙ sym e) g

  pub check-refused : size_fault s ≡ DONE → (f : Refusal) → scanned s ≡ refusal (refusal_no f) → r ≡ not_moved (refusal_no f)
      → Moves r xs (moved_from Groups s xs)
  check-refused z f e g =
      refused_with (refusal_no f) (refusal_some f) (ap (λ (a : Answer). a.no) (right-size s z ∙ e)) g

  pub moved-taken : (m : ℕ) {zs : List ℕ} → verdict s ≡ done m → Moves r zs (put_out Text m (list_in s) xs) → Moves r zs (moved_from Groups s xs)
  unfolding moved_from
  moved-taken m {zs} e g = rw e g
