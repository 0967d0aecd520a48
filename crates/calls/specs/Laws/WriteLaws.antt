-- What writing a list gives at a return of the code, in either stored form: a refusal, or its bytes over the output.
use Rattle.std.specs.Prelude.{ℕ, ◌≡◌, refl, ◌≢◌, List, length}
use Rattle.std.proofs.Common.{ap, ◌∙◌}
use Rattle.answers.specs.Answers.{DONE, refused, done}
use Rattle.answers.specs.declared.Outcome.{Outcome}
use Rattle.answers.specs.Laws.Unless.{goes_on_lem, refuses}
use Rattle.calls.specs.Promised.{Writes}
use Rattle.calls.specs.Entry.{over}
use Rattle.calls.specs.Write.{Write, not_written, write_list}
use Rattle.groups.specs.Stored.{bytes_of, judged}
use Rattle.groups.specs.declared.Stored.{Stored}
use Rattle.lists.specs.Lst.{Lst}

-- a call that writes nothing
pub nothing : {ws xs : List ℕ} {q : Write} {r : Outcome} (n : ℕ) → q ≡ not_written n ws xs → r ≡ refused n → Writes r ws xs q
nothing n e g = rw (e, g) (record { outcome = refl; work = refl; output = refl })

module _ (k : Stored) (l : Lst) (ws xs : List ℕ) {r : Outcome} where
  pub list_refused : (n : ℕ) → n ≡ judged k (length xs) l → n ≢ DONE → r ≡ refused n → Writes r ws xs (write_list k l ws xs)
  list_refused n e z g =
      nothing (judged k (length xs) l) (refuses (judged k (length xs) l) (λ (i : ℕ). not_written i ws xs) _ (λ y. z (e ∙ y)))
      (g ∙ ap refused e)

  pub list_done : (zs : List ℕ) (n : ℕ) → judged k (length xs) l ≡ DONE → n ≡ length (bytes_of k l) → zs ≡ over (bytes_of k l) xs → r ≡ done n
      → Writes r ws zs (write_list k l ws xs)
  list_done zs n j size output g =
      rw
      (goes_on_lem (judged k (length xs) l) (λ (i : ℕ). not_written i ws xs)
      (record { answer = DONE; count = length (bytes_of k l); work = ws; output = over (bytes_of k l) xs }) j)
      (record { outcome = g ∙ ap done size; work = refl; output = output })
