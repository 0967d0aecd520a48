-- What scan and check say of a text, in terms of the definitions.
use Rattle.std.specs.Prelude.{ℕ, ◌-◌, ◌≡◌, List, Result, MatchResult}
use Rattle.answers.specs.Answers.{outcome}
use Rattle.answers.specs.Refusals.{refusal_no}
use Rattle.answers.specs.declared.Outcome.{Outcome}
use Rattle.answers.specs.declared.refusal.Refusal.{Refusal}
use Rattle.text.specs.Text as text
use Rattle.lists.specs.Lst.{extent}
use Rattle.text.specs.Marks.{list_in}
use Rattle.text.specs.Text.{done, refusal, scanned}
-- a text that the scan may be lent
pub use Rattle.text.specs.Laws.SizeLaws.{Sized}
use Rattle.scan.specs.Places.{Outlook}
use Rattle.scan.specs.declared.Scanned.{Scanned}

-- what check says
abbrev pub answered_as : text.Answer → Outcome
answered_as a = outcome a.no a.taken

-- what a scan says whose answer is a, of a list of the extent e
abbrev pub Says : text.Answer → ℕ → Result Scanned Refusal → Type 0
Says a e r = MatchResult r (λ c. (a ≡ done c.taken) × (c.extent ≡ e)) (λ f. a ≡ refusal (refusal_no f))

abbrev pub Scans : List ℕ → Result Scanned Refusal → Type 0
Scans s r = Says (scanned s) (extent (list_in s)) r

-- the outermost "(" begins no element
abbrev pub Foresees : Outlook → Result Scanned Refusal → Type 0
Foresees o r = Says o.answered (o.begins - 1) r
