-- What a reader says of the bytes between two places, in terms of the automaton: with the lists around left open, some
-- elements to come at the one place lead to fewer at the other.
use Rattle.std.specs.Prelude.{ℕ, suc, ◌-◌, ◌<◌, ◌≤◌, ◌≡◌, List, ◌∷◌, length, drop, Result, Ok, Err, IfOk}
use Rattle.answers.specs.Refusals.{refusal_no}
use Rattle.answers.specs.declared.refusal.Refusal.{Refusal}
use Rattle.text.specs.Text.{done, refusal}
use Rattle.groups.specs.Reading.{State, closing, run, answer, tokens, scanned}

-- where the bytes from i on lead, with k elements to come in the innermost of the lists that are open
abbrev pub onward : List ℕ → ℕ → ℕ → List ℕ → State
onward s i k st = run (closing (k ∷ st) i) (tokens (drop i s))

-- k to come at i lead to m to come at j, whatever is to come in the lists around
pub record Leads (s : List ℕ) (level i k j m : ℕ) : Type 0 where
  pub on : i ≤ j
  pub within : j ≤ length s
  pub same : (st : List ℕ) → suc (length st) ≡ level → onward s i k st ≡ onward s j m st

-- atoms of one byte each, from i up to r, come first among k elements
pub record Atoms (s : List ℕ) (i k r : ℕ) : Type 0 where
  pub on : i ≤ r
  pub few : r - i ≤ k
  pub leads : (level : ℕ) → Leads s level i k r (k - (r - i))

-- k to come at i end in a fault
abbrev pub Stops : List ℕ → ℕ → ℕ → ℕ → ℕ → Type 0
Stops s level i k f = (st : List ℕ) → suc (length st) ≡ level → answer (onward s i k st) ≡ refusal f

-- what a reader finds that goes from k elements to come at i to m: a place, or why there is none
abbrev pub Reads : List ℕ → ℕ → ℕ → ℕ → ℕ → Result ℕ Refusal → Type 0
Reads s level i k m (Ok r) = Leads s level i k r m
Reads s level i k m (Err f) = Stops s level i k (refusal_no f)

-- what the reader of an element finds: it takes bytes, and one element off
pub record Element (s : List ℕ) (level i : ℕ) (r : Result ℕ Refusal) : Type 0 where
  pub takes : IfOk r (λ (j : ℕ). i < j)
  pub reads : (k : ℕ) → Reads s level i (suc k) k r

-- what the reader of a whole list finds
abbrev pub ReadsWhole : List ℕ → Result ℕ Refusal → Type 0
ReadsWhole s (Ok r) = (r ≤ length s) × (scanned s ≡ done r)
ReadsWhole s (Err f) = scanned s ≡ refusal (refusal_no f)
