-- A text that the check takes, along the places of its steps.
use Rattle.std.specs.Prelude.{◌≡◌, List, ℕ, ◌≤◌, length, drop, Ok}
use Rattle.scan.specs.Places as places
use Rattle.scan.specs.Places.{prospect, prospect_at}
use Rattle.scan.specs.declared.step.Place.{Place}
use Rattle.text.specs.Limits.{levels}
use Rattle.text.specs.Text.{State, scanned, verdict, done}

pub record Taken (s : List ℕ) : Type 0 where
  pub bytes : ℕ
  pub is : verdict s ≡ done bytes

-- what is said at the place p is said of the whole text
pub record Accepting (s : List ℕ) (p : Place) : Type 0 where
  pub within : p.at ≤ length s
  pub levelled : p.depth ≤ levels
  pub counted : p.elements ≤ p.at
  pub answered : (prospect_at s p).answered ≡ scanned s

-- a place before the last ")"
pub record Amid (s : List ℕ) (p : Place) : Type 0 where
  pub taken : Taken s
  pub place : Accepting s p
  pub deep : 1 ≤ p.depth

-- what is said of the text is said of a state of the automaton behind i bytes
abbrev pub Said : List ℕ → State → ℕ → Type 0
Said s st i = (prospect st (drop i s)).answered ≡ scanned s

-- a step from p to q, and what follows a ")" up to q
abbrev pub Goes : List ℕ → Place → Place → Type 0
Goes s p q = places.Taken s p (Ok q)

abbrev pub Closes : List ℕ → ℕ → ℕ → ℕ → Place → Type 0
Closes s d e i q = places.Closed s d e i (Ok q)
