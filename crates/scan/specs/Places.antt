-- Places in a text, of the code and of the automaton: what a place says of the rest of the text, and what a step from
-- it must say.
use Rattle.std.specs.Prelude.{ℕ, zero, suc, ◌+◌, ◌-◌, ◌<◌, ◌≤◌, ◌≡◌, List, [], ◌∷◌, ◌++◌, Bool, true, false, cond, length, drop, get_or, eqb, leb, ltb, Option, MatchOption, Result, Ok, Err}
use Rattle.answers.specs.Refusals.{refusal_no}
use Rattle.answers.specs.declared.refusal.Refusal.{Refusal}
use Rattle.answers.specs.declared.refusal.Refusal.TheVariants.{Deep}
use Rattle.text.specs.Limits.{levels, digits_most, text_most}
use Rattle.text.specs.Text as text
use Rattle.text.specs.Text.{State, place, mark, settle, run, answer, refusal}
use Rattle.text.specs.Marks as marks
use Rattle.text.specs.Marks.{Mark, shut, value, trace, beginnings}
use Rattle.scan.specs.Runs.{digit_run, numeral}
use Rattle.scan.specs.declared.step.Place.{Place}

abbrev pub placed : ℕ → ℕ → ℕ → Bool → Place
placed i d e f = record { at = i; depth = d; elements = e; first = f }

-- behind the outermost "("
abbrev pub opened : Place
opened = placed 1 1 0 true

-- a mark, or a fault
abbrev pub Step : Type 0
Step = Result Place Refusal

-- "("
abbrev pub open_of : ℕ → ℕ → ℕ → Step
open_of d e i = cond (leb levels d) (Err Deep) (Ok (placed (i + 1) (d + 1) (e + 1) true))

-- n digits of which b is the first are no atom
abbrev pub too_long_atom : ℕ → ℕ → Bool
too_long_atom n b = cond (ltb n digits_most) false (cond (ltb digits_most n) true (ltb 51 b))

-- where the digits at i end, or that they are too many for an atom
abbrev pub AtomEnd : List ℕ → ℕ → Option ℕ → Type 0
AtomEnd s i u =
    let end = i + 1 + digit_run (drop (i + 1) s) in
    let long = too_long_atom (end - i) (get_or s i 0) in
    MatchOption u (long ≡ true) (λ e. (e ≡ end) × (long ≡ false))

abbrev pub phase_of : Bool → text.Phase
phase_of true = text.after_open
phase_of false = text.after_comma

-- the automaton behind the last ")", after i bytes
abbrev pub over_at : ℕ → State
over_at i = settle i (mark (place text.after_all 0 0 0))

-- where the automaton stands at a place
abbrev pub state_of : Place → State
state_of p = cond (eqb p.depth 0) (over_at p.at) (text.at (place (phase_of p.first) p.depth 0 0) p.at)

-- and behind a ")" that leaves d levels open, after i bytes
abbrev pub closed_at : ℕ → ℕ → State
closed_at d i = cond (eqb d 0) (over_at i) (text.at (place text.after_element d 0 0) i)

-- what the rest of a text brings: the answer, and the marks that begin an element or the list, k before it counted
pub record Outlook : Type 0 where
  pub answered : text.Answer
  pub begins : ℕ

abbrev pub outlook : ℕ → State → List ℕ → Outlook
outlook k st l = record { answered = answer (run st l); begins = k + beginnings (trace st l) }

-- the outermost "(" begins no element
abbrev pub outlook_at : List ℕ → Place → Outlook
outlook_at s p = outlook (p.elements + 1) (state_of p) (drop p.at s)

-- the same with the marks themselves
pub record Prospect : Type 0 where
  pub answered : text.Answer
  pub marks : List Mark

abbrev pub prospect : State → List ℕ → Prospect
prospect st l = record { answered = answer (run st l); marks = trace st l }

abbrev pub prospect_at : List ℕ → Place → Prospect
prospect_at s p = prospect (state_of p) (drop p.at s)

-- with marks that come before
abbrev pub behind : List Mark → Prospect → Prospect
behind ms o = record { answered = o.answered; marks = ms ++ o.marks }

-- n lists end
abbrev pub shuts : ℕ → List Mark
shuts zero = []
shuts (suc n) = shut ∷ shuts n

-- the marks between two places: a list begins, or an atom of the value v or nothing stands before the ends of lists
abbrev pub passed : ℕ → Place → Place → List Mark
passed v p q =
    let atom = cond (ltb p.elements q.elements) (value v ∷ []) [] in
    cond (ltb p.depth q.depth) (marks.opened ∷ []) (atom ++ shuts (p.depth - q.depth))

abbrev pub emitted : List ℕ → Place → Place → List Mark
emitted s p q = passed (numeral 0 (drop p.at s)) p q

-- a place inside a list, with a character to look at
pub record Inside (s : List ℕ) (p : Place) : Type 0 where
  pub some : p.at < length s
  pub small : length s ≤ text_most
  pub deep : 1 ≤ p.depth
  pub levelled : p.depth ≤ levels
  pub counted : p.elements ≤ p.at

-- behind a ")" that leaves d levels open
pub record Closing (s : List ℕ) (d e i : ℕ) : Type 0 where
  pub some : 1 ≤ i
  pub within : i ≤ length s
  pub small : length s ≤ text_most
  pub levelled : d ≤ levels
  pub counted : e ≤ i

-- a step from the place i, of e elements, whose prospect is o: behind the marks ms is the prospect of q
pub record Onward (s : List ℕ) (i e top : ℕ) (o : Prospect) (ms : List Mark) (q : Place) : Type 0 where
  pub on : i < q.at
  pub within : q.at ≤ length s
  pub levelled : q.depth ≤ levels
  pub counted : q.elements ≤ q.at
  pub tallied : q.elements ≡ e + beginnings ms
  pub high : q.depth ≤ top
  pub same : o ≡ behind ms (prospect (state_of q) (drop q.at s))

-- a mark goes on behind the marks that m says, a fault is the answer
abbrev pub Told : List ℕ → ℕ → ℕ → ℕ → Prospect → (Place → List Mark) → Step → Type 0
Told s i e top o m (Ok q) = Onward s i e top o (m q) q
Told s i e top o m (Err f) = o.answered ≡ refusal (refusal_no f)

-- a step from p
abbrev pub Taken : List ℕ → Place → Step → Type 0
Taken s p u = Told s p.at p.elements (p.depth + 1) (prospect_at s p) (emitted s p) u

-- what follows a ")" that leaves d levels open
abbrev pub Closed : List ℕ → ℕ → ℕ → ℕ → Step → Type 0
Closed s d e i u = Told s (i - 1) e d (prospect (closed_at d i) (drop i s)) (λ q. shuts (d - q.depth)) u
