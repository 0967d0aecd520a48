-- Where the check for a move stands, by the automaton over numbers: the lists that are open and what the numbers so far
-- bring to the text; and what the check says.
use Rattle.std.specs.Prelude.{ℕ, zero, suc, ◌+◌, ◌*◌, ◌<◌, ◌≤◌, ◌≡◌, List, [], ◌∷◌, length, get_or, drop, Result, Ok, Err}
use Rattle.answers.specs.Refusals.{refusal_no}
use Rattle.answers.specs.declared.refusal.Refusal.{Refusal}
use Rattle.groups.specs.Reading.{Token, num, bad, tokens, begin, closing, run, scanned, list_in}
use Rattle.text.specs.Limits.{levels}
use Rattle.text.specs.ListText.{text_of}
use Rattle.text.specs.Text.{done, refusal}
use Rattle.totext.specs.declared.check.Checked.{Checked}
use Rattle.totext.specs.declared.put.Walk.{Walk}
use Rattle.totext.specs.Sizing.{chars, chars_most}

-- the elements to come in the lists around, and in all that are open
abbrev pub around : List ℕ → ℕ → List ℕ
around kept zero = []
around kept (suc d) = get_or kept (suc d) 0 ∷ around kept d

abbrev pub opened : List ℕ → ℕ → ℕ → List ℕ
opened kept zero n = []
opened kept (suc d) n = n ∷ around kept d

-- the characters of a run of numbers
unfoldable pub chars_in : List Token → ℕ
chars_in [] = 0
chars_in (num v k ∷ ts) = chars v + chars_in ts
chars_in (bad ∷ ts) = chars_in ts

pub record Checking (s kept : List ℕ) (w : Walk) : Type 0 where
  pub runs : run begin (tokens s) ≡ run (closing (opened kept w.depth w.left) w.from) (tokens (drop w.from s))
  pub sum : chars_in (tokens s) ≡ w.to + chars_in (tokens (drop w.from s))
  pub few : w.to ≤ chars_most * w.from
  pub within : w.from ≤ length s
  pub floor : get_or kept 0 0 ≡ 0
  pub wide : length kept ≡ levels
  pub low : w.depth ≤ levels

-- a number passed: on to r, which takes bytes, or a fault
abbrev pub Passes : List ℕ → Walk → List ℕ → Result Walk Refusal → Type 0
Passes s w next (Ok r) = Checking s next r × (1 ≤ r.depth) × (2 * w.from + r.depth < 2 * r.from + w.depth)
Passes s w next (Err f) = scanned s ≡ refusal (refusal_no f)

abbrev pub Checks : List ℕ → Result Checked Refusal → Type 0
Checks s (Ok c) = (scanned s ≡ done c.taken) × (c.size ≡ length (text_of (list_in s)))
Checks s (Err f) = scanned s ≡ refusal (refusal_no f)
