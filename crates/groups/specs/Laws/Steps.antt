-- One number before whatever follows: what the automaton does at an atom, at a list and at a list too deep, from any
-- lists that are open, and at the list's own number.
use Rattle.std.specs.Prelude.{ℕ, suc, ◌+◌, ◌/◌, ◌%◌, ◌<◌, ◌≤◌, ◌≡◌, refl, List, [], ◌∷◌, ◌++◌, true, false, length, eqb}
use Rattle.std.proofs.Common.{ap, ◌∙◌, arith, lt-ltb, le-ltb, eq-eqb, ne_eqb}
use Rattle.answers.specs.Answers.{DEEP}
use Rattle.lists.specs.Lst.{Lst, len}
use Rattle.text.specs.Limits.{levels}
use Rattle.text.specs.Marks.{Mark, opened, value}
use Rattle.groups.specs.Groups.{numbers_end, number, atom_number, list_number}
use Rattle.groups.specs.Reading.{Token, num, tokens, State, begin, at, refused, closing, next, run, shuts, met, trace}
use Rattle.groups.specs.Laws.NumberLaws.{tokens-number}
use Rattle.groups.specs.Laws.RunLaws.{rests_refused}

-- where a run ends, and the marks that it meets
pub record Seen : Type 0 where
  pub state : State
  pub marks : List Mark

-- over the bytes s behind an element, inside the lists st
abbrev pub behind : List ℕ → ℕ → List ℕ → Seen
behind st n s =
    record { state = run (closing st n) (tokens s); marks = shuts st ++ trace (closing st n) (tokens s) }

abbrev pub after : List Mark → Seen → Seen
after es x = record { state = x.state; marks = es ++ x.marks }

-- an even number is an atom, an odd one a list
even_half : (v : ℕ) → atom_number v / 2 ≡ v
even_half v = omega arith

odd_half : (l : Lst) → list_number l / 2 ≡ len l
odd_half l = omega arith

even_test : (v : ℕ) → eqb (atom_number v % 2) 0 ≡ true
even_test v = eq-eqb (atom_number v % 2) 0 (omega arith)

odd_test : (l : Lst) → eqb (list_number l % 2) 0 ≡ false
odd_test l = ne_eqb (list_number l % 2) 0 (λ e. omega arith)

module _ (k : ℕ) (st : List ℕ) (n j : ℕ) where
  atom-next : (v : ℕ) → next (at (suc k ∷ st) n) (num (atom_number v) j) ≡ closing (k ∷ st) (n + j)
  atom-next v = rw (even_test v) refl

  atom-met : (v : ℕ) → met (at (suc k ∷ st) n) (num (atom_number v) j) ≡ value v ∷ shuts (k ∷ st)
  atom-met v = rw (even_test v, even_half v) refl

  list_next : (l : Lst) → length (k ∷ st) < levels
      → next (at (suc k ∷ st) n) (num (list_number l) j) ≡ closing (len l ∷ k ∷ st) (n + j)
  list_next l h = rw (odd_test l, lt-ltb (suc (length st)) levels h, odd_half l) refl

  list_met : (l : Lst) → met (at (suc k ∷ st) n) (num (list_number l) j) ≡ opened ∷ shuts (len l ∷ k ∷ st)
  list_met l = rw (odd_test l, odd_half l) refl

  deep_next : (l : Lst) → levels ≤ length (k ∷ st) → next (at (suc k ∷ st) n) (num (list_number l) j) ≡ refused DEEP
  deep_next l h = rw (odd_test l, le-ltb (suc (length st)) levels h) refl

-- one number, before whatever follows
module _ (k : ℕ) (st : List ℕ) (n : ℕ) (s : List ℕ) where
  at-number : (v : ℕ) → v < numbers_end → (u : State) (es : List Mark)
      → next (at (suc k ∷ st) n) (num v (length (number v))) ≡ u
      → met (at (suc k ∷ st) n) (num v (length (number v))) ≡ es
      → behind (suc k ∷ st) n (number v ++ s) ≡ record { state = run u (tokens s); marks = es ++ trace u (tokens s) }
  at-number v h u es p q =
      ap (λ (ts : List Token). record { state = run (at (suc k ∷ st) n) ts; marks = trace (at (suc k ∷ st) n) ts })
      (tokens-number v s h)
      ∙ (λ i. record { state = run (p i) (tokens s); marks = q i ++ trace (p i) (tokens s) })

  pub atom-step : (v : ℕ) → atom_number v < numbers_end
      → behind (suc k ∷ st) n (number (atom_number v) ++ s)
      ≡ after (value v ∷ []) (behind (k ∷ st) (n + length (number (atom_number v))) s)
  atom-step v h =
      let j = length (number (atom_number v)) in
      at-number (atom_number v) h (closing (k ∷ st) (n + j)) (value v ∷ shuts (k ∷ st))
      (atom-next k st n j v) (atom-met k st n j v)

  pub list_step : (l : Lst) → list_number l < numbers_end → length (k ∷ st) < levels
      → behind (suc k ∷ st) n (number (list_number l) ++ s)
      ≡ after (opened ∷ []) (behind (len l ∷ k ∷ st) (n + length (number (list_number l))) s)
  list_step l h d =
      let j = length (number (list_number l)) in
      at-number (list_number l) h (closing (len l ∷ k ∷ st) (n + j)) (opened ∷ shuts (len l ∷ k ∷ st))
      (list_next k st n j l d) (list_met k st n j l)

  pub deep_step : (l : Lst) → list_number l < numbers_end → levels ≤ length (k ∷ st)
      → run (at (suc k ∷ st) n) (tokens (number (list_number l) ++ s)) ≡ refused DEEP
  deep_step l h d =
      ap (run (at (suc k ∷ st) n)) (tokens-number (list_number l) s h)
      ∙ ap (λ (u : State). run u (tokens s)) (deep_next k st n (length (number (list_number l))) l d)
      ∙ rests_refused DEEP (tokens s)

-- the list's own number
pub begin-step : (l : Lst) (s : List ℕ) → list_number l < numbers_end
    → record {
      state = run begin (tokens (number (list_number l) ++ s));
      marks = trace begin (tokens (number (list_number l) ++ s));
    }
    ≡ after (opened ∷ []) (behind (len l ∷ []) (length (number (list_number l))) s)
begin-step l s h =
    let j = length (number (list_number l)) in
    let p : next begin (num (list_number l) j) ≡ closing (len l ∷ []) j = rw (odd_test l, odd_half l) refl in
    let q : met begin (num (list_number l) j) ≡ opened ∷ shuts (len l ∷ [])
    = ap (λ (k : ℕ). opened ∷ shuts (k ∷ [])) (odd_half l) in
    ap (λ (ts : List Token). record { state = run begin ts; marks = trace begin ts }) (tokens-number (list_number l) s h)
    ∙ (λ i. record { state = run (p i) (tokens s); marks = q i ++ trace (p i) (tokens s) })
