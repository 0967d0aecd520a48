-- The text form as an automaton over the characters: 40 is "(", 41 ")", 44 ",", 32 the blank, 48 to 55 octal digits.
-- One character gives a mark (the next place) or a fault; a state that refuses or has taken its records stays, so the
-- earliest fault wins.
use Rattle.std.specs.Prelude.{ℕ, suc, ◌+◌, ◌-◌, ◌*◌, ◌%◌, List, [], ◌∷◌, Bool, true, false, cond, not, ◌||◌, ◌&&◌, length, drop, eqb, leb, ltb}
use Rattle.answers.specs.Answers.{DONE, TEXT_SIZE, END, NOT_A_LIST, ATOM, DEEP, unless}
use Rattle.text.specs.Limits.{levels, record_bytes, text_most, digits_most, atoms_end}

-- where a scan stands: before the first "(", behind a "(", behind a ",", inside an atom, behind an element, behind the
-- last ")"
pub data Phase : Type 0 where
  at_start after_open after_comma in_atom after_element after_all : Phase

-- a place: the levels open, and the digits so far of an atom with their value
pub record Scan : Type 0 where
  pub phase : Phase
  pub depth : ℕ
  pub digits : ℕ
  pub value : ℕ

pub data Step : Type 0 where
  mark : Scan → Step
  fault : ℕ → Step

-- what the text check answers: its number, and the bytes taken
pub record Answer : Type 0 where
  pub no : ℕ
  pub taken : ℕ

abbrev pub place : Phase → ℕ → ℕ → ℕ → Scan
place p d n v = record { phase = p; depth = d; digits = n; value = v }

-- a list may begin at the start, after "(" and after ","
abbrev pub may_open : Phase → Bool
may_open at_start = true
may_open after_open = true
may_open after_comma = true
may_open in_atom = false
may_open after_element = false
may_open after_all = false

-- ")" may stand after "(", after an atom and after a list
abbrev pub may_shut : Phase → Bool
may_shut at_start = false
may_shut after_open = true
may_shut after_comma = false
may_shut in_atom = true
may_shut after_element = true
may_shut after_all = false

-- "," may stand after an atom and after a list
abbrev pub may_part : Phase → Bool
may_part at_start = false
may_part after_open = false
may_part after_comma = false
may_part in_atom = true
may_part after_element = true
may_part after_all = false

-- an atom may begin after "(" and after ","
abbrev pub may_begin : Phase → Bool
may_begin at_start = false
may_begin after_open = true
may_begin after_comma = true
may_begin in_atom = false
may_begin after_element = false
may_begin after_all = false

-- an atom goes on
abbrev pub is_atom : Phase → Bool
is_atom at_start = false
is_atom after_open = false
is_atom after_comma = false
is_atom in_atom = true
is_atom after_element = false
is_atom after_all = false

-- the last ")" is behind
abbrev pub is_over : Phase → Bool
is_over at_start = false
is_over after_open = false
is_over after_comma = false
is_over in_atom = false
is_over after_element = false
is_over after_all = true

-- "(": the 201st level is a fault of its own
abbrev pub open_at : Phase → ℕ → Step
open_at p d = cond (may_open p) (cond (ltb d levels) (mark (place after_open (d + 1) 0 0)) (fault DEEP)) (fault NOT_A_LIST)

-- ")": ends the innermost open list
abbrev pub shut_at : Phase → ℕ → Step
shut_at p d =
    cond (may_shut p)
    (cond (ltb d 2) (mark (place after_all 0 0 0)) (mark (place after_element (d - 1) 0 0)))
    (fault NOT_A_LIST)

abbrev pub comma_at : Phase → ℕ → Step
comma_at p d = cond (may_part p) (mark (place after_comma d 0 0)) (fault NOT_A_LIST)

abbrev pub blank_at : Phase → Step
blank_at p = cond (is_over p) (mark (place after_all 0 0 0)) (fault NOT_A_LIST)

-- one more digit x, at an atom of n digits so far with the value v: a twelfth digit, or a value of 2^32 or more, is a
-- fault of its own
abbrev pub more_at : ℕ → ℕ → ℕ → ℕ → Step
more_at d n v x =
    cond (ltb n digits_most)
    (cond (ltb (v * 8 + x) atoms_end) (mark (place in_atom d (n + 1) (v * 8 + x))) (fault ATOM))
    (fault ATOM)

-- an octal digit x begins an atom or goes on with one
abbrev pub digit_at : Scan → ℕ → Step
digit_at s x =
    cond (may_begin s.phase) (mark (place in_atom s.depth 1 x))
    (cond (is_atom s.phase) (more_at s.depth s.digits s.value x) (fault NOT_A_LIST))

-- what the character b does at a place
abbrev pub step_of : Scan → ℕ → Step
step_of s b =
    cond (eqb b 40) (open_at s.phase s.depth)
    (cond (eqb b 41) (shut_at s.phase s.depth)
    (cond (eqb b 44) (comma_at s.phase s.depth)
    (cond (eqb b 32) (blank_at s.phase)
    (cond (leb 48 b) (cond (leb b 55) (digit_at s (b - 48)) (fault NOT_A_LIST)) (fault NOT_A_LIST)))))

-- a scan among the records: n bytes are behind it
pub data State : Type 0 where
  at : Scan → ℕ → State
  refused : ℕ → State
  taken : ℕ → State

-- the list has ended and its record is full: these bytes are taken
abbrev pub settle : ℕ → Step → State
settle n (mark s) = cond (is_over s.phase) (cond (eqb (n % record_bytes) 0) (taken n) (at s n)) (at s n)
settle n (fault k) = refused k

abbrev pub next : State → ℕ → State
next (at s n) b = settle (n + 1) (step_of s b)
next (refused k) b = refused k
next (taken n) b = taken n

abbrev pub run : State → List ℕ → State
run st [] = st
run st (b ∷ bs) = run (next st b) bs

abbrev pub begin : Scan
begin = place at_start 0 0 0

abbrev pub done : ℕ → Answer
done n = record { no = DONE; taken = n }

abbrev pub refusal : ℕ → Answer
refusal k = record { no = k; taken = 0 }

-- text that runs out is no list
abbrev pub answer : State → Answer
answer (at s n) = refusal NOT_A_LIST
answer (refused k) = refusal k
answer (taken n) = done n

-- the answer of a text whose size is right
unfoldable pub scanned : List ℕ → Answer
scanned s = answer (run (at begin 0) s)

-- TEXT SIZE: not a multiple of a record, or too many bytes
abbrev pub bad_text : List ℕ → Bool
bad_text s = not (eqb (length s % record_bytes) 0) || ltb text_most (length s)

-- the bytes that are no blanks
unfoldable pub others : List ℕ → ℕ
others [] = 0
others (b ∷ s) = cond (eqb b 32) (others s) (suc (others s))

-- END: nothing to read, no byte but blanks
abbrev pub at_end : List ℕ → Bool
at_end s = eqb (others s) 0

-- what is wrong before the text is read as a list
unfoldable pub size_fault : List ℕ → ℕ
size_fault s = cond (bad_text s) TEXT_SIZE (cond (at_end s) END DONE)

-- what the text check answers
unfoldable pub verdict : List ℕ → Answer
verdict s = unless (size_fault s) refusal (scanned s)

-- where the records after the first list begin: the end where the check refuses, or where nothing is left to read
abbrev pub rest_at : List ℕ → ℕ
rest_at s = cond (eqb (verdict s).no 0 && not (at_end (drop (verdict s).taken s))) (verdict s).taken (length s)
