-- Groups as they are read: bytes give numbers, and an automaton over the numbers takes a list or meets the earliest
-- fault. A state that refuses or has taken its list stays.
use Rattle.std.specs.Prelude.{ℕ, zero, suc, ◌+◌, ◌-◌, ◌*◌, ◌/◌, ◌%◌, List, [], ◌∷◌, ◌++◌, cond, length, eqb, ltb}
use Rattle.answers.specs.Answers.{DONE, TEXT_SIZE, END, DEEP, GROUPS, unless}
use Rattle.lists.specs.Lst.{Lst}
use Rattle.text.specs.Limits.{levels, text_most}
use Rattle.text.specs.Marks.{Mark, opened, shut, value, pushes, top_of}
use Rattle.text.specs.Text.{Answer, done, refusal}
use Rattle.groups.specs.Groups.{numbers_end}

-- a number with the bytes that it takes, or one that is in more groups than needed or too large
pub data Token : Type 0 where
  num : ℕ → ℕ → Token
  bad : Token

-- a group g before the groups of the first number
abbrev pub more : ℕ → List Token → List Token
more g [] = []
more g (bad ∷ ts) = bad ∷ ts
more g (num v k ∷ ts) =
    cond (eqb v 0) (bad ∷ ts)
    (cond (ltb (g + 128 * v) numbers_end) (num (g + 128 * v) (k + 1) ∷ ts) (bad ∷ ts))

-- the numbers of a run of bytes; a last one that runs out is none, and what is no byte is no group
unfoldable pub tokens : List ℕ → List Token
tokens [] = []
tokens (b ∷ bs) =
    cond (ltb b 128) (num b 1 ∷ tokens bs) (cond (ltb b 256) (more (b - 128) (tokens bs)) (bad ∷ tokens bs))

-- where a reading stands after so many bytes: before the list; among lists, with the elements to come in each, the
-- innermost first; refused; or behind the list
pub data State : Type 0 where
  begin : State
  at : List ℕ → ℕ → State
  refused : ℕ → State
  taken : ℕ → State

-- behind an element: lists with none to come end
abbrev pub closing : List ℕ → ℕ → State
closing [] n = taken n
closing (zero ∷ st) n = closing st n
closing (suc k ∷ st) n = at (suc k ∷ st) n

-- the number v begins an element inside the lists st, where it is counted off; n bytes are behind it
abbrev pub element : List ℕ → ℕ → ℕ → State
element st v n =
    cond (eqb (v % 2) 0) (closing st n) (cond (ltb (length st) levels) (closing (v / 2 ∷ st) n) (refused DEEP))

abbrev pub counted_off : List ℕ → List ℕ
counted_off [] = []
counted_off (zero ∷ st) = zero ∷ st
counted_off (suc k ∷ st) = k ∷ st

-- an atom is no list
abbrev pub next : State → Token → State
next begin (num v k) = cond (eqb (v % 2) 0) (refused GROUPS) (closing (v / 2 ∷ []) k)
next begin bad = refused GROUPS
next (at st n) (num v k) = element (counted_off st) v (n + k)
next (at st n) bad = refused GROUPS
next (refused f) t = refused f
next (taken n) t = taken n

abbrev pub run : State → List Token → State
run st [] = st
run st (t ∷ ts) = run (next st t) ts

-- input that runs out is no list
abbrev pub answer : State → Answer
answer begin = refusal GROUPS
answer (at st n) = refusal GROUPS
answer (refused k) = refusal k
answer (taken n) = done n

-- the answer of bytes whose size is right
unfoldable pub scanned : List ℕ → Answer
scanned s = answer (run begin (tokens s))

-- what is wrong before the bytes are read as a list: too many, or none
unfoldable pub size_fault : List ℕ → ℕ
size_fault s = cond (ltb text_most (length s)) TEXT_SIZE (cond (eqb (length s) 0) END DONE)

unfoldable pub verdict : List ℕ → Answer
verdict s = unless (size_fault s) refusal (scanned s)

-- the lists that end behind an element
abbrev pub shuts : List ℕ → List Mark
shuts [] = []
shuts (zero ∷ st) = shut ∷ shuts st
shuts (suc k ∷ st) = []

-- the marks met at one number, and along a run of them
abbrev pub met : State → Token → List Mark
met begin (num v k) = opened ∷ shuts (v / 2 ∷ [])
met begin bad = []
met (at st n) (num v k) =
    cond (eqb (v % 2) 0) (value (v / 2) ∷ shuts (counted_off st)) (opened ∷ shuts (v / 2 ∷ counted_off st))
met (at st n) bad = []
met (refused f) t = []
met (taken n) t = []

abbrev pub trace : State → List Token → List Mark
trace st [] = []
trace st (t ∷ ts) = met st t ++ trace (next st t) ts

-- the list that a run of bytes holds
unfoldable pub list_in : List ℕ → Lst
list_in s = top_of (pushes (trace begin (tokens s)) [])
