-- The answer numbers of document 01 by their names, and what a call gives besides what it lends: an answer and a
-- number.
use Rattle.std.specs.Prelude.{cond, ℕ, eqb}
use Rattle.answers.specs.declared.Outcome.{Outcome}
use Rattle.answers.specs.declared.Moved.{Moved}

abbrev pub DONE : ℕ
DONE = 0

-- N or the length is wrong
abbrev pub TABLE_SIZE : ℕ
TABLE_SIZE = 1

-- fewer words are lent than the call needs for N cells
abbrev pub WORK_SPACE : ℕ
WORK_SPACE = 2

-- no multiple of four words, or too many operations
abbrev pub SCRIPT : ℕ
SCRIPT = 3

-- too few words for the results
abbrev pub RESULTS : ℕ
RESULTS = 4

-- the table is not sound
abbrev pub UNSOUND : ℕ
UNSOUND = 5

-- not the code of an operation
abbrev pub CODE : ℕ
CODE = 6

-- a used holder that is none
abbrev pub HOLDER : ℕ
HOLDER = 7

-- the operation uses a and b, and they are equal
abbrev pub SAME : ℕ
SAME = 8

-- a is null
abbrev pub NULL : ℕ
NULL = 9

-- the holder that is to be filled is not null
abbrev pub OCCUPIED : ℕ
OCCUPIED = 10

-- a count over 1 where only one is allowed
abbrev pub SHARED : ℕ
SHARED = 11

-- too few free cells
abbrev pub NO_ROOM : ℕ
NO_ROOM = 12

-- no multiple of 72 bytes, or too many
abbrev pub TEXT_SIZE : ℕ
TEXT_SIZE = 13

-- an empty text
abbrev pub END : ℕ
END = 14

-- a character out of place, or a text that ends inside its list
abbrev pub NOT_A_LIST : ℕ
NOT_A_LIST = 15

-- an atom with too many digits, or too large
abbrev pub ATOM : ℕ
ATOM = 16

-- one level too many
abbrev pub DEEP : ℕ
DEEP = 17

-- the output is too short for the text
abbrev pub OUTPUT : ℕ
OUTPUT = 18

-- bytes that are no list in groups
abbrev pub GROUPS : ℕ
GROUPS = 19

abbrev pub outcome : ℕ → ℕ → Outcome
outcome n k = record { answer = n; count = k }

-- a refused call gives 0 beside its answer
abbrev pub refused : ℕ → Outcome
refused n = outcome n 0

abbrev pub done : ℕ → Outcome
done k = outcome DONE k

-- a move gives two numbers beside its answer
abbrev pub moved : ℕ → ℕ → ℕ → Moved
moved n t w = record { answer = n; taken = t; written = w }

abbrev pub not_moved : ℕ → Moved
not_moved n = moved n 0 0

-- a call goes on where its tests so far answer DONE, and else is refused with their answer
abbrev pub unless : {X : Type 0} → ℕ → (ℕ → X) → X → X
unless n refuse go = cond (eqb n DONE) go (refuse n)
