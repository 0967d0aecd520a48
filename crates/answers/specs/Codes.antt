-- The words of a script and of its results: the operations by their codes, the kinds of results, and how many words
-- each operation has.
use Rattle.std.specs.Prelude.{ℕ, ◌*◌}

abbrev pub PFA : ℕ
PFA = 1

abbrev pub PFL : ℕ
PFL = 2

abbrev pub DECAP : ℕ
DECAP = 3

abbrev pub ADV : ℕ
ADV = 4

abbrev pub BORROW : ℕ
BORROW = 5

abbrev pub ERASE : ℕ
ERASE = 6

abbrev pub INV : ℕ
INV = 7

abbrev pub CINV : ℕ
CINV = 8

abbrev pub CONC : ℕ
CONC = 9

abbrev pub FIRST : ℕ
FIRST = 10

abbrev pub LENGTH : ℕ
LENGTH = 11

-- the codes end here
abbrev pub last_code : ℕ
last_code = LENGTH

-- the words of an operation in a script: code, a, b and v
abbrev pub operation_words : ℕ
operation_words = 4

-- the operations of a script
abbrev pub operations_most : ℕ
operations_most = 4096

-- the words of a script
abbrev pub script_most : ℕ
script_most = operation_words * operations_most

-- the words of a result: kind and value
abbrev pub result_words : ℕ
result_words = 2

-- the kinds: an atom, which is the value; a list; a number, which is the value; nothing to say
abbrev pub atom_kind : ℕ
atom_kind = 0

abbrev pub list_kind : ℕ
list_kind = 1

abbrev pub number_kind : ℕ
number_kind = 2

abbrev pub nothing_kind : ℕ
nothing_kind = 3
