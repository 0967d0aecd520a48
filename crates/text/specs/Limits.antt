-- The limits of text, each number once.
use Rattle.std.specs.Prelude.{ℕ, ◌*◌}

-- levels that may be open at once
abbrev pub levels : ℕ
levels = 200

abbrev pub record_bytes : ℕ
record_bytes = 72

-- records in a text
abbrev pub records_most : ℕ
records_most = 910

-- bytes in a text
abbrev pub text_most : ℕ
text_most = records_most * record_bytes

-- digits of an atom
abbrev pub digits_most : ℕ
digits_most = 11

-- atoms lie below this number
abbrev pub atoms_end : ℕ
atoms_end = 4294967296
