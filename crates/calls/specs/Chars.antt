-- A quoted text as its characters' numbers, and records of them.
use Rattle.std.specs.Prelude.{ℕ, List, [] as none, ◌∷◌ as ◌before◌, replicate}
use Prim.Native.Char.{code}
use Prim.Native.String.{String, [], ◌∷◌}
use Rattle.text.specs.Limits.{record_bytes}
use Rattle.calls.specs.Entry.{over}

abbrev pub chars : String → List ℕ
chars [] = none
chars (c ∷ s) = code c before chars s

abbrev pub blanks : ℕ → List ℕ
blanks n = replicate n 32

-- a record that begins with these characters
abbrev pub in_record : String → List ℕ
in_record s = over (chars s) (blanks record_bytes)
