-- What a line asks for: one of fourteen names, and behind it numbers with a blank before each. READ's text is what
-- stands behind the second blank.
use Rattle.std.specs.Prelude.{Bool, true, false, cond, ◌&&◌, List, [], ◌∷◌, ℕ, eqb, length, drop, Option, Some, None}
use Prim.Native.String.{String}
use Rattle.calls.specs.Chars.{chars}
use Rattle.pool.specs.Script.{PFA, PFL, DECAP, ADV, BORROW, ERASE, INV, CINV, CONC, FIRST, LENGTH}
use Rattle.lines.specs.Numbers.{Start, number, none, number_in, parted, ended}

pub data Command : Type 0 where
  malformed : Command
  new : ℕ → Command
  operation : ℕ → ℕ → ℕ → ℕ → Command
  reading : ℕ → List ℕ → Command
  writing : ℕ → Command

unfoldable pub starts_with : List ℕ → List ℕ → Bool
starts_with [] s = true
starts_with (c ∷ cs) [] = false
starts_with (c ∷ cs) (x ∷ s) = eqb c x && starts_with cs s

-- an operation that is named: its code, and what stands behind its name and blank
pub record Name : Type 0 where
  pub code : ℕ
  pub rest : List ℕ

-- a name, unless one was found before it
unfoldable pub name_or : List ℕ → ℕ → List ℕ → Option Name → Option Name
name_or n c s (Some x) = Some x
name_or n c s None = cond (starts_with n s) (Some (record { code = c; rest = drop (length n) s })) None

abbrev pub named : String → ℕ → List ℕ → Option Name → Option Name
named n = name_or (chars n)

-- those that take two numbers, PFA a and v, the others a and b; and those that take only a; the last stands first
unfoldable pub name_of_two : List ℕ → Option Name
name_of_two s =
    named "CONC " CONC s (
    named "CINV " CINV s (
    named "BORROW " BORROW s (
    named "ADV " ADV s (
    named "DECAP " DECAP s (
    named "PFL " PFL s (
    named "PFA " PFA s None))))))

unfoldable pub name_of_one : List ℕ → Option Name
name_of_one s =
    named "LENGTH " LENGTH s (
    named "FIRST " FIRST s (
    named "INV " INV s (
    named "ERASE " ERASE s None)))

abbrev pub second : ℕ → ℕ → ℕ → Command
second c a x = cond (eqb c PFA) (operation c a 0 x) (operation c a x 0)

abbrev pub with_second : ℕ → ℕ → Start → Command
with_second c a none = malformed
with_second c a (number x s) = second c a x

abbrev pub with_two : ℕ → Start → Command
with_two c none = malformed
with_two c (number a s) = with_second c a (ended (number_in s))

abbrev pub with_one : ℕ → Start → Command
with_one c none = malformed
with_one c (number a s) = operation c a 0 0

abbrev pub operation_in : Option Name → Option Name → Command
operation_in (Some n) one = with_two n.code (parted (number_in n.rest))
operation_in None (Some n) = with_one n.code (ended (number_in n.rest))
operation_in None None = malformed

abbrev pub new_in : Start → Command
new_in none = malformed
new_in (number n s) = new n

-- READ's text has at least one byte
abbrev pub with_text : ℕ → List ℕ → Command
with_text h [] = malformed
with_text h (c ∷ s) = reading h (c ∷ s)

abbrev pub reading_in : Start → Command
reading_in none = malformed
reading_in (number h s) = with_text h s

abbrev pub writing_in : Start → Command
writing_in none = malformed
writing_in (number h s) = writing h

unfoldable pub command : List ℕ → Command
command s =
    cond (starts_with (chars "NEW ") s) (new_in (ended (number_in (drop 4 s))))
    (cond (starts_with (chars "READ ") s) (reading_in (parted (number_in (drop 5 s))))
    (cond (starts_with (chars "WRITE ") s) (writing_in (ended (number_in (drop 6 s))))
    (operation_in (name_of_two s) (name_of_one s))))
