-- What the code's values stand for.
use Rattle.std.specs.Prelude.{◌≡◌, List, [], ℕ, ◌+◌, ◌-◌, ◌<◌, length, drop, take, Option, Some, None}
use Rattle.std.specs.Borrow.{Bor}
use Rattle.std.proofs.lemmas.List.Edits.{sets}
use Rattle.answers.specs.declared.code.Code.{Code}
use Rattle.answers.specs.Operations.{code_no}
use Rattle.lines.specs.declared.order.Order.{Order}
use Rattle.lines.specs.declared.order.Order.TheVariants.{New, Operation, Reading, Writing}
use Rattle.lines.specs.Numbers.{Start, number, none}
use Rattle.lines.specs.Splitting.{Line, line, long, Part, going, ended, eaten}
use Rattle.lines.specs.Commands.{Name, Command, malformed, new, operation, reading, writing}

-- a number and the bytes behind it, or a number that ends the bytes
abbrev pub found : Option (ℕ × Bor (List ℕ)) → Start
found (Some (v, rest)) = number v rest.now
found None = none

abbrev pub found_last : Option ℕ → Start
found_last (Some v) = number v []
found_last None = none

abbrev pub named : Option (Code × Bor (List ℕ)) → Option Name
named (Some (c, rest)) = Some (record { code = code_no c; rest = rest.now })
named None = None

abbrev pub meant : Option Order → Command
meant None = malformed
meant (Some (New n)) = new n
meant (Some (Operation c a b v)) = operation (code_no c) a b v
meant (Some (Reading h text)) = reading h text.now
meant (Some (Writing h)) = writing h

-- bytes stored from a place on, and the place behind them
pub record Puts (bs : List ℕ) (at : ℕ) (old : List ℕ) (end : ℕ) (new : List ℕ) : Type 0 where
  pub place : end ≡ at + length bs
  pub bytes : new ≡ sets old at bs

-- a line that has ended: its bytes, or nothing where it was too long
abbrev pub line_is : Option (Bor (List ℕ)) → Line
line_is (Some bs) = line bs.now
line_is None = long

-- bytes of a chunk up to the end of a line have been taken in, and the rest stands behind them
pub record Ends (chunk : List ℕ) (old : Part) (rest : List ℕ) (new : Part) : Type 0 where
  pub is : ended new ≡ eaten (going old) (take (length chunk - length rest) chunk)
  pub behind : rest ≡ drop (length chunk - length rest) chunk
  pub some : length rest < length chunk
