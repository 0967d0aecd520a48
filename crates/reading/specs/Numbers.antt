-- The number that begins at a place of a text.
use Rattle.std.specs.Prelude.{List, ℕ, ◌+◌, ◌<◌, length, drop}
use Rattle.scan.specs.Runs.{digit_run, numeral}
use Rattle.text.specs.Limits.{atoms_end}
use Rattle.reading.specs.declared.digits.Number.{Number}

abbrev pub end_at : List ℕ → ℕ → ℕ
end_at s i = i + digit_run (drop i s)

abbrev pub number_at : List ℕ → ℕ → Number
number_at s i = record { value = numeral 0 (drop i s); end = end_at s i }

-- something follows its digits, and its value is a word
pub record Numbered (s : List ℕ) (i : ℕ) : Type 0 where
  pub ends : end_at s i < length s
  pub fits : numeral 0 (drop i s) < atoms_end
