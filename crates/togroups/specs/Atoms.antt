-- An atom of a text as it is found from its end.
use Rattle.std.specs.Prelude.{ℕ, ◌+◌, ◌-◌, ◌^◌, ◌<◌, ◌≤◌, ◌≡◌, true, false, List, length, get_or, drop}
use Rattle.groups.specs.Groups.{numbers_end}
use Rattle.scan.specs.Runs.{digit_run, numeral}
use Rattle.text.specs.ListText.{is_digit_byte}
use Rattle.togroups.specs.Backward.{Runs}
use Rattle.togroups.specs.declared.atoms.Atom.{Atom}

-- a text that begins with no digit, with no run too long
pub record Textual (t : List ℕ) : Type 0 where
  pub begins : is_digit_byte (get_or t 0 0) ≡ false
  pub runs : Runs t

-- digits end before `at`
pub record Ends (t : List ℕ) (at : ℕ) : Type 0 where
  pub text : Textual t
  pub some : 1 ≤ at
  pub within : at ≤ length t
  pub last : is_digit_byte (get_or t (at - 1) 0) ≡ true
  pub ended : is_digit_byte (get_or t at 0) ≡ false

-- the digits from i up to `at`, where they end
pub record Digits (t : List ℕ) (at i : ℕ) : Type 0 where
  pub some : 1 ≤ i
  pub before : i < at
  pub first : is_digit_byte (get_or t i 0) ≡ true
  pub run : i + digit_run (drop i t) ≡ at

-- those from i on, which come to v; one before them is worth w times as much
pub record Gathered (t : List ℕ) (i v w : ℕ) : Type 0 where
  pub text : Textual t
  pub some : 1 ≤ i
  pub within : i < length t
  pub first : is_digit_byte (get_or t i 0) ≡ true
  pub value : v ≡ numeral 0 (drop i t)
  pub worth : w ≡ 8 ^ digit_run (drop i t)

-- all of them
pub record Before (t : List ℕ) (at : ℕ) (a : Atom) : Type 0 where
  pub digits : Digits t at a.from
  pub starts : is_digit_byte (get_or t (a.from - 1) 0) ≡ false
  pub value : a.value ≡ numeral 0 (drop a.from t)
  pub small : a.value < numbers_end
