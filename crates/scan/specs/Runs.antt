-- Runs of octal digits.
use Rattle.std.specs.Prelude.{ℕ, suc, ◌+◌, ◌-◌, ◌*◌, ◌<◌, ◌≤◌, ◌≡◌, List, [], ◌∷◌, cond, length, drop, Option, Some, None}
use Rattle.text.specs.ListText.{is_digit_byte}

-- the number of digits that a text begins with
abbrev pub digit_run : List ℕ → ℕ
digit_run [] = 0
digit_run (b ∷ bs) = cond (is_digit_byte b) (suc (digit_run bs)) 0

-- the value of those digits, behind digits of the value v
abbrev pub numeral : ℕ → List ℕ → ℕ
numeral v [] = v
numeral v (b ∷ bs) = cond (is_digit_byte b) (numeral (v * 8 + (b - 48)) bs) v

-- where the digits at i end, if they are fewer than eight; else eight of them stand there, in front of any others
abbrev pub Near : List ℕ → ℕ → Option ℕ → Type 0
Near s i (Some e) = (e ≡ i + digit_run (drop i s)) × (e < i + 8)
Near s i None = (i + 8 ≤ length s) × (digit_run (drop i s) ≡ 8 + digit_run (drop (i + 8) s))
