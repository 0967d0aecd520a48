-- The number that begins at a place of a run of bytes, as the code gives it.
use Rattle.std.specs.Prelude.{ℕ, ◌+◌, ◌*◌, List, [], ◌∷◌, Option, Some, None, cond, eqb, ltb, drop}
use Rattle.groups.specs.Groups.{numbers_end}
use Rattle.groups.specs.Reading.{Token, num, bad, tokens}
use Rattle.numbers.specs.declared.Number.{Number}

abbrev pub ending : ℕ → ℕ → Option Number
ending v j = Some (record { value = v; end = j })

-- the first of the numbers that begin behind i bytes
abbrev pub first : ℕ → List Token → Option Number
first i [] = None
first i (bad ∷ ts) = None
first i (num v k ∷ ts) = ending v (i + k)

abbrev pub number_in : List ℕ → ℕ → Option Number
number_in s i = first i (tokens (drop i s))

-- groups that come to v, the last of which is w, up to j
abbrev pub ended : ℕ → ℕ → ℕ → Option Number
ended v w j = cond (eqb w 0) None (cond (ltb v numbers_end) (ending v j) None)

-- groups that come to low, and above them, where 1 is worth `scale`, the first of the numbers that begin behind i bytes
abbrev pub raised : ℕ → ℕ → ℕ → List Token → Option Number
raised low scale i [] = None
raised low scale i (bad ∷ ts) = None
raised low scale i (num w k ∷ ts) = ended (low + scale * w) w (i + k)
