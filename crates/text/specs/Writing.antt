-- Writing as it is judged: the output that may be used, and the earliest of DEEP and OUTPUT over a text's characters.
use Rattle.std.specs.Prelude.{ℕ, ◌+◌, ◌-◌, ◌*◌, ◌/◌, min, max, List, [], ◌∷◌, Bool, false, cond, eqb, leb}
use Rattle.answers.specs.Answers.{DONE, DEEP, OUTPUT}
use Rattle.text.specs.Limits.{levels, record_bytes, text_most}

-- the bytes of the whole records that fit into the room lent, and into a text
abbrev pub usable : ℕ → ℕ
usable room = min room text_most / record_bytes * record_bytes

-- the levels open after a character
abbrev pub depth_after : ℕ → ℕ → ℕ
depth_after d b = cond (eqb b 40) (d + 1) (cond (eqb b 41) (d - 1) d)

-- a "(" that opens level 201
abbrev pub too_deep : ℕ → ℕ → Bool
too_deep d b = cond (eqb b 40) (leb levels d) false

-- the earliest of DEEP and OUTPUT, DONE where there is none: u bytes are left to use and d levels are open
abbrev pub judged : ℕ → ℕ → List ℕ → ℕ
judged u d [] = DONE
judged u d (b ∷ bs) = cond (too_deep d b) DEEP (cond (eqb u 0) OUTPUT (judged (u - 1) (depth_after d b) bs))

-- the most levels that are open at once
abbrev pub deepest : ℕ → List ℕ → ℕ
deepest d [] = d
deepest d (b ∷ bs) = max d (deepest (depth_after d b) bs)
