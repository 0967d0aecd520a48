-- Where the pass from the end of a text stands: the elements met of each list that is open, and the groups of what is
-- behind.
use Rattle.std.specs.Prelude.{ℕ, suc, ◌+◌, ◌-◌, ◌*◌, ◌<◌, ◌≤◌, ◌≡◌, true, false, Option, None, Some, IfSome, List, [], ◌∷◌, ◌++◌, length, get_or, drop}
use Rattle.groups.specs.Groups.{numbers_end, number}
use Rattle.lists.specs.Lst.{Lst, len}
use Rattle.text.specs.Limits.{levels}
use Rattle.text.specs.ListText.{is_digit_byte}
use Rattle.text.specs.Marks.{list_in}
use Rattle.togroups.specs.Atoms.{Before}
use Rattle.togroups.specs.Backward.{open_in}
use Rattle.togroups.specs.OpenLists.{groups_in, Within}
use Rattle.togroups.specs.declared.atoms.Atom.{Atom}
use Rattle.togroups.specs.declared.walk.Walk.{Walk}

abbrev pub walk : ℕ → ℕ → ℕ → Option ℕ → Walk
walk i d n v = record { at = i; depth = d; count = n; number = v }

abbrev pub behind : ℕ → Walk
behind i = walk i 0 0 None

-- ")"
abbrev pub shut_at : Walk → Walk
shut_at w = walk (w.at - 1) (w.depth + 1) 0 None

-- "(" of an element
abbrev pub open_at : List ℕ → Walk → Walk
open_at outer w =
    walk (w.at - 1) (w.depth - 1) (get_or outer (w.depth - 1) 0 + 1) (Some (2 * w.count + 1))

-- an atom
abbrev pub pass_at : Walk → Atom → Walk
pass_at w a = walk a.from w.depth (w.count + 1) (Some (2 * a.value))

abbrev pub AtomAt : List ℕ → Walk → Walk → Type 0
AtomAt t w r = (a : Atom) × Before t w.at a × (r ≡ pass_at w a)

-- a "," or fill
abbrev pub blank_at : Walk → Walk
blank_at w = walk (w.at - 1) w.depth w.count None

-- the elements met of the open lists, at the innermost and above
abbrev pub Above : List ℕ → List Lst → Type 0
Above outer [] = Unit {0}
Above outer (l ∷ ls) = (get_or outer (suc (length ls)) 0 ≡ len l) × Above outer ls

abbrev pub Here : List ℕ → ℕ → List Lst → Type 0
Here outer n [] = Unit {0}
Here outer n (l ∷ ls) = (n ≡ len l) × Above outer ls

-- not inside a run of digits
abbrev pub Whole : List ℕ → ℕ → Type 0
Whole t i = is_digit_byte (get_or t (i - 1) 0) ≡ true → is_digit_byte (get_or t i 0) ≡ false

pub record Walking (t outer : List ℕ) (w : Walk) : Type 0 where
  pub some : 1 ≤ w.at
  pub within : w.at ≤ length t
  pub whole : Whole t w.at
  pub deep : length (open_in (drop w.at t)) ≡ w.depth
  pub here : Here outer w.count (open_in (drop w.at t))
  pub few : w.count ≤ length (groups_in (open_in (drop w.at t)))
  pub wide : length outer ≡ levels
  pub lists : Within (list_in t) (open_in (drop w.at t))

-- the groups behind a place
abbrev pub groups_from : List ℕ → ℕ → List ℕ
groups_from t i = groups_in (open_in (drop i t))

-- those of the number that a step has met, if it met one
abbrev pub met : Option ℕ → List ℕ
met None = []
met (Some v) = number v

pub record Stepped (t next : List ℕ) (w r : Walk) : Type 0 where
  pub walks : Walking t next r
  pub back : r.at < w.at
  pub groups : groups_from t r.at ≡ met r.number ++ groups_from t w.at
  pub small : IfSome r.number (λ v. v < numbers_end)
