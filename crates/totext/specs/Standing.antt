-- Where the writing of a text out of groups stands: the lists that are open, innermost first, each by the elements that
-- are to come. They are counted, their groups are next, and so is their text.
use Rattle.std.specs.Prelude.{ℕ, suc, ◌+◌, ◌≤◌, ◌≡◌, List, [], ◌∷◌, ◌++◌, length, get_or, drop}
use Rattle.lists.specs.Lst.{Lst, len, order}
use Rattle.groups.specs.Groups.{elements, Fit}
use Rattle.groups.specs.Holding.{Holding}
use Rattle.text.specs.Limits.{levels}
use Rattle.writing.specs.Walking.{rest}
use Rattle.totext.specs.declared.put.Walk.{Walk}

-- the groups that are to come
abbrev pub todo : List Lst → List ℕ
todo [] = []
todo (l ∷ ls) = elements l ++ todo ls

-- the elements of level n are kept at n, those of the innermost list are in hand
abbrev pub Around : List ℕ → List Lst → Type 0
Around kept [] = Unit {0}
Around kept (l ∷ ls) = (get_or kept (suc (length ls)) 0 ≡ len l) × Around kept ls

abbrev pub Counted : List ℕ → ℕ → List Lst → Type 0
Counted kept n [] = Unit {0}
Counted kept n (l ∷ ls) = (n ≡ len l) × Around kept ls

-- every number is below 2^33, and no list opens level 201
abbrev pub Sound : List Lst → Type 0
Sound [] = Unit {0}
Sound (l ∷ ls) = Fit l × (order l + length ls ≤ levels) × Sound ls

pub record Levels (kept : List ℕ) (w : Walk) (opened : List Lst) : Type 0 where
  pub deep : length opened ≡ w.depth
  pub counted : Counted kept w.left opened
  pub sound : Sound opened
  pub floor : get_or kept 0 0 ≡ 0
  pub wide : length kept ≡ levels

-- in the groups s and the text t
pub record Standing (s t kept : List ℕ) (w : Walk) : Type 0 where
  pub opened : List Lst
  pub stands : Levels kept w opened
  pub later : List ℕ
  pub groups : drop w.from s ≡ todo opened ++ later
  pub text : drop w.to t ≡ rest opened
  pub within : w.to ≤ length t

-- bytes that hold a list, in however many of them
abbrev pub Held : List ℕ → Lst → Type 0
Held s l = (m : ℕ) × Holding s m l
