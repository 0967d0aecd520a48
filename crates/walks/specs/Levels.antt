-- Where a walk through a list stands: the lists that are still to come on each open level, innermost first, and the
-- cells that stand for them.
use Rattle.std.specs.Prelude.{ℕ, suc, ◌≤◌, ◌≡◌, Bool, false, cond, not, List, [], ◌∷◌, eqb, length, get_or}
use Rattle.lists.specs.Lst.{Lst, path}
use Rattle.pool.specs.Pool.{Cell, kind_of, ListAt}
use Rattle.text.specs.Limits.{levels}

-- the cell x has a list for its element
abbrev pub opens_at : List Cell → ℕ → Bool
opens_at cs x = cond (eqb x 0) false (not (eqb (kind_of cs x) 0))

-- number c stands for the list l, and no way through it is longer than the pool
abbrev pub Ahead : List Cell → ℕ → Lst → Type 0
Ahead cs c l = ListAt cs c l × (path l ≤ length cs)

-- level n goes on with the cell kept at n
abbrev pub Above : List Cell → List ℕ → List Lst → Type 0
Above cs after [] = Unit {0}
Above cs after (l ∷ ls) = Ahead cs (get_or after (suc (length ls)) 0) l × Above cs after ls

abbrev pub Here : List Cell → List ℕ → ℕ → List Lst → Type 0
Here cs after x [] = Unit {0}
Here cs after x (l ∷ ls) = Ahead cs x l × Above cs after ls

-- at the cell x, with d levels open
pub record Levels (cs : List Cell) (after : List ℕ) (x d : ℕ) (opened : List Lst) : Type 0 where
  pub deep : length opened ≡ d
  pub here : Here cs after x opened
  pub floor : get_or after 0 0 ≡ 0
  pub wide : length after ≡ levels
  pub low : d ≤ levels
