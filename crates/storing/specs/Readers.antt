-- What the readers of a list and of an element ask and do. They go by a list whose elements lie ahead, and whose marks
-- are still to come.
use Rattle.std.specs.Prelude.{◌≡◌, List, ◌∷◌, ◌++◌, false, ℕ, ◌≤◌, drop}
use Rattle.building.specs.Hooks.{hook_cell}
use Rattle.building.specs.Underway.{LeadsTo, Comes, Steps}
use Rattle.building.specs.declared.hook.Hook.{Hook}
use Rattle.building.specs.declared.hook.Hook.TheVariants.{Next}
use Rattle.lists.specs.Lst.{Lst, len}
use Rattle.pool.specs.Pool.{Pool}
use Rattle.table.specs.declared.Form.{Form}
use Rattle.table.specs.declared.Shape.{Shape}
use Rattle.table.specs.View.{view, Table}
use Rattle.text.specs.Marks.{Mark, marks_of}
use Rattle.storing.specs.Ahead.{Ahead, after}
use Rattle.storing.specs.declared.Spot.{Spot}

-- a shape by its parts
abbrev pub shaped : Form → ℕ → ℕ → Shape
shaped f c m = record { form = f; cells = c; holders = m }

-- the rest of some list: n elements ahead, with room for them
pub record Due (s : Shape) (ts : List ℕ) (h : ℕ) (bytes : List ℕ) (at n : ℕ) (k : Hook) : Type 0 where
  pub rest : Lst
  pub later : List ℕ
  pub ahead : Ahead bytes at rest later
  pub count : len rest ≡ n
  pub comes : Comes (view s ts) h k (marks_of false rest)

-- one element at least
abbrev pub DueElement : Shape → List ℕ → ℕ → List ℕ → ℕ → Hook → Type 0
DueElement s ts h bytes at k = (n : ℕ) × (1 ≤ n) × Due s ts h bytes at n k

-- from the rest l of the innermost list to the rest m of it
pub record Passes (s : Shape) (h : ℕ) (ts : List ℕ) (k : Hook) (l : Lst)
    (us : List ℕ) (j : Hook) (m : Lst) : Type 0 where
  pub table : Table s us
  pub leads : (cs : List ℕ) (q : Pool) (later : List Mark)
      → LeadsTo (view s ts) h k cs q (marks_of false l ++ later)
      → LeadsTo (view s us) h j cs q (marks_of false m ++ later)

-- and so along the bytes
pub record Gone (s : Shape) (h : ℕ) (bytes later : List ℕ) (ts : List ℕ) (at : ℕ) (k : Hook) (l : Lst)
    (us : List ℕ) (r : Spot) (m : Lst) : Type 0 where
  pub on : at ≤ r.at
  pub ahead : Ahead bytes r.at m later
  pub passes : Passes s h ts k l us r.hook m

-- the first element of any rest that lies ahead
abbrev pub ReadsElement : Shape → ℕ → List ℕ → List ℕ → ℕ → Hook → List ℕ → Spot → Type 0
ReadsElement s h bytes ts at k us r =
    (l : Lst) (later : List ℕ) → Ahead bytes at l later → 1 ≤ len l → Gone s h bytes later ts at k l us r (after l)

-- of n elements as many are left, at the spot r
pub record Left (s : Shape) (h : ℕ) (bytes later : List ℕ) (ts : List ℕ) (at : ℕ) (k : Hook) (l : Lst)
    (us : List ℕ) (r : Spot) (left : ℕ) : Type 0 where
  pub rest : Lst
  pub count : len rest ≡ left
  pub gone : Gone s h bytes later ts at k l us r rest

abbrev pub Leaves : Shape → ℕ → List ℕ → List ℕ → ℕ → ℕ → Hook → List ℕ → Spot → ℕ → Type 0
Leaves s h bytes ts at n k us r left =
    (l : Lst) (later : List ℕ) → Ahead bytes at l later → len l ≡ n → Left s h bytes later ts at k l us r left

-- all elements, and the end of the list
pub record Ended (s : Shape) (h : ℕ) (bytes later : List ℕ) (ts : List ℕ) (at : ℕ) (k : Hook) (l : Lst)
    (us : List ℕ) (end : ℕ) : Type 0 where
  pub on : at ≤ end
  pub behind : drop end bytes ≡ later
  pub steps : (cs : List ℕ) → Steps s h ts k (hook_cell k ∷ cs) (marks_of false l) us (Next (hook_cell k)) cs

abbrev pub ReadsList : Shape → ℕ → List ℕ → List ℕ → ℕ → ℕ → Hook → List ℕ → ℕ → Type 0
ReadsList s h bytes ts at n k us r =
    (l : Lst) (later : List ℕ) → Ahead bytes at l later → len l ≡ n → Ended s h bytes later ts at k l us r
