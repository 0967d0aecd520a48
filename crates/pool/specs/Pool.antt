-- The pool of cells, whatever the layout of the words: cells, the list a number stands for, reaching, and soundness.
use Rattle.std.specs.Prelude.{◌≡◌, ◌≢◌, ◌⊎◌, cond, List, [], ◌∷◌, ℕ, zero, suc, ◌+◌, ◌≤◌, ◌<◌, eqb, length, get_or, set}
use Rattle.lists.specs.Lst.{Lst, nil, atom, list}
use Rattle.pool.specs.Tally.{same, tally, occ}

pub record Cell : Type 0 where
  pub kind : ℕ
  pub elem : ℕ
  pub count : ℕ
  pub next : ℕ

abbrev pub blank : Cell
blank = record { kind = 0; elem = 0; count = 0; next = 0 }

pub record Pool : Type 0 where
  pub free : ℕ
  pub holders : List ℕ
  pub cells : List Cell

-- cell number c, from 1; number 0 and those past the end read as blank
abbrev pub at : List Cell → ℕ → Cell
at cs zero = blank
at cs (suc i) = get_or cs i blank

abbrev pub put : List Cell → ℕ → Cell → List Cell
put cs zero x = cs
put cs (suc i) x = set cs i x

abbrev pub kind_of : List Cell → ℕ → ℕ
kind_of cs c = (at cs c).kind

abbrev pub elem_of : List Cell → ℕ → ℕ
elem_of cs c = (at cs c).elem

abbrev pub count_of : List Cell → ℕ → ℕ
count_of cs c = (at cs c).count

abbrev pub next_of : List Cell → ℕ → ℕ
next_of cs c = (at cs c).next

-- one field of a cell replaced
abbrev pub counted : Cell → ℕ → Cell
counted x k = record { kind = x.kind; elem = x.elem; count = k; next = x.next }

abbrev pub followed : Cell → ℕ → Cell
followed x s = record { kind = x.kind; elem = x.elem; count = x.count; next = s }

abbrev pub set_count : List Cell → ℕ → ℕ → List Cell
set_count cs c k = put cs c (counted (at cs c) k)

abbrev pub set_next : List Cell → ℕ → ℕ → List Cell
set_next cs c s = put cs c (followed (at cs c) s)

abbrev pub holder : Pool → ℕ → ℕ
holder p h = get_or p.holders h 0

-- live: the count is not 0 (so number 0 and numbers past the end are not live); all other cells are free
abbrev pub Live : List Cell → ℕ → Type 0
Live cs c = 0 < count_of cs c

abbrev pub NullOrLive : List Cell → ℕ → Type 0
NullOrLive cs c = (c ≡ 0) ⊎ Live cs c

abbrev pub InPool : List Cell → ℕ → Type 0
InPool cs c = (0 < c) × (c ≤ length cs)

-- number c stands for the list l, by live cells
unfoldable pub ListAt : List Cell → ℕ → Lst → Type 0
ListAt cs c nil = c ≡ 0
ListAt cs c (atom a l) = Live cs c × (kind_of cs c ≡ 0) × (elem_of cs c ≡ a) × ListAt cs (next_of cs c) l
ListAt cs c (list e l) = Live cs c × (kind_of cs c ≡ 1) × ListAt cs (elem_of cs c) e × ListAt cs (next_of cs c) l

-- n for a live cell, 0 for a free one
unfoldable pub if_live : ℕ → ℕ → ℕ
if_live zero n = 0
if_live (suc k) n = n

-- the arrows of a cell to cell d, were it live: S, and E where the type is 1
unfoldable pub gives : ℕ → Cell → ℕ
gives d x = same x.next d + cond (eqb x.kind 1) (same x.elem d) 0

-- those that it sends
unfoldable pub sends : ℕ → Cell → ℕ
sends d x = if_live x.count (gives d x)

-- how many live cells have d as S, and how many of type 1 have it as E
unfoldable pub by_next : List Cell → ℕ → ℕ
by_next cs d = tally (λ x. if_live x.count (same x.next d)) cs

unfoldable pub by_elem : List Cell → ℕ → ℕ
by_elem cs d = tally (λ x. if_live x.count (cond (eqb x.kind 1) (same x.elem d) 0)) cs

-- all arrows of live cells to d
abbrev pub into : List Cell → ℕ → ℕ
into cs d = tally (sends d) cs

-- one step along S, or along E of a cell of type 1; and n steps
abbrev pub StepOf : Cell → ℕ → Type 0
StepOf x d = (0 < x.count) × ((x.next ≡ d) ⊎ ((x.kind ≡ 1) × (x.elem ≡ d)))

abbrev pub Step : List Cell → ℕ → ℕ → Type 0
Step cs c d = StepOf (at cs c) d

unfoldable pub Walk : List Cell → ℕ → ℕ → ℕ → Type 0
Walk cs zero c d = c ≡ d
Walk cs (suc n) c d = (m : ℕ) × Step cs c m × Walk cs n m d

-- holder h reaches cell c
abbrev pub Reaches : Pool → ℕ → ℕ → Type 0
Reaches p h c = (n : ℕ) × Walk p.cells n (holder p h) c

-- the chain from c by S is the list fs, and ends in 0
unfoldable pub Chain : List Cell → ℕ → List ℕ → Type 0
Chain cs c [] = c ≡ 0
Chain cs c (f ∷ fs) = (c ≡ f) × (f ≢ 0) × Chain cs (next_of cs f) fs

-- 1 for a cell with count 0, 0 for a live cell and for a number that is no cell
unfoldable pub mark : List Cell → ℕ → ℕ
mark cs zero = 0
mark [] (suc i) = 0
mark (x ∷ xs) (suc zero) = same x.count 0
mark (x ∷ xs) (suc (suc i)) = mark xs (suc i)

-- how many cells are live, and how many free
unfoldable pub lives : List Cell → ℕ
lives cs = tally (λ x. if_live x.count 1) cs

unfoldable pub frees : List Cell → ℕ
frees cs = tally (λ x. same x.count 0) cs

pub record Sound (p : Pool) : Type 0 where
  -- the chain from the first free cell ends, and its cells are the free ones, each once
  pub chain : (fs : List ℕ) × Chain p.cells p.free fs × ((c : ℕ) → occ fs c ≡ mark p.cells c)
  pub kinds : (c : ℕ) → Live p.cells c → (kind_of p.cells c ≡ 0) ⊎ (kind_of p.cells c ≡ 1)
  pub nexts : (c : ℕ) → Live p.cells c → NullOrLive p.cells (next_of p.cells c)
  pub elems : (c : ℕ) → Live p.cells c → kind_of p.cells c ≡ 1 → NullOrLive p.cells (elem_of p.cells c)
  pub holds : (h : ℕ) → NullOrLive p.cells (holder p h)
  pub counts : (c : ℕ) → Live p.cells c
      → count_of p.cells c ≡ occ p.holders c + by_next p.cells c + by_elem p.cells c
  pub acyclic : (c n : ℕ) → Live p.cells c → Walk p.cells (suc n) c c → ⊥
