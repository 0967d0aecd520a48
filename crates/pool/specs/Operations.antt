-- Setting up, the eleven operations in the order of their codes, and reading: what each makes of a pool that allows it.
-- What an operation refuses, and what it says, stands in Script.
use Rattle.std.specs.Prelude.{Bool, false, cond, ◌||◌, List, [], ◌∷◌, ℕ, zero, suc, eqb, ltb, length, replicate}
use Rattle.lists.specs.Lst.{Lst, nil, atom, list}
use Rattle.pool.specs.Pool.{Cell, blank, Pool, put, kind_of, elem_of, count_of, next_of, set_count, set_next, holder, ListAt}
use Rattle.pool.specs.Setters.{put_free, put_holder, celled, put_count, put_next, cell, new_cell, release}
use Rattle.pool.specs.Erase.{dropped}

-- the cells of a new pool: m of them, the first with number i + 1, each followed by the next and the last by 0
unfoldable pub laid : ℕ → ℕ → List Cell
laid i zero = []
laid i (suc zero) = blank ∷ []
laid i (suc (suc m)) = cell 0 0 0 (suc (suc i)) ∷ laid (suc i) (suc m)

-- setting up: n cells and k holders
unfoldable pub fresh : ℕ → ℕ → Pool
fresh n k = record { free = 1; holders = replicate k 0; cells = laid 0 n }

-- one more arrow to c, null or live
unfoldable pub share : List Cell → ℕ → List Cell
share cs zero = cs
share cs (suc i) = set_count cs (suc i) (suc (count_of cs (suc i)))

abbrev pub borrowed : ℕ → Pool → Pool
borrowed c p = celled (share p.cells c) p

-- what a cell's element gives to a holder: the list, or null for an atom
unfoldable pub item_of : ℕ → ℕ → ℕ
item_of zero e = 0
item_of (suc t) e = e

abbrev pub item : List Cell → ℕ → ℕ
item cs x = item_of (kind_of cs x) (elem_of cs x)

-- PFA: the head of the free chain becomes the first cell of a
unfoldable pub pfa : Pool → ℕ → ℕ → Pool
pfa p a v =
    let x = p.free in
    put_holder a x (new_cell x (cell 0 v 1 (holder p a)) p)

-- PFL: the same with the list of b for its element; the arrow of b becomes the cell's
unfoldable pub pfl : Pool → ℕ → ℕ → Pool
pfl p a b =
    let x = p.free in
    put_holder b 0 (put_holder a x (new_cell x (cell 1 (holder p b) 1 (holder p a)) p))

-- DECAP: the arrows of the first cell become those of the holders, and the cell is freed
unfoldable pub decap : Pool → ℕ → ℕ → Pool
decap p a b =
    let x = holder p a in
    let q = release x (put_count x 0 p) in
    put_holder b (item p.cells x) (put_holder a (next_of p.cells x) q)

-- ADV: element and tail are borrowed, then the old list is erased
unfoldable pub adv : Pool → ℕ → ℕ → Pool
adv p a b =
    let x = holder p a in
    let s = next_of p.cells x in
    let e = item p.cells x in
    let z = dropped p.free (share (share p.cells e) s) x in
    put_holder b e (put_holder a s (put_free z.free (celled z.cells p)))

-- BORROW
unfoldable pub borrow : Pool → ℕ → ℕ → Pool
borrow p a b = put_holder b (holder p a) (borrowed (holder p a) p)

-- ERASE: the pool after it, and the number of cells freed
unfoldable pub erase : Pool → ℕ → Pool × ℕ
erase p h =
    let z = dropped p.free p.cells (holder p h) in
    (put_holder h 0 (put_free z.free (celled z.cells p)), z.freed)

-- INV: x goes on, y is done, and at most k cells are turned
unfoldable pub flip : ℕ → List Cell → ℕ → ℕ → List Cell × ℕ
flip zero cs x y = (cs, y)
flip (suc k) cs zero y = (cs, y)
flip (suc k) cs (suc i) y = flip k (set_next cs (suc i) y) (next_of cs (suc i)) (suc i)

unfoldable pub inv : Pool → ℕ → Pool
inv p a = let (cs, z) = flip (length p.cells) p.cells (holder p a) 0 in put_holder a z (celled cs p)

-- a list made of new cells: where the free chain goes on, the cells, and the list's first
pub record Made : Type 0 where
  pub free : ℕ
  pub cells : List Cell
  pub head : ℕ

-- CINV: the copy of cell x before y, and the cells with it in the free cell f, its list borrowed
abbrev pub twin : List Cell → ℕ → ℕ → Cell
twin cs x y = cell (kind_of cs x) (elem_of cs x) 1 y

abbrev pub with_twin : ℕ → List Cell → ℕ → ℕ → List Cell
with_twin f cs x y = put (share cs (item cs x)) f (twin cs x y)

unfoldable pub copy : ℕ → ℕ → List Cell → ℕ → ℕ → Made
copy zero f cs x y = record { free = f; cells = cs; head = y }
copy (suc k) f cs zero y = record { free = f; cells = cs; head = y }
copy (suc k) f cs (suc i) y =
    let f' = next_of (share cs (item cs (suc i))) f in
    copy k f' (with_twin f cs (suc i) y) (next_of cs (suc i)) f

unfoldable pub cinv : Pool → ℕ → ℕ → Pool
cinv p a b =
    let z = copy (length p.cells) p.free p.cells (holder p a) 0 in
    put_holder b z.head (put_free z.free (celled z.cells p))

-- CONC: the last cell of the main level from x, at most k cells on
unfoldable pub last_of : ℕ → List Cell → ℕ → ℕ
last_of zero cs x = x
last_of (suc k) cs x = elim (next_of cs x) [ zero ↦ x | suc i ↦ last_of k cs (suc i) ]

unfoldable pub conc_at : Pool → ℕ → ℕ → ℕ → ℕ → Pool
conc_at p a b x zero = p
conc_at p a b zero (suc j) = put_holder b 0 (put_holder a (suc j) p)
conc_at p a b (suc i) (suc j) =
    let x = last_of (length p.cells) p.cells (suc i) in
    put_holder b 0 (put_holder a (suc i) (put_next x (suc j) p))

unfoldable pub conc : Pool → ℕ → ℕ → Pool
conc p a b = conc_at p a b (holder p a) (holder p b)

-- LENGTH: the cells of the main level from c, at most k
unfoldable pub span : ℕ → List Cell → ℕ → ℕ
span zero cs c = 0
span (suc k) cs zero = 0
span (suc k) cs (suc i) = suc (span k cs (next_of cs (suc i)))

abbrev pub length_of : Pool → ℕ → ℕ
length_of p a = span (length p.cells) p.cells (holder p a)

-- some count of the main level from c is over 1, at most k cells on
unfoldable pub any_shared : ℕ → List Cell → ℕ → Bool
any_shared zero cs c = false
any_shared (suc k) cs zero = false
any_shared (suc k) cs (suc i) = let r = any_shared k cs (next_of cs (suc i)) in ltb 1 (count_of cs (suc i)) || r

abbrev pub shared_at : Pool → ℕ → Bool
shared_at p a = any_shared (length p.cells) p.cells (holder p a)

-- reading: the cells of a list; an element takes the first free cell, then comes what is inside it, then what is behind
unfoldable pub load : Lst → ℕ → List Cell → Made
load nil f cs = record { free = f; cells = cs; head = 0 }
load (atom v l) f cs =
    let z = load l (next_of cs f) cs in
    record { free = z.free; cells = put z.cells f (cell 0 v 1 z.head); head = f }
load (list e l) f cs =
    let u = load e (next_of cs f) cs in
    let z = load l u.free u.cells in
    record { free = z.free; cells = put z.cells f (cell 1 u.head 1 z.head); head = f }

unfoldable pub read : Pool → ℕ → Lst → Pool
read p h l =
    let z = load l p.free p.cells in
    put_holder h z.head (put_free z.free (celled z.cells p))

-- writing: the list that number c stands for, at most k cells deep
unfoldable pub list_from : ℕ → List Cell → ℕ → Lst
list_from zero cs c = nil
list_from (suc k) cs zero = nil
list_from (suc k) cs (suc i) =
    let l = list_from k cs (next_of cs (suc i)) in
    let e = list_from k cs (elem_of cs (suc i)) in
    cond (eqb (kind_of cs (suc i)) 0) (atom (elem_of cs (suc i)) l) (list e l)

-- the list at number x, and that x stands for a list
abbrev pub list_at : List Cell → ℕ → Lst
list_at cs x = list_from (length cs) cs x

abbrev pub Stands : List Cell → ℕ → Type 0
Stands cs x = ListAt cs x (list_at cs x)

abbrev pub list_of : Pool → ℕ → Lst
list_of p h = list_from (length p.cells) p.cells (holder p h)
