-- Demand 2, which cells: what is done uses the cells that document 01 names, and leaves all others. For each operation,
-- and for reading: what stands in every holder and every cell afterwards, and which cell is the first free one.
use Rattle.std.specs.Prelude.{◌≡◌, ◌≢◌, ◌⊎◌, cond, List, [], ◌∷◌, map, ℕ, suc, ◌+◌, ◌<◌, eqb, length, get_or, take}
use Rattle.answers.specs.Answers.{DONE}
use Rattle.lists.specs.Lst.{Lst, nil, atom, list, extent}
use Rattle.pool.specs.Tally.{occ}
use Rattle.pool.specs.Pool.{Cell, Pool, at, kind_of, elem_of, count_of, next_of, counted, followed, holder, Live, Chain}
use Rattle.pool.specs.Script.{PFA, PFL, DECAP, ADV, BORROW, ERASE, INV, CINV, CONC, FIRST, LENGTH, Operation}
use Rattle.calls.specs.Entry.{shown, over}
use Rattle.promises.specs.Engine.{Engine}
use Rattle.promises.specs.Rows.{OneOf}
use Rattle.promises.specs.Grounds.{UsesB, MainLevel}
use Rattle.promises.specs.StoredGrounds.{Spells}
use Rattle.groups.specs.declared.Stored.{Stored}
use Rattle.promises.specs.Demand1.{words_of}
use Rattle.promises.specs.Erasing.{Erased}
use Rattle.table.specs.declared.Form.{Form}

-- an operation that is done makes of the pool p a pool q with R
abbrev pub Makes : (form : Form) → Engine → (Operation → Pool → Pool → Type 0) → Type 0
Makes form E R =
    (ts ws rs : List ℕ) (o : Operation) → let r = E.run ts ws (words_of o) rs in
    r.answer ≡ DONE → R o (shown form ts) (shown form r.table)

-- as many cells and holders
pub record Sized (p q : Pool) : Type 0 where
  pub cells : length q.cells ≡ length p.cells
  pub holders : length q.holders ≡ length p.holders

-- cell x is y now, and every other is as it was
pub record Only (x : ℕ) (y : Cell) (p q : Pool) : Type 0 where
  pub here : at q.cells x ≡ y
  pub rest : (c : ℕ) → c ≢ x → at q.cells c ≡ at p.cells c

-- the i-th of some cells, from 0, and the one before it; 0 past the last and before the first
abbrev pub nth : List ℕ → ℕ → ℕ
nth xs i = get_or xs i 0

abbrev pub before : List ℕ → ℕ → ℕ
before xs i = get_or (0 ∷ xs) i 0

abbrev pub end_of : List ℕ → ℕ
end_of xs = before xs (length xs)

-- the list that is the element of cell x, null for an atom
abbrev pub sublist : List Cell → ℕ → ℕ
sublist cs x = cond (eqb (kind_of cs x) 1) (elem_of cs x) 0

-- the lists xs are borrowed: every count goes up by as often as they name the cell, and nothing else changes
pub record Raised (xs : List ℕ) (cs ds : List Cell) : Type 0 where
  pub size : length ds ≡ length cs
  pub counts : (c : ℕ) → c ≢ 0 → at ds c ≡ counted (at cs c) (count_of cs c + occ xs c)

-- whatever the operation: the sizes stay, and the holders that it does not use
abbrev pub SizesStay : (form : Form) → Engine → Type 0
SizesStay form E = Makes form E (λ o p q. Sized p q)

abbrev pub HoldersStay : (form : Form) → Engine → Type 0
HoldersStay form E = Makes form E (λ o p q. (i : ℕ) → i ≢ o.a → (UsesB o.code → i ≢ o.b) → holder q i ≡ holder p i)

-- PFA and PFL: a new cell of type t with element e is the head of the free chain, and the first of a
pub record Prefixed (t e a : ℕ) (p q : Pool) : Type 0 where
  pub head : holder q a ≡ p.free
  pub free : q.free ≡ next_of p.cells p.free
  pub cells : Only p.free (record { kind = t; elem = e; count = 1; next = holder p a }) p q

abbrev pub PrefixTakesHead : (form : Form) → Engine → Type 0
PrefixTakesHead form E = Makes form E (λ o p q. o.code ≡ PFA → Prefixed 0 o.v o.a p q)

abbrev pub PrefixListTakesHead : (form : Form) → Engine → Type 0
PrefixListTakesHead form E =
    Makes form E (λ o p q. o.code ≡ PFL → Prefixed 1 (holder p o.b) o.a p q × (holder q o.b ≡ 0))

-- DECAP: the first cell's arrows become those of the holders, and the cell goes to the head of the free chain; it keeps
-- T and E
pub record Decapped (a b : ℕ) (p q : Pool) : Type 0 where
  pub tail : holder q a ≡ next_of p.cells (holder p a)
  pub element : holder q b ≡ sublist p.cells (holder p a)
  pub free : q.free ≡ holder p a
  pub cells : let x = holder p a in
      Only x (record { kind = kind_of p.cells x; elem = elem_of p.cells x; count = 0; next = p.free }) p q

abbrev pub DecapFreesToHead : (form : Form) → Engine → Type 0
DecapFreesToHead form E = Makes form E (λ o p q. o.code ≡ DECAP → Decapped o.a o.b p q)

-- ADV: element and tail are borrowed, then the old list is erased
pub record Advanced (a b : ℕ) (p q : Pool) : Type 0 where
  pub tail : holder q a ≡ next_of p.cells (holder p a)
  pub element : holder q b ≡ sublist p.cells (holder p a)
  pub borrowed : List Cell
  pub lent : Raised (sublist p.cells (holder p a) ∷ next_of p.cells (holder p a) ∷ []) p.cells borrowed
  pub freed : ℕ
  pub erased : Erased q.free q.cells p.free borrowed (holder p a) [] freed

abbrev pub AdvErases : (form : Form) → Engine → Type 0
AdvErases form E = Makes form E (λ o p q. o.code ≡ ADV → Advanced o.a o.b p q)

-- BORROW: b becomes list a itself, a keeps it, and no cell is new
pub record Borrowed (a b : ℕ) (p q : Pool) : Type 0 where
  pub kept : holder q a ≡ holder p a
  pub shared : holder q b ≡ holder p a
  pub free : q.free ≡ p.free
  pub cells : Raised (holder p a ∷ []) p.cells q.cells

abbrev pub BorrowShares : (form : Form) → Engine → Type 0
BorrowShares form E = Makes form E (λ o p q. o.code ≡ BORROW → Borrowed o.a o.b p q)

-- ERASE: a becomes null and its list is erased; the number told is that of the cells freed
abbrev pub EraseErases : (form : Form) → Engine → Type 0
EraseErases form E =
    (ts ws rs : List ℕ) (o : Operation) → let r = E.run ts ws (words_of o) rs in
    r.answer ≡ DONE → o.code ≡ ERASE → let p = shown form ts in let q = shown form r.table in
    (holder q o.a ≡ 0)
    × ((n : ℕ) × Erased q.free q.cells p.free p.cells (holder p o.a) [] n
    × (r.results ≡ over (2 ∷ n ∷ []) rs))

-- INV: each cell xs of the main level comes before the one that was before it
pub record Turned (xs : List ℕ) (a : ℕ) (p q : Pool) : Type 0 where
  pub head : holder q a ≡ end_of xs
  pub free : q.free ≡ p.free
  pub turned : (i : ℕ) → i < length xs → at q.cells (nth xs i) ≡ followed (at p.cells (nth xs i)) (before xs i)
  pub rest : (c : ℕ) → occ xs c ≡ 0 → at q.cells c ≡ at p.cells c

abbrev pub InvTurns : (form : Form) → Engine → Type 0
InvTurns form E =
    Makes form E (λ o p q. o.code ≡ INV → (xs : List ℕ) → Chain p.cells (holder p o.a) xs → Turned xs o.a p q)

-- the copy of cell x before s
abbrev pub copy_of : List Cell → ℕ → ℕ → Cell
copy_of cs x s = record { kind = kind_of cs x; elem = elem_of cs x; count = 1; next = s }

-- CINV: of the free chain fs the i-th cell is the copy of the i-th of the main level xs, prefixed to those before it
pub record Copied (xs fs : List ℕ) (a b : ℕ) (p q : Pool) : Type 0 where
  pub kept : holder q a ≡ holder p a
  pub head : holder q b ≡ before fs (length xs)
  pub free : q.free ≡ nth fs (length xs)
  pub copied : (i : ℕ) → i < length xs → at q.cells (nth fs i) ≡ copy_of p.cells (nth xs i) (before fs i)
  pub rest : (c : ℕ) → c ≢ 0 → occ (take (length xs) fs) c ≡ 0
      → at q.cells c ≡ counted (at p.cells c) (count_of p.cells c + occ (map (sublist p.cells) xs) c)

abbrev pub CinvCopies : (form : Form) → Engine → Type 0
CinvCopies form E =
    Makes form E (λ o p q. o.code ≡ CINV → (xs fs : List ℕ) → Chain p.cells (holder p o.a) xs
    → Chain p.cells p.free fs → Copied xs fs o.a o.b p q)

-- CONC: with b null nothing changes; with a null, a gets b's list; else the last cell of the main level xs of a comes
-- before b's list
pub record Joined (xs : List ℕ) (a b : ℕ) (p q : Pool) : Type 0 where
  pub free : q.free ≡ p.free
  pub null : holder q b ≡ 0
  pub nothing : holder p b ≡ 0 → (holder q a ≡ holder p a) × ((c : ℕ) → at q.cells c ≡ at p.cells c)
  pub given : holder p b ≢ 0 → holder p a ≡ 0
      → (holder q a ≡ holder p b) × ((c : ℕ) → at q.cells c ≡ at p.cells c)
  pub joined : holder p b ≢ 0 → holder p a ≢ 0
      → (holder q a ≡ holder p a) × Only (end_of xs) (followed (at p.cells (end_of xs)) (holder p b)) p q

abbrev pub ConcJoins : (form : Form) → Engine → Type 0
ConcJoins form E =
    Makes form E (λ o p q. o.code ≡ CONC → (xs : List ℕ) → Chain p.cells (holder p o.a) xs
    → Joined xs o.a o.b p q)

-- FIRST and LENGTH change no word
abbrev pub asking : List ℕ
asking = FIRST ∷ LENGTH ∷ []

abbrev pub AskingLeaves : (form : Form) → Engine → Type 0
AskingLeaves form E =
    (ts ws rs : List ℕ) (o : Operation) → let r = E.run ts ws (words_of o) rs in
    r.answer ≡ DONE → OneOf o.code asking → r.table ≡ ts

-- reading

-- the cell of a list's first element, where the k-th element to begin in the bytes has cell fs k, and this is the k-th;
-- the null list has none
abbrev pub start_of : (ℕ → ℕ) → ℕ → Lst → ℕ
start_of fs k nil = 0
start_of fs k (atom v l) = fs k
start_of fs k (list e l) = fs k

-- the elements of a list, the k-th to begin and those after it, stand in their cells: an element begins before what is
-- inside it, and that before what follows it
unfoldable pub Laid : List Cell → (ℕ → ℕ) → ℕ → Lst → Type 0
Laid ds fs k nil = Unit {0}
Laid ds fs k (atom v l) =
    (at ds (fs k) ≡ record { kind = 0; elem = v; count = 1; next = start_of fs (suc k) l }) × Laid ds fs (suc k) l
Laid ds fs k (list e l) =
    let j = suc k + extent e in
    (at ds (fs k) ≡ record { kind = 1; elem = start_of fs (suc k) e; count = 1; next = start_of fs j l })
    × Laid ds fs (suc k) e × Laid ds fs j l

-- the list l read into holder h: of the free chain fs the i-th cell is that of the i-th element to begin
pub record ReadIn (l : Lst) (fs : List ℕ) (h : ℕ) (p q : Pool) : Type 0 where
  pub sized : Sized p q
  pub head : holder q h ≡ start_of (nth fs) 0 l
  pub others : (i : ℕ) → i ≢ h → holder q i ≡ holder p i
  pub free : q.free ≡ nth fs (extent l)
  pub laid : Laid q.cells (nth fs) 0 l
  pub rest : (c : ℕ) → occ (take (extent l) fs) c ≡ 0 → at q.cells c ≡ at p.cells c

abbrev pub ReadingUsesItsCells : (form : Form) → Engine → Type 0
ReadingUsesItsCells form E =
    (k : Stored) (ts ws : List ℕ) (h : ℕ) (xs : List ℕ) → let r = E.read k ts ws h xs in
    r.answer ≡ DONE → let p = shown form ts in
    (l : Lst) (fs : List ℕ) → Spells k xs r.count l → Chain p.cells p.free fs
    → ReadIn l fs h p (shown form r.table)

-- no cell moves: one that is live before and after keeps T and E, and S but on the main level of a in INV and CONC
abbrev pub turning : List ℕ
turning = INV ∷ CONC ∷ []

abbrev pub StaysBut : Type 0 → List Cell → List Cell → ℕ → Type 0
StaysBut M cs ds c = (kind_of ds c ≡ kind_of cs c) × (elem_of ds c ≡ elem_of cs c) × ((next_of ds c ≡ next_of cs c) ⊎ M)

abbrev pub LiveCellsStay : (form : Form) → Engine → Type 0
LiveCellsStay form E =
    Makes form E (λ o p q. (c : ℕ) → Live p.cells c → Live q.cells c
    → StaysBut (OneOf o.code turning × MainLevel p o.a c) p.cells q.cells c)
