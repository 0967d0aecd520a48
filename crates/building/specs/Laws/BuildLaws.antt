-- Each step of reading keeps what will be there when all is read: a cell that is off the free chain may be stored before the rest is read or after it.
use Rattle.std.specs.Prelude.{◌≡◌, refl, ◌≢◌, List, [], ◌∷◌, ℕ, suc, ◌+◌, ◌≤◌, ◌<◌, length}
use Rattle.std.proofs.Common.{sym, ap, ◌∙◌, subst, ap₂, arith}
use Rattle.lists.specs.Lst.{Lst, nil, atom, list, extent}
use Rattle.pool.specs.Laws.Edit.{put-length, put_same, put_other, put-put, put_comm}
use Rattle.pool.specs.Laws.Arrows.{Chain_frame}
use Rattle.pool.specs.Operations.{Made, load}
use Rattle.pool.specs.Pool.{at, Cell, put, kind_of, count_of, next_of, followed, set_next, Chain}
use Rattle.pool.specs.Setters.{cell}
use Rattle.pool.specs.Tally.{same, tally, occ}
use Rattle.pool.specs.Laws.TallyLaws.{same_of}
use Rattle.building.specs.Build.{link, Open, Built, built, finished, completed, in_next, in_elem, hung}
use Rattle.building.specs.Reading.{Supply}

-- the first cell of a chain with enough of them
pub record Head (cs : List Cell) (f n : ℕ) (fs : List ℕ) : Type 0 where
  pub rest : List ℕ
  pub live : f ≢ 0
  pub off : occ rest f ≡ 0
  pub parts : (c : ℕ) → occ fs c ≡ same f c + occ rest c
  pub long : length fs ≡ suc (length rest)
  pub supply : Supply cs (next_of cs f) rest n

pub head_of : (cs : List Cell) (f : ℕ) (fs : List ℕ) (n : ℕ) → Supply cs f fs (suc n) → Head cs f n fs
unfolding Chain tally
head_of cs f [] n s = absurd (omega (arith, s.enough))
head_of cs f (g ∷ gs) n s =
    let (e, ng, c) = s.chain in
    record {
      rest = gs;
      live = λ z. ng (sym e ∙ z);
      off = omega (arith, s.once f, same_of g f (sym e));
      parts = λ c. ap (λ u. same u c + occ gs c) (sym e);
      long = refl;
      supply = record { chain = subst (λ u. Chain cs (next_of cs u) gs) (sym e) c; once = λ v. omega (arith, s.once v); enough = omega (arith, s.enough) };
    }

-- fewer cells wanted
pub fewer : {cs : List Cell} {f : ℕ} {fs : List ℕ} {n : ℕ} (m : ℕ) → Supply cs f fs n → m ≤ n → Supply cs f fs m
fewer m s l = record { chain = s.chain; once = s.once; enough = omega (arith, s.enough) }

-- a cell off the chain is stored
pub off-put : {cs : List Cell} {f : ℕ} {fs : List ℕ} {n : ℕ} (c : ℕ) (y : Cell) → Supply cs f fs n → occ fs c ≡ 0 → Supply (put cs c y) f fs n
off-put {cs} {f} {fs} c y s o = record {
  chain = Chain_frame cs (put cs c y) f fs (λ g k. ap (λ x. x.next) (put_other cs c g y (λ e. apart g k e))) s.chain;
  once = s.once;
  enough = s.enough;
}
  where
    apart : (g : ℕ) → 0 < occ fs g → g ≡ c → ⊥
    apart g k e = omega (arith, ap (occ fs) e)

-- what loading a list leaves of the chain
pub record Left (l : Lst) (fs : List ℕ) (z : Made) (n : ℕ) : Type 0 where
  pub rest : List ℕ
  pub supply : Supply z.cells z.free rest n
  pub among : (c : ℕ) → occ rest c ≤ occ fs c

left_of : (l : Lst) (f : ℕ) (cs : List Cell) (fs : List ℕ) (n : ℕ) → Supply cs f fs (extent l + n) → Left l fs (load l f cs) n
unfolding load extent
left_of nil f cs fs n s = record { rest = fs; supply = fewer n s (omega arith); among = λ c. omega arith }
left_of (atom v l) f cs fs n s =
    let h = head_of cs f fs (extent l + n) (fewer (suc (extent l + n)) s (omega arith)) in
    let r = left_of l (next_of cs f) cs h.rest n h.supply in
    record {
      rest = r.rest;
      supply = off-put f (cell 0 v 1 (load l (next_of cs f) cs).head) r.supply (omega (arith, r.among f, h.off));
      among = λ c. omega (arith, r.among c, h.parts c);
    }
left_of (list e l) f cs fs n s =
    let h = head_of cs f fs (extent e + (extent l + n)) (fewer (suc (extent e + (extent l + n))) s (omega arith)) in
    let u = load e (next_of cs f) cs in
    let q = left_of e (next_of cs f) cs h.rest (extent l + n) h.supply in
    let r = left_of l u.free u.cells q.rest n q.supply in
    record {
      rest = r.rest;
      supply = off-put f (cell 1 u.head 1 (load l u.free u.cells).head) r.supply (omega (arith, r.among f, q.among f, h.off));
      among = λ c. omega (arith, r.among c, q.among c, h.parts c);
    }

-- a list made of new cells, with one more cell stored
abbrev also : ℕ → Cell → Made → Made
also c y z = record { free = z.free; cells = put z.cells c y; head = z.head }

-- the cell of an atom and of a list, before what is made
abbrev atom_at : ℕ → ℕ → Made → Made
atom_at f v z = record { free = z.free; cells = put z.cells f (cell 0 v 1 z.head); head = f }

abbrev list_at : ℕ → ℕ → Made → Made
list_at f e z = record { free = z.free; cells = put z.cells f (cell 1 e 1 z.head); head = f }

-- stored first or last
swapped : (f c : ℕ) (x y : Cell) (z : Made) → f ≢ c
    → record { free = z.free; cells = put (put z.cells c y) f x; head = f }
    ≡ also c y (record { free = z.free; cells = put z.cells f x; head = f })
swapped f c x y z n = ap (λ (cs : List Cell). record { free = z.free; cells = cs; head = f }) (put_comm z.cells c f y x (λ e. n (sym e)))

pub load-put : (l : Lst) (f : ℕ) (cs : List Cell) (fs : List ℕ) (c : ℕ) (y : Cell) → Supply cs f fs (extent l) → occ fs c ≡ 0
    → load l f (put cs c y) ≡ also c y (load l f cs)
unfolding load extent
load-put nil f cs fs c y s o = refl
load-put (atom v l) f cs fs c y s o =
    let h = head_of cs f fs (extent l) s in
    let n : f ≢ c = λ e. omega (arith, h.parts c, same_of f c e) in
    let q : next_of (put cs c y) f ≡ next_of cs f = ap (λ x. x.next) (put_other cs c f y n) in
    let ih = load-put l (next_of cs f) cs h.rest c y h.supply (omega (arith, h.parts c)) in
    let z = load l (next_of cs f) cs in
    ap (atom_at f v) (ap (λ u. load l u (put cs c y)) q ∙ ih) ∙ swapped f c (cell 0 v 1 z.head) y z n
load-put (list e l) f cs fs c y s o =
    let h = head_of cs f fs (extent e + extent l) s in
    let n : f ≢ c = λ e. omega (arith, h.parts c, same_of f c e) in
    let q : next_of (put cs c y) f ≡ next_of cs f = ap (λ x. x.next) (put_other cs c f y n) in
    let u = load e (next_of cs f) cs in
    let z = load l u.free u.cells in
    let r = left_of e (next_of cs f) cs h.rest (extent l) h.supply in
    let one : load e (next_of (put cs c y) f) (put cs c y) ≡ also c y u =
    ap (λ k. load e k (put cs c y)) q ∙ load-put e (next_of cs f) cs h.rest c y (fewer (extent e) h.supply (omega arith)) (omega (arith, h.parts c)) in
    let two : load l u.free (put u.cells c y) ≡ also c y z =
    load-put l u.free u.cells r.rest c y r.supply (omega (arith, h.parts c, r.among c)) in
    ap (λ (w : Made). list_at f w.head (load l w.free w.cells)) one
    ∙ ap (list_at f u.head) two
    ∙ swapped f c (cell 1 u.head 1 z.head) y z n

pub load-length : (l : Lst) (f : ℕ) (cs : List Cell) → length (load l f cs).cells ≡ length cs
unfolding load
load-length nil f cs = refl
load-length (atom v l) f cs =
    put-length (load l (next_of cs f) cs).cells f (cell 0 v 1 (load l (next_of cs f) cs).head)
    ∙ load-length l (next_of cs f) cs
load-length (list e l) f cs =
    let u = load e (next_of cs f) cs in
    let z = load l u.free u.cells in
    put-length z.cells f (cell 1 u.head 1 z.head) ∙ load-length l u.free u.cells
    ∙ load-length e (next_of cs f) cs

-- the list begins with the next free cell
pub head-link : (l : Lst) (f : ℕ) (cs : List Cell) → (load l f cs).head ≡ link l f
unfolding load
head-link nil f cs = refl
head-link (atom v l) f cs = refl
head-link (list e l) f cs = refl

-- the cell of an atom and of a list, as the code stores it when the element begins
abbrev pub atom_cell : ℕ → Lst → ℕ → Cell
atom_cell v l g = cell 0 v 1 (link l g)

abbrev pub list_cell : Lst → ℕ → Cell
list_cell e g = cell 1 (link e g) 1 0

abbrev forget : Made → Built
forget z = record { free = z.free; cells = z.cells }

-- an atom begins
pub atom-step : (v : ℕ) (l : Lst) (os : List Open) (f : ℕ) (cs : List Cell) (fs : List ℕ) → Supply cs f fs (extent (atom v l))
    → completed f cs (atom v l) os ≡ completed (next_of cs f) (put cs f (atom_cell v l (next_of cs f))) l os
unfolding load extent
atom-step v l os f cs fs s =
    let h = head_of cs f fs (extent l) s in
    let g = next_of cs f in
    let z = load l g cs in
    let q : atom_at f v z ≡ record { free = z.free; cells = put z.cells f (atom_cell v l g); head = f } =
    ap (λ (k : ℕ). record { free = z.free; cells = put z.cells f (cell 0 v 1 k); head = f }) (head-link l g cs) in
    ap (λ (b : Built). finished b os) (ap forget q ∙ sym (ap forget (load-put l g cs h.rest f (atom_cell v l g) h.supply h.off)))

-- a list begins
pub open_step : (e l : Lst) (os : List Open) (f : ℕ) (cs : List Cell) (fs : List ℕ) → Supply cs f fs (extent (list e l)) → f ≤ length cs
    → completed f cs (list e l) os ≡ completed (next_of cs f) (put cs f (list_cell e (next_of cs f))) e (record { cell = f; rest = l } ∷ os)
unfolding load extent finished
open_step e l os f cs fs s top =
    let h = head_of cs f fs (extent e + extent l) s in
    let g = next_of cs f in
    let u = load e g cs in
    let r = left_of e g cs h.rest (extent l) h.supply in
    let z = load l u.free u.cells in
    let y : Cell = cell 1 (link e g) 1 (link l u.free) in
    let first : load e g (put cs f (list_cell e g)) ≡ also f (list_cell e g) u =
    load-put e g cs h.rest f (list_cell e g) (fewer (extent e) h.supply (omega arith)) h.off in
    let again : set_next (put u.cells f (list_cell e g)) f (link l u.free) ≡ put u.cells f y =
    put-put u.cells f (list_cell e g) (followed (at (put u.cells f (list_cell e g)) f) (link l u.free))
    ∙ ap (λ (x : Cell). put u.cells f (followed x (link l u.free)))
    (put_same u.cells f (list_cell e g) (omega (arith, h.live)) (omega (arith, load-length e g cs))) in
    let last : load l u.free (put u.cells f y) ≡ also f y z =
    load-put l u.free u.cells r.rest f y r.supply (omega (arith, r.among f, h.off)) in
    let whole : list_at f u.head z ≡ record { free = z.free; cells = put z.cells f y; head = f } =
    ap₂ (λ (i j : ℕ). record { free = z.free; cells = put z.cells f (cell 1 i 1 j); head = f }) (head-link e g cs)
    (head-link l u.free u.cells) in
    ap (λ (b : Built). finished b os) (
    ap forget whole
    ∙ sym (ap forget last)
    ∙ sym (ap (λ (xs : List Cell). built u.free xs l) again)
    ∙ sym (ap (λ (w : Made). built w.free (set_next w.cells f (link l w.free)) l) first)
    )

-- a new cell is stored with null for what is not known yet, and that is stored when it is
pub atom-hung : (v : ℕ) (l : Lst) (os : List Open) (f : ℕ) (cs : List Cell) (fs : List ℕ) → Supply cs f fs (extent (atom v l)) → f ≤ length cs
    → completed f cs (atom v l) os ≡ completed (next_of cs f) (hung (in_next f) (link l (next_of cs f)) (put cs f (cell 0 v 1 0))) l os
unfolding extent
atom-hung v l os f cs fs s top =
    let h = head_of cs f fs (extent l) s in
    let g = next_of cs f in
    let x : Cell = cell 0 v 1 0 in
    atom-step v l os f cs fs s
    ∙ ap (λ (ds : List Cell). completed g ds l os) (sym (
    put-put cs f x (followed (at (put cs f x) f) (link l g))
    ∙ ap (λ (y : Cell). put cs f (followed y (link l g))) (put_same cs f x (omega (arith, h.live)) top)))

pub open_hung : (e l : Lst) (os : List Open) (f : ℕ) (cs : List Cell) (fs : List ℕ) → Supply cs f fs (extent (list e l)) → f ≤ length cs
    → completed f cs (list e l) os
    ≡ completed (next_of cs f) (hung (in_elem f) (link e (next_of cs f)) (put cs f (cell 1 0 1 0))) e (record { cell = f; rest = l } ∷ os)
unfolding extent
open_hung e l os f cs fs s top =
    let h = head_of cs f fs (extent e + extent l) s in
    let g = next_of cs f in
    let x : Cell = cell 1 0 1 0 in
    open_step e l os f cs fs s top
    ∙ ap (λ (ds : List Cell). completed g ds e (record { cell = f; rest = l } ∷ os)) (sym (
    put-put cs f x (cell (kind_of (put cs f x) f) (link e g) (count_of (put cs f x) f) (next_of (put cs f x) f))
    ∙ ap (λ (y : Cell). put cs f (cell y.kind (link e g) y.count y.next))
    (put_same cs f x (omega (arith, h.live)) top)))

-- the innermost list ends: the list around it goes on behind its cell
pub shut_hung : (f : ℕ) (cs : List Cell) (o : Open) (os : List Open)
    → completed f cs nil (o ∷ os) ≡ completed f (hung (in_next o.cell) (link o.rest f) cs) o.rest os
unfolding load finished
shut_hung f cs o os = refl

-- all is read
pub shut_last : (f : ℕ) (cs : List Cell) → completed f cs nil [] ≡ record { free = f; cells = cs }
unfolding load finished
shut_last f cs = refl
