-- The machine that the SAC-1 report describes, without cells: a list for each holder, and what each operation makes of
-- them and says.
use Rattle.std.specs.Prelude.{◌≡◌, cond, List, [], ◌∷◌, ◌++◌, ℕ, eqb}
use Rattle.answers.specs.Codes.{atom_kind, list_kind, number_kind, nothing_kind}
use Rattle.lists.specs.Lst.{Lst, nil, atom, list, len, reversed, joined}
use Rattle.pool.specs.Script.{PFA, PFL, DECAP, ADV, BORROW, ERASE, INV, CINV, CONC, FIRST, LENGTH, Operation, among}

-- the list of each holder
abbrev pub Lists : Type 0
Lists = ℕ → Lst

-- holder a gets the list l
unfoldable pub assign : Lists → ℕ → Lst → Lists
assign m a l i = cond (eqb i a) l (m i)

-- the list without its first element, and that element where it is a list
unfoldable pub tail : Lst → Lst
tail nil = nil
tail (atom v l) = l
tail (list e l) = l

unfoldable pub head_list : Lst → Lst
head_list nil = nil
head_list (atom v l) = nil
head_list (list e l) = e

-- the lists after an operation
unfoldable pub turn : Lists → Operation → Lists
turn m o =
    let a = o.a in
    let b = o.b in
    cond (eqb o.code PFA) (assign m a (atom o.v (m a)))
    (cond (eqb o.code PFL) (assign (assign m a (list (m b) (m a))) b nil)
    (cond (eqb o.code DECAP) (assign (assign m a (tail (m a))) b (head_list (m a)))
    (cond (eqb o.code ADV) (assign (assign m a (tail (m a))) b (head_list (m a)))
    (cond (eqb o.code BORROW) (assign m b (m a))
    (cond (eqb o.code ERASE) (assign m a nil)
    (cond (eqb o.code INV) (assign m a (reversed (m a)))
    (cond (eqb o.code CINV) (assign m b (reversed (m a)))
    (cond (eqb o.code CONC) (assign (assign m a (joined (m a) (m b))) b nil)
    m))))))))

-- kind and value: 0 and the first element where it is an atom, 1 and 0 where it is a list
unfoldable pub first_of : Lst → List ℕ
first_of nil = nothing_kind ∷ 0 ∷ []
first_of (atom v l) = atom_kind ∷ v ∷ []
first_of (list e l) = list_kind ∷ 0 ∷ []

-- the two result words of an operation; n is the number of cells that ERASE frees
unfoldable pub says : Lists → Operation → ℕ → List ℕ
says m o n =
    cond (among o.code (DECAP ∷ ADV ∷ FIRST ∷ [])) (first_of (m o.a))
    (cond (eqb o.code ERASE) (number_kind ∷ n ∷ [])
    (cond (eqb o.code LENGTH) (number_kind ∷ len (m o.a) ∷ [])
    (nothing_kind ∷ 0 ∷ [])))

-- a script

unfoldable pub turn_all : Lists → List Operation → Lists
turn_all m [] = m
turn_all m (o ∷ os) = turn_all (turn m o) os

unfoldable pub Says : Lists → List Operation → List ℕ → Type 0
Says m [] qs = qs ≡ []
Says m (o ∷ os) qs = (n : ℕ) × (ps : List ℕ) × (qs ≡ says m o n ++ ps) × Says (turn m o) os ps
