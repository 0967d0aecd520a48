-- What an operation refuses, in the order of the answers 6 to 12, what it says, and a run of operations up to the first
-- refusal.
use Rattle.std.specs.Prelude.{Bool, false, cond, not, ◌&&◌, ◌||◌, List, [], ◌∷◌, ℕ, suc, eqb, leb, ltb, length}
use Rattle.answers.specs.Answers.{DONE, CODE, HOLDER, SAME, NULL, OCCUPIED, SHARED, NO_ROOM}
pub use Rattle.answers.specs.Codes.{PFA, PFL, DECAP, ADV, BORROW, ERASE, INV, CINV, CONC, FIRST, LENGTH, last_code, atom_kind, number_kind, nothing_kind}
use Rattle.pool.specs.Pool.{Pool, at, count_of, holder, frees}
use Rattle.pool.specs.Operations.{pfa, pfl, decap, adv, borrow, erase, inv, cinv, conc, length_of, shared_at}

-- four words of a script
pub record Operation : Type 0 where
  pub code : ℕ
  pub a : ℕ
  pub b : ℕ
  pub v : ℕ

abbrev pub among : ℕ → List ℕ → Bool
among c [] = false
among c (d ∷ ds) = eqb c d || among c ds

-- every operation uses a; these use b too
abbrev pub uses_b : ℕ → Bool
uses_b c = among c (PFL ∷ DECAP ∷ ADV ∷ BORROW ∷ CINV ∷ CONC ∷ [])

-- CODE: not 1 to 11
abbrev pub bad_code : Operation → Bool
bad_code o = not (leb PFA o.code && leb o.code last_code)

-- HOLDER: a used holder that is none
abbrev pub bad_holder : Pool → Operation → Bool
bad_holder p o = leb (length p.holders) o.a || (uses_b o.code && leb (length p.holders) o.b)

-- SAME: the operation uses a and b, and they are equal
abbrev pub same_holder : Operation → Bool
same_holder o = uses_b o.code && eqb o.a o.b

-- NULL: a is null
abbrev pub null_list : Pool → Operation → Bool
null_list p o = among o.code (DECAP ∷ ADV ∷ FIRST ∷ []) && eqb (holder p o.a) 0

-- OCCUPIED: b is not null
abbrev pub occupied : Pool → Operation → Bool
occupied p o = among o.code (DECAP ∷ ADV ∷ BORROW ∷ CINV ∷ []) && not (eqb (holder p o.b) 0)

-- SHARED: the first count of a is over 1, or some main-level count of a
abbrev pub shared_cells : Pool → Operation → Bool
shared_cells p o =
    (eqb o.code DECAP && ltb 1 (count_of p.cells (holder p o.a)))
    || ((eqb o.code INV || (eqb o.code CONC && not (eqb (holder p o.b) 0))) && shared_at p o.a)

-- NO ROOM: cells needed exceed the free cells
abbrev pub needed : Pool → Operation → ℕ
needed p o = cond (among o.code (PFA ∷ PFL ∷ [])) 1 (cond (eqb o.code CINV) (length_of p o.a) 0)

abbrev pub lacks_room : Pool → Operation → Bool
lacks_room p o = ltb (frees p.cells) (needed p o)

-- the answer of the first test that holds, 0 where none does
unfoldable pub refusal : Pool → Operation → ℕ
refusal p o =
    cond (bad_code o) CODE
    (cond (bad_holder p o) HOLDER
    (cond (same_holder o) SAME
    (cond (null_list p o) NULL
    (cond (occupied p o) OCCUPIED
    (cond (shared_cells p o) SHARED
    (cond (lacks_room p o) NO_ROOM DONE))))))

-- an operation done: the pool after it, and the two result words
pub record Effect : Type 0 where
  pub pool : Pool
  pub kind : ℕ
  pub value : ℕ

-- the first element of a where it is an atom, else that it is a list, which is its type 1
abbrev pub tells_first : Pool → ℕ → Pool → Effect
tells_first p a q =
    let x = at p.cells (holder p a) in
    record { pool = q; kind = x.kind; value = cond (eqb x.kind atom_kind) x.elem 0 }

abbrev pub tells_number : ℕ → Pool → Effect
tells_number n q = record { pool = q; kind = number_kind; value = n }

abbrev pub tells_nothing : Pool → Effect
tells_nothing q = record { pool = q; kind = nothing_kind; value = 0 }

unfoldable pub effect : Pool → Operation → Effect
effect p o =
    cond (eqb o.code PFA) (tells_nothing (pfa p o.a o.v))
    (cond (eqb o.code PFL) (tells_nothing (pfl p o.a o.b))
    (cond (eqb o.code DECAP) (tells_first p o.a (decap p o.a o.b))
    (cond (eqb o.code ADV) (tells_first p o.a (adv p o.a o.b))
    (cond (eqb o.code BORROW) (tells_nothing (borrow p o.a o.b))
    (cond (eqb o.code ERASE) (tells_number (erase p o.a).1 (erase p o.a).0)
    (cond (eqb o.code INV) (tells_nothing (inv p o.a))
    (cond (eqb o.code CINV) (tells_nothing (cinv p o.a o.b))
    (cond (eqb o.code CONC) (tells_nothing (conc p o.a o.b))
    (cond (eqb o.code FIRST) (tells_first p o.a p)
    (tells_number (length_of p o.a) p))))))))))

-- the pool after an operation: as it was where the operation is refused
unfoldable pub pool_after : Pool → Operation → Pool
pool_after p o = cond (eqb (refusal p o) DONE) (effect p o).pool p

-- a run of operations: the pool after it, the answer, the operations done, and two result words for each of them
pub record Run : Type 0 where
  pub pool : Pool
  pub answer : ℕ
  pub done : ℕ
  pub results : List ℕ

abbrev pub stops : Pool → ℕ → Run
stops p n = record { pool = p; answer = n; done = 0; results = [] }

abbrev pub goes_on : Effect → Run → Run
goes_on d r =
    record { pool = r.pool; answer = r.answer; done = suc r.done; results = d.kind ∷ d.value ∷ r.results }

-- the operations one after another, up to the first that is refused
unfoldable pub performed : Pool → List Operation → Run
performed p [] = stops p DONE
performed p (o ∷ os) =
    let r = performed (effect p o).pool os in
    cond (eqb (refusal p o) DONE) (goes_on (effect p o) r) (stops p (refusal p o))
