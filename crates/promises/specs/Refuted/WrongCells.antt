-- Engines that take, turn or free other cells than document 01 names, each in one operation; the lists of most are
-- right.
use Rattle.std.specs.Prelude.{Bool, true, cond, not, ◌&&◌, List, [], ℕ, eqb, length, set}
use Rattle.pool.specs.Pool.{Cell, Pool, put, kind_of, elem_of, count_of, next_of, set_count, set_next, holder}
use Rattle.pool.specs.Operations.{share, item, decap, last_of, length_of}
use Rattle.pool.specs.Script.{PFA, PFL, DECAP, ADV, BORROW, INV, CINV, CONC, LENGTH, Operation, Effect, refusal, effect, tells_first, tells_nothing}
use Rattle.calls.specs.Run.{ran}
use Rattle.promises.specs.Engine.{Engine}
use Rattle.promises.specs.Refuted.WrongRules.{ruled}
use Rattle.promises.specs.Refuted.WrongEngines.{leaving, starts}

-- ours with another effect of one operation, where a test holds
abbrev instead : ℕ → (Pool → Operation → Bool) → (Pool → Operation → Effect) → Engine
instead c test f = ruled refusal (λ p o. cond (eqb o.code c && test p o) (f p o) (effect p o))

abbrev pool : ℕ → List ℕ → List Cell → Pool
pool f hs cs = record { free = f; holders = hs; cells = cs }

abbrev cell_of : ℕ → ℕ → ℕ → Cell
cell_of t e s = record { kind = t; elem = e; count = 1; next = s }

-- PFA that takes the second free cell where there is one
abbrev pub takes_second : Engine
takes_second = instead PFA (λ p o. not (eqb (next_of p.cells p.free) 0)) (λ p o.
    let g = next_of p.cells p.free in
    tells_nothing (pool p.free (set p.holders o.a g) (set_next (put p.cells g (cell_of 0 o.v (holder p o.a))) p.free (next_of p.cells g))))

-- PFA that puts its atom into the first cell of a, and the atom of that into the new cell behind it
abbrev pub inserts_behind : Engine
inserts_behind = instead PFA (λ p o. eqb (count_of p.cells (holder p o.a)) 1) (λ p o.
    let x = holder p o.a in
    let f = p.free in
    tells_nothing (pool (next_of p.cells f) p.holders
    (put (put p.cells f (cell_of (kind_of p.cells x) (elem_of p.cells x) (next_of p.cells x))) x (cell_of 0 o.v f))))

-- PFA that leaves the number of its cell in the last holder too
abbrev pub spills : Engine
spills = instead PFA (λ p o. true) (λ p o. let q = (effect p o).pool in tells_nothing (pool q.free (set q.holders 63 p.free) q.cells))

-- PFL that does not make b null
abbrev pub keeps_b : Engine
keeps_b = instead PFL (λ p o. true) (λ p o. let q = (effect p o).pool in tells_nothing (pool q.free (set p.holders o.a p.free) q.cells))

-- DECAP that frees its cell to the end of the free chain
abbrev pub frees_to_end : Engine
frees_to_end = instead DECAP (λ p o. not (eqb p.free 0)) (λ p o.
    let x = holder p o.a in
    let q = decap p o.a o.b in
    tells_first p o.a (pool p.free q.holders (set_next (set_next (set_count p.cells x 0) x 0) (last_of (length p.cells) p.cells p.free) x)))

-- ADV that borrows element and tail, and does not erase
abbrev pub forgets_to_erase : Engine
forgets_to_erase = instead ADV (λ p o. true) (λ p o.
    let x = holder p o.a in
    let e = item p.cells x in
    let s = next_of p.cells x in
    tells_first p o.a (pool p.free (set (set p.holders o.a s) o.b e) (share (share p.cells e) s)))

-- INV that leaves the list as it is
abbrev pub never_turns : Engine
never_turns = instead INV (λ p o. true) (λ p o. tells_nothing p)

-- CINV that lends a list of one element instead of a copy
abbrev pub shares_short : Engine
shares_short = instead CINV (λ p o. eqb (length_of p o.a) 1) (λ p o. effect p (record { code = BORROW; a = o.a; b = o.b; v = 0 }))

-- CONC that changes nothing where a is null
abbrev pub keeps_apart : Engine
keeps_apart = instead CONC (λ p o. eqb (holder p o.a) 0) (λ p o. tells_nothing p)

-- LENGTH that loses the free chain
abbrev pub loses_free : Engine
loses_free = leaving (λ ts ws ss rs. cond (starts LENGTH ss) (set ts 1 0) (ran ts ws ss rs).table)

-- a run that gives no table back
abbrev pub loses_table : Engine
loses_table = leaving (λ ts ws ss rs. [])
