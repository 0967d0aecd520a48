-- Each engine of WrongCells breaks the statement that its theorem names, on a table of two cells; and a ring is no
-- list.
use Rattle.std.specs.Prelude.{◌≡◌, refl, ◌≢◌, List, [], ◌∷◌, ◌++◌, ℕ}
use Rattle.std.proofs.Common.{subst, inl, inr, arith}
use Rattle.lists.specs.Lst.{Lst, nil, atom, list}
use Rattle.pool.specs.Pool.{Cell, next_of, ListAt, Chain}
use Rattle.pool.specs.Operations.{pfl, adv, copy, cinv}
use Rattle.pool.specs.Script.{PFL, DECAP, ADV, BORROW, INV, CINV, CONC, LENGTH, Operation}
use Rattle.calls.specs.Entry.{shown}
use Rattle.promises.specs.Engine.{Engine, made, ran_on}
use Rattle.promises.specs.Grounds.{with_b}
use Rattle.promises.specs.Erasing.{Erased}
use Rattle.promises.specs.Cells.{SizesStay, HoldersStay, PrefixTakesHead, PrefixListTakesHead, DecapFreesToHead, AdvErases, InvTurns, CinvCopies, ConcJoins, AskingLeaves, LiveCellsStay}
use Rattle.promises.specs.Demand3.{HoldersHaveLists}
use Rattle.promises.specs.Laws.Tells.{tells_among}
use Rattle.promises.specs.Laws.ErasingLaws.{one_end}
use Rattle.promises.specs.Kept.CellsDo.{adv_erases}
use Rattle.promises.specs.Same.OnePool.{lent_once}
use Rattle.promises.specs.Refuted.WrongRules.{joins_itself}
use Rattle.promises.specs.Refuted.WrongCells.{takes_second, inserts_behind, spills, keeps_b, frees_to_end, forgets_to_erase, never_turns, shares_short, keeps_apart, loses_free, loses_table}
use Rattle.promises.specs.Refuted.Computed.{computed}
use Rattle.promises.specs.Refuted.SmallTables.{word, zeros, prefix, prefixing, two}
use Rattle.table.specs.declared.Form.TheVariants.{Four}

-- two cells after the operations ss, and an operation on holders 0 and 1
abbrev after : Engine → List ℕ → List ℕ
after E ss = (E.run two (zeros 4) ss (zeros 6)).table

abbrev on : ℕ → Operation
on c = record { code = c; a = 0; b = 1; v = 0 }

-- the first free cell is 1
pub takes_second_lem : PrefixTakesHead Four takes_second → ⊥
unfolding computed
takes_second_lem d = let e : ◌≡◌ {A = ℕ} 2 1 = (d two (zeros 4) (zeros 2) (prefixing 0 5) refl refl).head in omega arith

-- holder 63 is not used
pub spills-over : HoldersStay Four spills → ⊥
unfolding computed
spills-over d = let e : ◌≡◌ {A = ℕ} 1 0 = d two (zeros 4) (zeros 2) (prefixing 0 5) refl 63 (λ z. omega arith)
    (λ u. absurd ((tells_among 1 with_b).1 refl u)) in omega arith

-- cell 1 has the atom 7 before and 5 after
pub inserts_behind_lem : LiveCellsStay Four inserts_behind → ⊥
unfolding computed
inserts_behind_lem d = let e : ◌≡◌ {A = ℕ} 5 7 = (d (after inserts_behind (prefix 0 7)) (zeros 4) (zeros 2) (prefixing 0 5) refl 1 (omega arith)
    (omega arith)).1 in omega arith

-- holder 1 still has its list
pub keeps_b_lem : PrefixListTakesHead Four keeps_b → ⊥
unfolding computed pfl
keeps_b_lem d = let e : ◌≡◌ {A = ℕ} 1 0 = (d (after keeps_b (prefix 1 5)) (zeros 4) (zeros 2) (on PFL) refl refl).1 in omega arith

-- cell 1 is freed, and cell 2 is still the first
pub frees_to_end_lem : DecapFreesToHead Four frees_to_end → ⊥
unfolding computed
frees_to_end_lem d = let e : ◌≡◌ {A = ℕ} 2 1 = (d (after frees_to_end (prefix 0 5)) (zeros 4) (zeros 2) (on DECAP) refl refl).free in omega arith

-- cell 1 is not freed
pub forgets_to_erase_lem : AdvErases Four forgets_to_erase → ⊥
unfolding computed adv
forgets_to_erase_lem d =
    let t = after forgets_to_erase (prefix 0 5) in
    let x = d t (zeros 4) (zeros 2) (on ADV) refl refl in
    let y = adv_erases Four t (zeros 4) (zeros 2) (on ADV) refl refl in
    let q = shown Four (forgets_to_erase.run t (zeros 4) (ADV ∷ 0 ∷ 1 ∷ 0 ∷ []) (zeros 2)).table in
    let z = subst (λ (cs : List Cell). Erased q.free q.cells 2 cs 1 [] x.freed) (lent_once x.lent y.lent) x.erased in
    let e : ◌≡◌ {A = ℕ} 2 1 = (one_end z y.erased).free in
    omega arith

-- (5,7) in cells 2 and 1 begins with cell 1 when turned
pub never_turns_lem : InvTurns Four never_turns → ⊥
unfolding computed Chain
never_turns_lem d =
    let c : Chain (shown Four (after never_turns (prefix 0 7 ++ prefix 0 5))).cells 2 (2 ∷ 1 ∷ [])
    = (refl, (λ z. omega arith), (refl, (λ z. omega arith), refl)) in
    let e : ◌≡◌ {A = ℕ} 2 1 = (d (after never_turns (prefix 0 7 ++ prefix 0 5)) (zeros 4) (zeros 2) (on INV) refl refl (2 ∷ 1 ∷ []) c).head in
    omega arith

-- the copy of cell 1 is cell 2
pub shares_short_lem : CinvCopies Four shares_short → ⊥
unfolding computed cinv copy Chain
shares_short_lem d =
    let e : ◌≡◌ {A = ℕ} 1 2 = (d (after shares_short (prefix 0 5)) (zeros 4) (zeros 2) (on CINV) refl refl (1 ∷ []) (2 ∷ []) (refl, (λ z. omega arith), refl)
    (refl, (λ z. omega arith), refl)).head in
    omega arith

-- holder 0 is null, and gets the list of holder 1
pub keeps_apart_lem : ConcJoins Four keeps_apart → ⊥
unfolding computed Chain
keeps_apart_lem d = let e : ◌≡◌ {A = ℕ} 0 1 = ((d (after keeps_apart (prefix 1 5)) (zeros 4) (zeros 2) (on CONC) refl refl [] refl).given
    (λ z. omega arith) refl).0 in omega arith

pub loses_free_lem : AskingLeaves Four loses_free → ⊥
unfolding computed
loses_free_lem d = let e : ◌≡◌ {A = ℕ} 0 1 = word 1 (d two (zeros 4) (zeros 2) (on LENGTH) refl (inr (inl refl))) in omega arith

pub loses_table_lem : SizesStay Four loses_table → ⊥
unfolding computed
loses_table_lem d = let e : ◌≡◌ {A = ℕ} 0 2 = (d two (zeros 4) (zeros 2) (prefixing 0 5) refl).cells in omega arith

-- a cell that follows itself begins no list
no_list : (cs : List Cell) (c : ℕ) → c ≢ 0 → next_of cs c ≡ c → (l : Lst) → ListAt cs c l → ⊥
unfolding ListAt
no_list cs c n e nil w = n w
no_list cs c n e (atom v l) w = no_list cs c n e l (subst (λ (d : ℕ). ListAt cs d l) e w.3)
no_list cs c n e (list m l) w = no_list cs c n e l (subst (λ (d : ℕ). ListAt cs d l) e w.3)

-- CONC with one holder named twice leaves another that shares its list a ring
pub joins_to_no_list : HoldersHaveLists Four joins_itself → ⊥
unfolding computed
joins_to_no_list d =
    let ss = prefix 0 5 ++ (BORROW ∷ 0 ∷ 1 ∷ 0 ∷ CONC ∷ 0 ∷ 0 ∷ 0 ∷ []) in
    let t = after joins_itself ss in
    let (l, w) = d t (ran_on (zeros 4) ss (zeros 6) (made (zeros 74) 2 64 refl)) 1 in
    no_list (shown Four t).cells 1 (λ z. omega arith) refl l w
