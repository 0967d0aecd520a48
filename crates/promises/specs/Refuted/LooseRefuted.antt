-- Engines whose answers and lists are right and whose words are not: each breaks the statement that its theorem names.
use Rattle.std.specs.Prelude.{◌≡◌, refl, List, [], ◌∷◌, ◌++◌, ℕ, replicate}
use Rattle.std.proofs.Common.{inl, arith}
use Rattle.pool.specs.Pool.{Cell}
use Rattle.pool.specs.Operations.{pfl, copy, cinv}
use Rattle.pool.specs.Script.{PFL, BORROW, ERASE, Operation}
use Rattle.calls.specs.Chars.{blanks}
use Rattle.calls.specs.Entry.{shown}
use Rattle.promises.specs.Demand1.{RefusedSetUp, RefusedRun, RefusedWrite, RefusedCheck, RunWork, ReadWork, WriteWork}
use Rattle.promises.specs.Erasing.{Erased, list, waited, ended}
use Rattle.promises.specs.Cells.{BorrowShares, EraseErases}
use Rattle.promises.specs.Demand2.{SetUpGives, RestGives}
use Rattle.promises.specs.Laws.ErasingLaws.{one_end}
use Rattle.promises.specs.Refuted.WrongRules.{copying, waits_in_line}
use Rattle.promises.specs.Refuted.WrongEngines.{sets_up_dirty, clears_first}
use Rattle.promises.specs.Refuted.WrongTexts.{counts_refused, loses_rest, rest_at_start}
use Rattle.promises.specs.Refuted.Computed.{checked, computed, storing}
use Rattle.promises.specs.Refuted.SmallTables.{word, zeros, prefix, two}
use Rattle.groups.specs.declared.Stored.TheVariants.{Text}
use Rattle.table.specs.declared.Form.TheVariants.{Four}

-- the type of cell 1 is one of the words that are 0
pub sets_up_dirty_lem : SetUpGives Four sets_up_dirty → ⊥
unfolding computed
sets_up_dirty_lem d = omega (arith, ((d (zeros 70) 1 64 refl).1.pool.empty 1 (omega arith) (omega arith)).0)

-- TABLE SIZE leaves all as lent: a word 9 of the table, the results, the output or the work space
abbrev nine : List ℕ
nine = 9 ∷ []

cleared-nine : 0 ∷ [] ≡ nine → ⊥
cleared-nine e = omega (arith, word 0 e)

pub clears_set_up : RefusedSetUp clears_first → ⊥
unfolding computed
clears_set_up d = cleared-nine (d nine 0 64 (λ z. omega arith))

pub clears_results : RefusedRun Four clears_first → ⊥
unfolding computed
clears_results d = cleared-nine (d [] [] [] nine (λ n. n.0 (inl (omega arith)))).1

pub clears_output : RefusedWrite clears_first → ⊥
unfolding storing
clears_output d = cleared-nine (d Text [] [] 0 nine (λ z. omega arith)).0

pub clears_run_work : RunWork Four clears_first → ⊥
unfolding computed
clears_run_work d = cleared-nine ((d [] nine [] []).0 (λ n. n.0 (inl (omega arith))))

pub clears_read_work : ReadWork Four clears_first → ⊥
unfolding storing
clears_read_work d = cleared-nine ((d Text [] nine 0 []).0 (λ n. n.0 (inl (omega arith))))

pub clears_write_work : WriteWork Four clears_first → ⊥
unfolding storing
clears_write_work d = cleared-nine ((d Text [] nine 0 []).0 (λ n. n.0 (inl (omega arith))))

-- a text of 0 bytes is refused, with 0 bytes taken
pub counts_refused_lem : RefusedCheck counts_refused → ⊥
unfolding checked
counts_refused_lem d = omega (arith, d [] (λ z. omega arith))

-- the null list in one record, and a record behind it
abbrev text : List ℕ
text = 40 ∷ 41 ∷ (blanks 70 ++ replicate 72 40)

pub loses_rest_lem : RestGives loses_rest → ⊥
unfolding checked
loses_rest_lem d = let e : ◌≡◌ {A = ℕ} 144 72 = (d text).0 refl (λ z. omega arith) in omega arith

-- a record of "(" is no list, and its end is at 72
pub rest-at-start : RestGives rest_at_start → ⊥
unfolding checked
rest-at-start d = let e : ◌≡◌ {A = ℕ} 0 72 = (d (replicate 72 40)).2 (λ z. omega arith) in omega arith

-- after PFA to holder 0, BORROW of it is another cell
pub copying_refuted : BorrowShares Four copying → ⊥
unfolding computed cinv copy
copying_refuted d =
    let t = (copying.run two (zeros 4) (prefix 0 5) (zeros 2)).table in
    let o : Operation = record { code = BORROW; a = 0; b = 1; v = 0 } in
    let e : ◌≡◌ {A = ℕ} 2 1 = (d t (zeros 4) (zeros 2) o refl refl).shared in
    omega arith

-- two null lists in one list: the last to wait is freed first, so that the other leads the free chain
pub waits_in_line_lem : EraseErases Four waits_in_line → ⊥
unfolding computed pfl
waits_in_line_lem d =
    let t = (waits_in_line.run two (zeros 4) (PFL ∷ 0 ∷ 1 ∷ 0 ∷ PFL ∷ 0 ∷ 1 ∷ 0 ∷ []) (zeros 4)).table in
    let o : Operation = record { code = ERASE; a = 0; b = 0; v = 0 } in
    let p = shown Four t in
    let q = shown Four (waits_in_line.run t (zeros 4) (ERASE ∷ 0 ∷ 0 ∷ 0 ∷ []) (zeros 2)).table in
    let right : (ds : List Cell) × Erased 2 ds p.free p.cells 2 [] 2 = (_, list refl refl (list refl refl (waited (waited ended)))) in
    let e : ◌≡◌ {A = ℕ} 1 2 = (one_end {g = q.free} (d t (zeros 4) (zeros 2) o refl refl).1.1 right.1).free in
    omega arith
