-- Engines with a wrong answer: the rows of a call fix its answer, so theirs would be ours.
use Rattle.std.specs.Prelude.{◌≡◌, List, [], ◌∷◌, ◌++◌, ℕ, replicate}
use Rattle.std.proofs.Math.Path.{refl}
use Rattle.std.proofs.Common.{inl, arith}
use Rattle.answers.specs.Answers.{DONE, NO_ROOM}
use Rattle.lists.specs.Lst.{extent}
use Rattle.pool.specs.Tally.{Number, start, miss}
use Rattle.calls.specs.Chars.{blanks}
use Rattle.calls.specs.Entry.{shown}
use Rattle.groups.specs.Stored.{verdict, list_in}
use Rattle.promises.specs.Engine.{made}
use Rattle.promises.specs.TextGrounds.{check_rows}
use Rattle.promises.specs.StoredGrounds.{size_rows, fault_rows}
use Rattle.promises.specs.Demand1.{ReadRefusals, WriteRefusals, CheckRefusals}
use Rattle.promises.specs.Demand3.{Used, NoRoomToRead}
use Rattle.promises.specs.Laws.Tells.{none_both}
use Rattle.promises.specs.Laws.StoredRows.{spells_ours}
use Rattle.promises.specs.Kept.Demand1Kept.{demand1}
use Rattle.promises.specs.OneOutcome.{one_answer}
use Rattle.promises.specs.Refuted.WrongEngines.{always_answers}
use Rattle.promises.specs.Refuted.WrongStored.{reads_over, keeps_one_back, writes_what_fits}
use Rattle.promises.specs.Refuted.WrongTexts.{counts_no_digits, run_uncounted}
use Rattle.promises.specs.Refuted.ByRows.{checks_otherwise, reads_otherwise, writes_otherwise, no_fault}
use Rattle.promises.specs.Refuted.Computed.{checked, computed, storing}
use Rattle.promises.specs.Refuted.SmallTables.{zeros, one, null, full}
use Rattle.promises.specs.Refuted.Refuted.{none-used}
use Rattle.groups.specs.declared.Stored.{Stored}
use Rattle.groups.specs.declared.Stored.TheVariants.{Text, Groups}
use Rattle.table.specs.declared.Form.TheVariants.{Four}

-- one answer for every call: a text of 0 bytes has another than the null list
pub always_answers_lem : (n : ℕ) → CheckRefusals (always_answers n) → ⊥
unfolding checked
always_answers_lem n d =
    let a : n ≡ 14 = one_answer (check_rows []) _ _ (d []) ((demand1 Four).check_refusals []) in
    let b : n ≡ 0 = one_answer (check_rows null) _ _ (d null) ((demand1 Four).check_refusals null) in
    omega arith

-- twelve zeros are 16
pub counts_no_digits-done : CheckRefusals counts_no_digits → ⊥
unfolding checked run_uncounted
counts_no_digits-done = checks_otherwise counts_no_digits (40 ∷ (replicate 12 48 ++ (41 ∷ blanks 58)))
    (λ (e : ◌≡◌ {A = ℕ} 0 16). omega arith)

-- whichever stored form it is

pub reads_over_lem : (k : Stored) → ReadRefusals Four (reads_over k) → ⊥
unfolding storing
reads_over_lem Text = reads_otherwise (reads_over Text) Text (full (reads_over Text)) (zeros 2) 0 null
    (λ (e : ◌≡◌ {A = ℕ} 0 10). omega arith)
reads_over_lem Groups = reads_otherwise (reads_over Groups) Groups (full (reads_over Groups)) (zeros 2) 0 (1 ∷ [])
    (λ (e : ◌≡◌ {A = ℕ} 0 10). omega arith)

-- no output takes no list
pub writes_what_fits_lem : (k : Stored) → WriteRefusals Four (writes_what_fits k) → ⊥
unfolding storing
writes_what_fits_lem Text = writes_otherwise (writes_what_fits Text) Text one (zeros 2) 0 []
    (λ (e : ◌≡◌ {A = ℕ} 0 18). omega arith)
writes_what_fits_lem Groups = writes_otherwise (writes_what_fits Groups) Groups one (zeros 2) 0 []
    (λ (e : ◌≡◌ {A = ℕ} 0 18). omega arith)

-- one cell is free, and (1) needs one
module _ (k : Stored) (xs : List ℕ) where
  one_back : ((keeps_one_back k).read k one (zeros 2) 0 xs).answer ≡ NO_ROOM
      → extent (list_in k xs) ≡ 1 → (verdict k xs).no ≡ DONE → NoRoomToRead Four (keeps_one_back k) → ⊥
  unfolding computed
  one_back refused needs right d =
      let (size, fault) = (none_both (size_rows k xs) (fault_rows k xs)).1 (no_fault k xs right) in
      let u : Number (Used (shown Four one)) 1 0 =
      miss (none-used (shown Four one) 64 refl 1 (λ z. omega arith)) start in
      let l = (d k one (zeros 2) 0 xs 0 (verdict k xs).taken (list_in k xs) (inl (made (zeros 70) 1 64 refl))
      (λ h. omega arith) (λ h. omega arith) size refl fault u (spells_ours k xs right)).0 refused in
      omega (arith, l, needs)

pub keeps_one_back_lem : (k : Stored) → NoRoomToRead Four (keeps_one_back k) → ⊥
unfolding storing
keeps_one_back_lem Text = one_back Text (40 ∷ 49 ∷ 41 ∷ blanks 69) refl refl refl
keeps_one_back_lem Groups = one_back Groups (3 ∷ 2 ∷ []) refl refl refl
