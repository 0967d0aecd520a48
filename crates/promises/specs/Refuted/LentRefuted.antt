-- What reading and writing are lent, whichever stored form it is: table and output as lent after a refusal; work space
-- as lent after an early one, else 0 where it is used. Each engine breaks the statement that its theorem names.
use Rattle.std.specs.Prelude.{◌≡◌, refl, true, List, [], ◌∷◌, ℕ, take, drop}
use Rattle.std.proofs.Common.{subst, arith}
use Rattle.answers.specs.Answers.{DONE}
use Rattle.calls.specs.Chars.{blanks}
use Rattle.calls.specs.Read.{read_in}
use Rattle.calls.specs.Write.{write_out}
use Rattle.groups.specs.declared.Stored.{Stored}
use Rattle.groups.specs.declared.Stored.TheVariants.{Text, Groups}
use Rattle.promises.specs.Rows.{Answers, None}
use Rattle.promises.specs.StoredGrounds.{at_reading, into_rows, read_rows, write_rows}
use Rattle.promises.specs.Demand1.{RefusedRead, RefusedWrite, ReadWork, WriteWork}
use Rattle.promises.specs.Laws.Tells.{none_both}
use Rattle.promises.specs.Kept.Demand1Kept.{demand1}
use Rattle.promises.specs.Refuted.WrongStored.{keeps_cells, clears_early, leaves_reading, leaves_writing, writes_as_it_goes}
use Rattle.promises.specs.Refuted.ByRows.{refusing, done_none}
use Rattle.promises.specs.Refuted.Computed.{storing}
use Rattle.promises.specs.Refuted.SmallTables.{held, zeros, word, one, null}
use Rattle.table.specs.declared.Form.TheVariants.{Four}

abbrev nines : List ℕ
nines = 9 ∷ 9 ∷ []

-- the null list
abbrev null_in : Stored → List ℕ
null_in Text = null
null_in Groups = 1 ∷ []

-- no bytes: as lent
pub clears_early_lem : (k : Stored) → ReadWork Four (clears_early k) → ⊥
unfolding storing
clears_early_lem Text d = let e : ◌≡◌ {A = ℕ} 0 9 = word 0 ((d Text one nines 0 []).0 (λ n. n.1.1.1.1.0 refl)) in omega arith
clears_early_lem Groups d = let e : ◌≡◌ {A = ℕ} 0 9 = word 0 ((d Groups one nines 0 []).0 (λ n. n.1.1.1.1.0 refl)) in omega arith

-- the null list is read, and written: past all rows that leave the work space
past-reading : (k : Stored) → let xs = null_in k in refusing (read_rows Four k one nines 0 xs) ≡ true
    → (read_in k one nines 0 xs).answer ≡ DONE → None (at_reading Four k one nines 0 xs)
past-reading k r e =
    let xs = null_in k in
    let a = subst (Answers (read_rows Four k one nines 0 xs)) e ((demand1 Four).read_refusals k one nines 0 xs) in
    ((none_both (at_reading Four k one nines 0 xs) (into_rows Four k one 0 xs)).1
    (done_none (read_rows Four k one nines 0 xs) r a)).0

past-writing : (k : Stored) → (write_out k one nines 0 (zeros 72)).answer ≡ DONE
    → None (take 3 (write_rows Four k one nines 0 (zeros 72)))
past-writing k e =
    let rows = write_rows Four k one nines 0 (zeros 72) in
    let a = subst (Answers rows) e ((demand1 Four).write_refusals k one nines 0 (zeros 72)) in
    ((none_both (take 3 rows) (drop 3 rows)).1 (done_none rows refl a)).0

pub leaves-reading : (k : Stored) → ReadWork Four (leaves_reading k) → ⊥
unfolding storing
leaves-reading Text d = let e : ◌≡◌ {A = ℕ} 9 0 = word 0 ((d Text one nines 0 (null_in Text)).1 (past-reading Text refl refl)) in omega arith
leaves-reading Groups d = let e : ◌≡◌ {A = ℕ} 9 0 = word 0 ((d Groups one nines 0 (null_in Groups)).1 (past-reading Groups refl refl)) in omega arith

pub leaves-writing : (k : Stored) → WriteWork Four (leaves_writing k) → ⊥
unfolding storing
leaves-writing Text d = let e : ◌≡◌ {A = ℕ} 9 0 = word 0 ((d Text one nines 0 (zeros 72)).1 (past-writing Text refl)) in omega arith
leaves-writing Groups d = let e : ◌≡◌ {A = ℕ} 9 0 = word 0 ((d Groups one nines 0 (zeros 72)).1 (past-writing Groups refl)) in omega arith

-- no list, and the one cell stays free
pub keeps_cells_lem : (k : Stored) → RefusedRead (keeps_cells k) → ⊥
unfolding storing
keeps_cells_lem Text d = let e : ◌≡◌ {A = ℕ} 0 1 = word 1 (d Text one (zeros 2) 0 (40 ∷ blanks 71) (λ z. omega arith)).0 in omega arith
keeps_cells_lem Groups d = let e : ◌≡◌ {A = ℕ} 0 1 = word 1 (d Groups one (zeros 2) 0 (3 ∷ []) (λ z. omega arith)).0 in omega arith

-- one byte is no room for (1), and stays 9
pub writes_as_it_goes_lem : (k : Stored) → RefusedWrite (writes_as_it_goes k) → ⊥
unfolding storing
writes_as_it_goes_lem Text d =
    let e : ◌≡◌ {A = ℕ} 40 9 = word 0 (d Text (held 0 1) (zeros 2) 0 (9 ∷ []) (λ z. omega arith)).0 in
    omega arith
writes_as_it_goes_lem Groups d =
    let e : ◌≡◌ {A = ℕ} 3 9 = word 0 (d Groups (held 0 1) (zeros 2) 0 (9 ∷ []) (λ z. omega arith)).0 in
    omega arith
