-- Engines that read or write the groups of a number wrongly: each breaks the statement that its theorem names.
use Rattle.std.specs.Prelude.{◌≡◌, refl, List, [], ◌∷◌, ℕ}
use Rattle.std.proofs.Common.{ap, arith}
use Rattle.lists.specs.Lst.{nil, atom}
use Rattle.pool.specs.Pool.{ListAt}
use Rattle.groups.specs.declared.Stored.TheVariants.{Groups}
use Rattle.promises.specs.Demand1.{WriteRefusals}
use Rattle.promises.specs.Demand2.{ReadingGives, WritingGives, ReadWritesBack, MovingGives}
use Rattle.promises.specs.Laws.StoredRows.{spells_once, spells_ours}
use Rattle.promises.specs.Refuted.WrongGroups.{reads_high, tells_all}
use Rattle.promises.specs.Refuted.WrongGroupWriters.{writes_high, writes_long, fills_groups, wants_room_for_records}
use Rattle.promises.specs.Refuted.ByRows.{writes_otherwise}
use Rattle.promises.specs.Refuted.Computed.{moved, storing}
use Rattle.promises.specs.Refuted.SmallTables.{held, zeros, word, one, one-null}
use Rattle.promises.specs.Refuted.StoredRefuted.{reads_another, first}
use Rattle.table.specs.declared.Form.TheVariants.{Four}

-- the atom 130 is read as 257
pub reads_high_lem : ReadingGives Four reads_high → ⊥
unfolding storing ListAt
reads_high_lem = reads_another reads_high Groups one (zeros 2) (3 ∷ 132 ∷ 2 ∷ []) (atom 257 nil) one-null refl
    (omega arith, refl, refl, refl) refl (λ e. let z : ◌≡◌ {A = ℕ} 130 257 = ap first e in omega arith)

-- a byte behind the null list is told as taken, in reading and in moving
abbrev behind : List ℕ
behind = 1 ∷ 0 ∷ []

pub tells_all_lem : ReadingGives Four tells_all → ⊥
unfolding storing
tells_all_lem d =
    let (l, s, _) = d Groups one (zeros 2) 0 behind (λ i. nil) one-null refl in
    let e : ◌≡◌ {A = ℕ} 2 1 = (spells_once Groups behind 2 1 l nil s (spells_ours Groups behind refl)).0 in
    omega arith

pub tells_all-moved : MovingGives tells_all → ⊥
unfolding moved
tells_all-moved d =
    let (l, s, _, _) = d Groups behind (zeros 72) refl in
    let e : ◌≡◌ {A = ℕ} 2 1 = (spells_once Groups behind 2 1 l nil s (spells_ours Groups behind refl)).0 in
    omega arith

-- (64) is written with its high group first
pub writes_high_lem : WritingGives Four writes_high → ⊥
unfolding storing ListAt
writes_high_lem d =
    let w = d Groups (held 0 64) (zeros 2) 0 (zeros 3) (atom 64 nil) (omega arith, refl, refl, refl) refl in
    let e : ◌≡◌ {A = ℕ} 129 128 = word 1 w.0 in
    omega arith

-- (1) is written in four bytes
pub writes_long_lem : WritingGives Four writes_long → ⊥
unfolding storing ListAt
writes_long_lem d =
    let w = d Groups (held 0 1) (zeros 2) 0 (zeros 4) (atom 1 nil) (omega arith, refl, refl, refl) refl in
    let e : ◌≡◌ {A = ℕ} 4 2 = w.1 in
    omega arith

-- the null list is written with 71 blanks, and not into 71 bytes
pub fills_groups_lem : WritingGives Four fills_groups → ⊥
unfolding storing ListAt
fills_groups_lem d = let e : ◌≡◌ {A = ℕ} 72 1 = (d Groups one (zeros 2) 0 (zeros 72) nil refl refl).1 in omega arith

pub wants_room_for_records_lem : WriteRefusals Four wants_room_for_records → ⊥
unfolding storing
wants_room_for_records_lem = writes_otherwise wants_room_for_records Groups one (zeros 2) 0 (zeros 71)
    (λ (e : ◌≡◌ {A = ℕ} 18 0). omega arith)

-- (1) is read, and not written as it was
pub writes_long_again : ReadWritesBack writes_long → ⊥
unfolding storing
writes_long_again d =
    let xs : List ℕ = 3 ∷ 2 ∷ [] in
    let w = d Groups one (zeros 2) (zeros 2) (zeros 4) 0 xs xs refl refl (omega arith) (omega arith) in
    let e : ◌≡◌ {A = ℕ} 131 3 = word 0 w.1 in
    omega arith
