-- Engines that move a stored list wrongly: each breaks the statement that its theorem names.
use Rattle.std.specs.Prelude.{◌≡◌, refl, List, [], ◌∷◌, ◌++◌, ℕ, length}
use Rattle.std.proofs.Common.{ap, ◌∙◌, arith}
use Rattle.lists.specs.Lst.{Lst, nil}
use Rattle.calls.specs.Chars.{blanks}
use Rattle.calls.specs.Entry.{over}
use Rattle.groups.specs.Groups.{groups_of}
use Rattle.promises.specs.TextGrounds.{Records, plain}
use Rattle.promises.specs.StoredGrounds.{spelling, filled}
use Rattle.promises.specs.Demand1.{MoveRefusals, RefusedMove}
use Rattle.promises.specs.Demand2.{MovingGives, MovesHome, MovesAsTables}
use Rattle.promises.specs.Laws.StoredRows.{spells_once, spells_ours}
use Rattle.promises.specs.Refuted.WrongEngines.{clears_first}
use Rattle.promises.specs.Refuted.WrongTexts.{zeroed}
use Rattle.promises.specs.Refuted.WrongMoves.{tells_records, tells_taken, tells_written, output_first, groups_for_text, keeps_zeros, fills_nothing, moves_high, fills_part, clears_behind}
use Rattle.promises.specs.Refuted.ByRows.{moves_otherwise}
use Rattle.promises.specs.Refuted.Computed.{moved, storing}
use Rattle.promises.specs.Refuted.SmallTables.{zeros, word, one, null}
use Rattle.groups.specs.declared.Stored.TheVariants.{Text, Groups}

-- no room, and an element that is not there: the fault is first
pub output-first : MoveRefusals output_first → ⊥
unfolding moved
output-first = moves_otherwise output_first Groups (3 ∷ []) [] (λ (e : ◌≡◌ {A = ℕ} 18 19). omega arith)

-- "(" and blanks
pub groups_for_text_lem : MoveRefusals groups_for_text → ⊥
unfolding moved
groups_for_text_lem = moves_otherwise groups_for_text Text (40 ∷ blanks 71) [] (λ (e : ◌≡◌ {A = ℕ} 19 15). omega arith)

-- two bytes hold "()", and no record
pub fills_part_lem : MoveRefusals fills_part → ⊥
unfolding moved
fills_part_lem = moves_otherwise fills_part Groups (1 ∷ []) (zeros 2) (λ (e : ◌≡◌ {A = ℕ} 0 18). omega arith)

-- no bytes at all are refused: the output stays, and nothing is taken or written
pub clears_first-moved : RefusedMove clears_first → ⊥
unfolding moved
clears_first-moved d = let e : ◌≡◌ {A = ℕ} 0 9 = word 0 (d Groups [] (9 ∷ []) (λ z. omega arith)).0 in omega arith

pub tells_taken_lem : RefusedMove tells_taken → ⊥
unfolding moved
tells_taken_lem d = let e : ◌≡◌ {A = ℕ} 1 0 = (d Groups [] [] (λ z. omega arith)).1 in omega arith

pub tells_written_lem : RefusedMove tells_written → ⊥
unfolding moved
tells_written_lem d = let e : ◌≡◌ {A = ℕ} 1 0 = (d Groups [] [] (λ z. omega arith)).2 in omega arith

-- the null list is one byte of 72
abbrev behind : List ℕ
behind = 1 ∷ zeros 71

pub tells_records_lem : MovingGives tells_records → ⊥
unfolding moved
tells_records_lem d =
    let (l, s, _, _) = d Groups behind (zeros 72) refl in
    let e : ◌≡◌ {A = ℕ} 72 1 = (spells_once Groups behind 72 1 l nil s (spells_ours Groups behind refl)).0 in
    omega arith

-- reading takes that one byte, too
pub tells_records_read : MovesAsTables tells_records → ⊥
unfolding storing
tells_records_read d =
    let e : ◌≡◌ {A = ℕ} 72 1 = (d Groups one (zeros 2) (zeros 2) 0 behind (zeros 72) refl refl refl).0 in
    omega arith

-- the byte behind the null list's stays 9
pub clears_behind_lem : MovingGives clears_behind → ⊥
unfolding moved
clears_behind_lem d =
    let xs = null in
    let (l, s, o, _) = d Text xs (9 ∷ 9 ∷ []) refl in
    let same : l ≡ nil = (spells_once Text xs 72 72 l nil s (spells_ours Text xs refl)).1 in
    let e : ◌≡◌ {A = ℕ} 0 9 = word 1 (o ∙ ap (λ (m : Lst). over (groups_of m) (9 ∷ 9 ∷ [])) same) in
    omega arith

-- () without its blanks is two bytes
pub fills_nothing_lem : MovingGives fills_nothing → ⊥
unfolding moved
fills_nothing_lem d =
    let xs : List ℕ = 1 ∷ [] in
    let (l, s, _, w) = d Groups xs (zeros 72) refl in
    let same : l ≡ nil = (spells_once Groups xs 1 1 l nil s (spells_ours Groups xs refl)).1 in
    let e : ◌≡◌ {A = ℕ} 2 72 = w ∙ ap (λ (m : Lst). length (spelling Text m)) same in
    omega arith

pub fills_nothing-written : MovesAsTables fills_nothing → ⊥
unfolding storing
fills_nothing-written d =
    let e : ◌≡◌ {A = ℕ} 2 72 = (d Groups one (zeros 2) (zeros 2) 0 (1 ∷ []) (zeros 72) refl refl refl).1 in
    omega arith

-- (7), out and home again, is (07)
pub keeps_zeros_lem : MovesHome keeps_zeros → ⊥
unfolding storing zeroed
keeps_zeros_lem d =
    let t : List ℕ = 40 ∷ 55 ∷ 41 ∷ [] in
    let xs = t ++ blanks 69 in
    let r : Records xs 72 t = record {
      blanks = 69;
      bytes = refl;
      few = omega arith;
      whole = refl;
      within = omega arith;
      solid = refl;
    } in
    let e : ◌≡◌ {A = ℕ} 48 55 = word 1 (d Text xs (zeros 2) (zeros 72) (filled (plain t)) refl (t, r, refl) refl).2 in
    omega arith

-- the atom 130 as 132 and 2, out and home again, is 130 and 4
pub moves_high_lem : MovesHome moves_high → ⊥
unfolding moved
moves_high_lem d =
    let xs : List ℕ = 3 ∷ 132 ∷ 2 ∷ [] in
    let e : ◌≡◌ {A = ℕ} 130 132 = word 1 (d Groups xs (zeros 72) (zeros 3) xs refl refl refl).2 in
    omega arith
