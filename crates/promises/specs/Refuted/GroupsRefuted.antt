-- Engines that read groups wrongly: the rows fix the answer to each run of bytes, in reading and in moving.
use Rattle.std.specs.Prelude.{◌≡◌, ◌≢◌, List, [], ◌∷◌, ℕ, replicate}
use Rattle.std.proofs.Common.{arith}
use Rattle.calls.specs.Read.{read_in}
use Rattle.calls.specs.Move.{moved_from}
use Rattle.promises.specs.Engine.{Engine}
use Rattle.promises.specs.Demand1.{ReadRefusals, MoveRefusals}
use Rattle.promises.specs.Refuted.WrongGroups.{takes_long, takes_large, refuses_large, takes_atom, looks_behind, looks_ahead, room_ahead, wants_records, ends_at_blanks}
use Rattle.promises.specs.Refuted.ByRows.{reads_otherwise, moves_otherwise}
use Rattle.promises.specs.Refuted.Computed.{moved, storing}
use Rattle.promises.specs.Refuted.SmallTables.{zeros, one}
use Rattle.groups.specs.declared.Stored.TheVariants.{Groups}
use Rattle.table.specs.declared.Form.TheVariants.{Four}

-- reading into one cell, which is free
reads : (E : Engine) (xs : List ℕ)
    → (E.read Groups one (zeros 2) 0 xs).answer ≢ (read_in Groups one (zeros 2) 0 xs).answer → ReadRefusals Four E → ⊥
reads E xs = reads_otherwise E Groups one (zeros 2) 0 xs

-- moving into one record
moves : (E : Engine) (xs : List ℕ) → (E.move Groups xs (zeros 72)).answer ≢ (moved_from Groups xs (zeros 72)).answer
    → MoveRefusals E → ⊥
moves E xs = moves_otherwise E Groups xs (zeros 72)

-- (1) with its atom in two groups
pub takes_long_lem : ReadRefusals Four takes_long → ⊥
unfolding storing
takes_long_lem = reads takes_long (3 ∷ 130 ∷ 0 ∷ []) (λ (e : ◌≡◌ {A = ℕ} 0 19). omega arith)

pub takes_long_moved : MoveRefusals takes_long → ⊥
unfolding moved
takes_long_moved = moves takes_long (3 ∷ 130 ∷ 0 ∷ []) (λ (e : ◌≡◌ {A = ℕ} 0 19). omega arith)

-- 2^33, the atom 2^32
pub takes_large_lem : ReadRefusals Four takes_large → ⊥
unfolding storing
takes_large_lem = reads takes_large (3 ∷ 128 ∷ 128 ∷ 128 ∷ 128 ∷ 32 ∷ []) (λ (e : ◌≡◌ {A = ℕ} 0 19). omega arith)

pub takes_large_moved : MoveRefusals takes_large → ⊥
unfolding moved
takes_large_moved = moves takes_large (3 ∷ 128 ∷ 128 ∷ 128 ∷ 128 ∷ 32 ∷ []) (λ (e : ◌≡◌ {A = ℕ} 0 19). omega arith)

-- the greatest atom, 2^32 - 1
pub refuses_large_lem : ReadRefusals Four refuses_large → ⊥
unfolding storing
refuses_large_lem = reads refuses_large (3 ∷ 254 ∷ 255 ∷ 255 ∷ 255 ∷ 31 ∷ []) (λ (e : ◌≡◌ {A = ℕ} 19 0). omega arith)

-- the atom 1
pub takes_atom_lem : ReadRefusals Four takes_atom → ⊥
unfolding storing
takes_atom_lem = reads takes_atom (2 ∷ []) (λ (e : ◌≡◌ {A = ℕ} 0 19). omega arith)

pub takes_atom-moved : MoveRefusals takes_atom → ⊥
unfolding moved
takes_atom-moved = moves takes_atom (2 ∷ []) (λ (e : ◌≡◌ {A = ℕ} 0 19). omega arith)

-- behind the null list a byte that is no number
pub looks_behind_lem : ReadRefusals Four looks_behind → ⊥
unfolding storing
looks_behind_lem = reads looks_behind (1 ∷ 128 ∷ []) (λ (e : ◌≡◌ {A = ℕ} 19 0). omega arith)

pub looks_behind-moved : MoveRefusals looks_behind → ⊥
unfolding moved
looks_behind-moved = moves looks_behind (1 ∷ 128 ∷ []) (λ (e : ◌≡◌ {A = ℕ} 19 0). omega arith)

-- 2^32 - 1 elements claimed, and level 201 met before the bytes run out
pub looks_ahead_lem : ReadRefusals Four looks_ahead → ⊥
unfolding storing
looks_ahead_lem = reads looks_ahead (255 ∷ 255 ∷ 255 ∷ 255 ∷ 31 ∷ replicate 200 3) (λ (e : ◌≡◌ {A = ℕ} 19 17). omega arith)

pub looks_ahead_moved : MoveRefusals looks_ahead → ⊥
unfolding moved
looks_ahead_moved = moves looks_ahead (255 ∷ 255 ∷ 255 ∷ 255 ∷ 31 ∷ replicate 200 3)
    (λ (e : ◌≡◌ {A = ℕ} 19 17). omega arith)

-- two elements claimed, one cell free, and no byte for them: the fault is first
pub room_ahead_lem : ReadRefusals Four room_ahead → ⊥
unfolding storing
room_ahead_lem = reads room_ahead (5 ∷ []) (λ (e : ◌≡◌ {A = ℕ} 12 19). omega arith)

-- the null list is one byte
pub wants_records_lem : ReadRefusals Four wants_records → ⊥
unfolding storing
wants_records_lem = reads wants_records (1 ∷ []) (λ (e : ◌≡◌ {A = ℕ} 13 0). omega arith)

-- a blank is the atom 16
pub ends_at-blanks : ReadRefusals Four ends_at_blanks → ⊥
unfolding storing
ends_at-blanks = reads ends_at_blanks (32 ∷ []) (λ (e : ◌≡◌ {A = ℕ} 14 19). omega arith)
