-- Level 201 in groups: what opens it is refused in reading, and told in writing where it and the end of the output meet
-- at one number.
use Rattle.std.specs.Prelude.{◌≡◌, List, [], ◌∷◌, ◌++◌, ℕ, zero, suc, ◌+◌, replicate}
use Rattle.std.proofs.Common.{arith}
use Rattle.groups.specs.declared.Stored.TheVariants.{Groups}
use Rattle.calls.specs.SetUp.{set_up}
use Rattle.promises.specs.Demand1.{ReadRefusals, WriteRefusals}
use Rattle.promises.specs.Refuted.WrongGroups.{reads_deep, reads_deep_null, refuses_deepest}
use Rattle.promises.specs.Refuted.WrongGroupWriters.{room_first}
use Rattle.promises.specs.Refuted.ByRows.{reads_otherwise, writes_otherwise}
use Rattle.promises.specs.Refuted.Computed.{storing}
use Rattle.promises.specs.Refuted.SmallTables.{zeros}
use Rattle.table.specs.declared.Form.TheVariants.{Four}

-- 201 cells, all free
abbrev free : List ℕ
free = (set_up (zeros 870) 201).table

-- an atom on level 201, and the null list there
pub reads_deep_lem : ReadRefusals Four reads_deep → ⊥
unfolding storing
reads_deep_lem = reads_otherwise reads_deep Groups free (zeros 402) 0 (replicate 201 3 ++ (0 ∷ []))
    (λ (e : ◌≡◌ {A = ℕ} 0 17). omega arith)

pub reads_deep_null_lem : ReadRefusals Four reads_deep_null → ⊥
unfolding storing
reads_deep_null_lem = reads_otherwise reads_deep_null Groups free (zeros 402) 0 (replicate 200 3 ++ (1 ∷ []))
    (λ (e : ◌≡◌ {A = ℕ} 0 17). omega arith)

-- the null list on level 200 is read
pub refuses_deepest_lem : ReadRefusals Four refuses_deepest → ⊥
unfolding storing
refuses_deepest_lem = reads_otherwise refuses_deepest Groups free (zeros 402) 0 (replicate 199 3 ++ (1 ∷ []))
    (λ (e : ◌≡◌ {A = ℕ} 17 0). omega arith)

-- n cells, each the only element of the list before it; the last is the null list, and i is the number of the second
unfoldable pub nested_from : ℕ → ℕ → List ℕ
nested_from zero i = []
nested_from (suc zero) i = 1 ∷ 0 ∷ 1 ∷ 0 ∷ []
nested_from (suc (suc n)) i = 1 ∷ i ∷ 1 ∷ 0 ∷ nested_from (suc n) (i + 1)

-- 201 levels in 200 cells, in holder 0
abbrev nested : List ℕ
nested = 200 ∷ 0 ∷ 1 ∷ (zeros 63 ++ nested_from 200 2)

-- 200 bytes are room for the numbers of 200 levels
pub room-first : WriteRefusals Four room_first → ⊥
unfolding storing nested_from
room-first = writes_otherwise room_first Groups nested (zeros 400) 0 (zeros 200) (λ (e : ◌≡◌ {A = ℕ} 18 17). omega arith)
