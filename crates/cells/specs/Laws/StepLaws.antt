-- Sharing and list elements by the tests that the code makes.
use Rattle.std.specs.Prelude.{◌≡◌, refl, ◌≢◌, List, ℕ, zero, suc, ◌+◌}
use Rattle.std.proofs.Common.{ap, arith}
use Rattle.pool.specs.Operations.{share, item_of}
use Rattle.pool.specs.Pool.{Cell, count_of, set_count}

pub share-null : (cs : List Cell) (x : ℕ) → x ≡ 0 → share cs x ≡ cs
unfolding share
share-null cs zero e = refl
share-null cs (suc i) e = absurd (omega arith)

pub share-on : (cs : List Cell) (x : ℕ) → x ≢ 0 → share cs x ≡ set_count cs x (count_of cs x + 1)
unfolding share
share-on cs zero n = absurd (n refl)
share-on cs (suc i) n = ap (set_count cs (suc i)) (omega arith)

pub item-null : (t e : ℕ) → t ≡ 0 → 0 ≡ item_of t e
unfolding item_of
item-null zero e q = refl
item-null (suc t) e q = absurd (omega arith)

pub item_some : (t e : ℕ) → t ≢ 0 → e ≡ item_of t e
unfolding item_of
item_some zero e n = absurd (n refl)
item_some (suc t) e n = refl
