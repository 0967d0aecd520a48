-- Bytes put behind those that stand up to a place, and a number of which some groups are put already.
use Rattle.std.specs.Prelude.{ℕ, ◌+◌, ◌<◌, ◌≡◌, List, ◌++◌, length, take, drop}
use Rattle.std.proofs.Math.Seq.{paste}
use Rattle.groups.specs.Groups.{numbers_end, number}

abbrev pub pasted : List ℕ → ℕ → List ℕ → List ℕ
pasted old at bs = paste old at bs (length bs)

-- what is before the bytes stays, and what is behind them
pub record Appended (old new : List ℕ) (at : ℕ) (bs : List ℕ) : Type 0 where
  pub front : take (at + length bs) new ≡ take at old ++ bs
  pub behind : drop (at + length bs) new ≡ drop (at + length bs) old
  pub room : length new ≡ length old

-- of the number v, which begins at `at`, `left` is to come at i
pub record Left (old : List ℕ) (at v : ℕ) (new : List ℕ) (i left : ℕ) : Type 0 where
  pub whole : pasted new i (number left) ≡ pasted old at (number v)
  pub ends : i + length (number left) ≡ at + length (number v)
  pub room : length new ≡ length old
  pub small : left < numbers_end
