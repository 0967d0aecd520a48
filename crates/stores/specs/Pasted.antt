-- Bytes put over those that stand from a place on: what is before them stays, and what is behind them.
use Rattle.std.specs.Prelude.{ℕ, List, length}
use Rattle.std.proofs.Math.Seq.{paste}

abbrev pub pasted : List ℕ → ℕ → List ℕ → List ℕ
pasted old at bs = paste old at bs (length bs)
