-- Bytes laid over others: where they come, what is before and behind them stays.
use Rattle.std.specs.Prelude.{ℕ, ◌+◌, Bool, cond, List, ◌++◌, reverse, length, take, drop}
use Rattle.calls.specs.Entry.{over}

abbrev pub laid : List ℕ → ℕ → List ℕ → List ℕ
laid old at bs = take at old ++ (bs ++ drop (at + length bs) old)

-- put out with the last byte first, or only counted
abbrev pub laid_back : Bool → List ℕ → ℕ → List ℕ → List ℕ
laid_back puts old at bs = cond puts (laid old at (reverse bs)) old

-- over the start, the last byte first, or not put
abbrev pub over_back : Bool → List ℕ → List ℕ → List ℕ
over_back puts bs old = cond puts (over (reverse bs) old) old
