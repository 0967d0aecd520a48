-- What the code's line and engine stand for between two steps, and what each function leaves.
use Rattle.std.specs.Prelude.{◌≡◌, List, [], ℕ, ◌-◌, ◌≤◌, ◌<◌, length, take, drop}
use Rattle.lines.specs.Splitting.{Part}
use Rattle.console.specs.Serving.{Mid, Takes}

abbrev pub mid : Part → List ℕ → Mid
mid p ts = record { words = ts; kept = p.kept; over = p.over }

-- a step in which no line ends takes the chunk in whole and prints nothing
abbrev pub Passed : Mid → List ℕ → Mid → Type 0
Passed m chunk n = Takes m chunk [] n

-- a step in which a line ends: the bytes up to its end are taken in, the rest stands behind them, and what it printed
-- stands at the start of the output
pub record Stepped (m : Mid) (chunk rest : List ℕ) (wrote : ℕ) (n : Mid) (out : List ℕ) : Type 0 where
  pub takes : Takes m (take (length chunk - length rest) chunk) (take wrote out) n
  pub behind : rest ≡ drop (length chunk - length rest) chunk
  pub on : length rest < length chunk
  pub fits : wrote ≤ length out

-- a chunk has been taken in whole
pub record Served (m : Mid) (chunk : List ℕ) (n : Mid) : Type 0 where
  pub out : List ℕ
  pub takes : Takes m chunk out n
