-- `reading::digits::number_at` meets its contract.
use mathlib.Core.Path.{◌≡◌}
use Prim.Native.Nat.{◌-◌}
use lib.ListN.{length, drop}
use Rattle.scan.specs.Runs.{numeral}
use Rattle.reading.specs.Numbers.{end_at}
use Rattle.reading.proofs.digits.number_at.Given as goal

abbrev pub invariant-loop-value : goal.invariant-loop-value
invariant-loop-value l = (end_at l.text l.i ≡ end_at l.text l.from) × (numeral l.value (drop l.i l.text) ≡ numeral 0 (drop l.from l.text))

abbrev pub decreases-loop-value : goal.decreases-loop-value
decreases-loop-value l = length l.text - l.i
