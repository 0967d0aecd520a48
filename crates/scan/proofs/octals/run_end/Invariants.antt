-- `run_end` ends where the run of digits does. The invariant: the run from `i` ends where the run from the start does.
use Rattle.std.proofs.Common.{◌+◌, ◌-◌, ◌≤◌, ◌≡◌, length, drop}
use Rattle.scan.specs.Runs.{digit_run}
use Rattle.scan.proofs.octals.run_end.Given as goal

abbrev pub invariant-loop-end : goal.invariant-loop-end
invariant-loop-end l = (l.i ≤ length l.text) × (l.i + digit_run (drop l.i l.text) ≡ l.from + digit_run (drop l.from l.text))

abbrev pub decreases-loop-end : goal.decreases-loop-end
decreases-loop-end l = length l.text - l.i
