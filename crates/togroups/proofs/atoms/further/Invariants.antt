-- `togroups::atoms::further` meets its contract. The invariant: the digits from i on are gathered, and end where the
-- first did.
use Prim.Native.Nat.{◌+◌}
use mathlib.Core.Path.{◌≡◌}
use lib.ListN.{drop}
use Rattle.scan.specs.Runs.{digit_run}
use Rattle.togroups.specs.Atoms.{Gathered}
use Rattle.togroups.proofs.atoms.further.Given as goal

abbrev pub invariant-loop-i : goal.invariant-loop-i
invariant-loop-i l = Gathered l.text l.i l.v l.w × (l.i + digit_run (drop l.i l.text) ≡ l.from + digit_run (drop l.from l.text))

abbrev pub decreases-loop-i : goal.decreases-loop-i
decreases-loop-i l = l.i
