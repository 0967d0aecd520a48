-- `totext::check::check` meets its contract. The invariant of both loops: the automaton stands where the check does.
-- Each turn takes bytes or ends a list.
use Prim.Native.Nat.{◌+◌, ◌-◌, ◌*◌, ◌≤◌}
use lib.ListN.{length}
use Rattle.totext.specs.Checking.{Checking}
use Rattle.totext.proofs.check.check.Given as goal

abbrev pub invariant-loop-w-2 : goal.invariant-loop-w-2
invariant-loop-w-2 l =
    Checking l.groups l.kept l.w × (1 ≤ l.w.depth) × (2 * l.initial.w.from + l.w.depth ≤ 2 * l.w.from + l.initial.w.depth)

abbrev pub decreases-loop-w-2 : goal.decreases-loop-w-2
decreases-loop-w-2 l = 2 * length l.groups + l.w.depth - 2 * l.w.from

abbrev pub invariant-loop-w : goal.invariant-loop-w
invariant-loop-w l = Checking l.groups l.kept l.w

abbrev pub decreases-loop-w : goal.decreases-loop-w
decreases-loop-w l = 2 * length l.groups + l.w.depth - 2 * l.w.from
