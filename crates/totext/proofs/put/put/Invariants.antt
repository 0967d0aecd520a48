-- `totext::put::put` meets its contract. The invariant of both loops: the characters that have been passed are in their
-- places. Each turn passes one or more, so that those left fall.
use Rattle.std.specs.Prelude.{◌-◌, ◌≤◌, length}
use Rattle.groups.specs.Reading.{list_in}
use Rattle.text.specs.ListText.{text_of}
use Rattle.totext.specs.Putting.{Putting}
use Rattle.totext.proofs.put.put.Given as goal

abbrev pub invariant-loop-w-2 : goal.invariant-loop-w-2
invariant-loop-w-2 l =
    Putting l.groups (text_of (list_in l.groups)) l.initial.out (length (text_of (list_in l.groups))) l.out l.kept l.w × (1 ≤ l.w.depth) × (l.initial.w.to ≤ l.w.to)

abbrev pub decreases-loop-w-2 : goal.decreases-loop-w-2
decreases-loop-w-2 l = length (text_of (list_in l.groups)) - l.w.to

abbrev pub invariant-loop-w : goal.invariant-loop-w
invariant-loop-w l = Putting l.groups (text_of (list_in l.groups)) l.initial.out (length (text_of (list_in l.groups))) l.out l.kept l.w

abbrev pub decreases-loop-w : goal.decreases-loop-w
decreases-loop-w l = length (text_of (list_in l.groups)) - l.w.to
