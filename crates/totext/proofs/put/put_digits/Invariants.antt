-- `totext::put::put_digits` meets its contract. The invariant: a run of atoms leads to r.
use Rattle.std.specs.Prelude.{length}
use Rattle.groups.specs.Reading.{list_in}
use Rattle.text.specs.ListText.{text_of}
use Rattle.totext.specs.Putting.{Ran}
use Rattle.totext.proofs.put.put_digits.Given as goal

abbrev pub invariant-loop-r : goal.invariant-loop-r
invariant-loop-r l = Ran l.groups (text_of (list_in l.groups)) (length l.initial.out) l.kept l.initial.out l.out l.initial.r l.r

abbrev pub decreases-loop-r : goal.decreases-loop-r
decreases-loop-r l = l.r.left
