-- The readers meet their contracts. The measure is twice the bytes left, and one more for a list, which reads its first
-- element at its own place.
use Prim.Native.Nat.{◌+◌, ◌-◌, ◌*◌}
use lib.ListN.{length}
use Rattle.ungrouping.specs.Places.{Leads}
use Rattle.ungrouping.proofs.readers.+read_element_read_list.Given as goal

abbrev pub decreases-read_element : goal.decreases-read_element
decreases-read_element l = 2 * (length l.bytes.now - l.at)

abbrev pub decreases-read_list : goal.decreases-read_list
decreases-read_list l = 2 * (length l.bytes.now - l.from) + 1

abbrev pub invariant-read_list-loop-left : goal.invariant-read_list-loop-left
invariant-read_list-loop-left l = Leads l.bytes l.level l.from l.claimed l.at l.left

abbrev pub decreases-read_list-loop-left : goal.decreases-read_list-loop-left
decreases-read_list-loop-left l = length l.bytes - l.at
