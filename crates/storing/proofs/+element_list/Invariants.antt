-- `storing::element` and `storing::list` call each other and meet their contracts. The measure is the bytes left: twice
-- their number for an element, and one more for a list, whose first element begins at the same place.
use Prim.Native.Nat.{◌+◌, ◌-◌, ◌*◌}
use lib.ListN.{length}
use Rattle.storing.specs.Readers.{Leaves}
use Rattle.storing.proofs.+element_list.Given as goal

abbrev pub decreases-element : goal.decreases-element
decreases-element l = 2 * (length l.bytes.now - l.spot.at)

abbrev pub decreases-list : goal.decreases-list
decreases-list l = 2 * (length l.bytes.now - l.at) + 1

abbrev pub invariant-list-loop : goal.invariant-list-loop
invariant-list-loop l = Leaves l.s l.h l.bytes l.initial.t l.at l.n l.k l.t l.spot (l.n - l.counter)
