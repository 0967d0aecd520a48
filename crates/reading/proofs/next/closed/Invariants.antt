-- `reading::next::closed` meets its contract.
use Rattle.std.proofs.Common.{◌+◌, ◌-◌}
use Rattle.scan.proofs.Shutting.{Shutting}
use Rattle.reading.proofs.next.closed.Given as goal

abbrev pub invariant-loop-shut : goal.invariant-loop-shut
invariant-loop-shut l = Shutting l.text l.depth l.elements l.at (l.depth - l.shut) (l.at + l.shut)
