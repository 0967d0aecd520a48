-- `scan` says what the automaton does of the whole text. The invariant: the outlook at the place is that of the text.
use Prim.Native.Nat.{◌-◌}
use lib.ListN.{length}
use Rattle.scan.proofs.Whole.{Stands}
use Rattle.scan.proofs.scan.Given as goal

abbrev pub invariant-loop-p : goal.invariant-loop-p
invariant-loop-p l = Stands l.text l.p

abbrev pub decreases-loop-p : goal.decreases-loop-p
decreases-loop-p l = length l.text - l.p.at
