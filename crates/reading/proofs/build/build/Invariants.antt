-- `reading::build::build` meets its contract.
use Prim.Native.Nat.{◌-◌}
use lib.ListN.{length}
use Rattle.reading.specs.Pass.{Pass}
use Rattle.reading.proofs.build.build.Given as goal

abbrev pub invariant-loop-p : goal.invariant-loop-p
invariant-loop-p l = Pass l.s l.initial.t l.h l.text l.t l.k l.lists l.p

abbrev pub decreases-loop-p : goal.decreases-loop-p
decreases-loop-p l = length l.text - l.p.at
