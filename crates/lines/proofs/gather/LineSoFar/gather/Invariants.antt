-- `lines::gather::LineSoFar::gather` meets its contract.
use Rattle.std.proofs.Common.{◌≡◌, take}
use Rattle.lines.specs.Splitting.{going, eaten}
use Rattle.lines.proofs.gather.LineSoFar.gather.Given as goal

abbrev pub invariant-loop-i : goal.invariant-loop-i
invariant-loop-i l = going l.self ≡ eaten (going l.initial.self) (take l.i l.chunk)
