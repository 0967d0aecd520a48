-- `togroups::pass::pass` meets its contract. The invariant: the groups of what is behind the place are given. Each step
-- goes back, so that the places left fall.
use Rattle.togroups.specs.Passing.{Passing}
use Rattle.togroups.proofs.pass.pass.Given as goal

abbrev pub invariant-loop-w : goal.invariant-loop-w
invariant-loop-w g l = Passing l.text l.initial.out g.G.Give.puts l.out l.outer l.w l.size

abbrev pub decreases-loop-w : goal.decreases-loop-w
decreases-loop-w g l = l.w.at
