-- `octal::two` meets its contract.
use native.Mathlib.Omega.{arith}
use lib.ListN.{length-set}
use Rattle.octal.specs.Laws.PuttingLaws.{two-put}
use Rattle.octal.proofs.two.Goals as goal

pub bounds-out-at-2 : goal.bounds-out-at-2
bounds-out-at-2 c = simp length-set (omega arith)

pub returns : goal.returns
returns c = two-put c.args.out.now c.args.at c.args.v (omega arith)
