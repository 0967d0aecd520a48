-- `octal::four` meets its contract.
use Prim.Native.Nat.{◌/◌}
use native.Mathlib.Omega.{arith}
use Rattle.octal.specs.Laws.PuttingLaws.{halves}
use Rattle.octal.proofs.four.Goals as goal

pub returns : goal.returns
returns c =
    let a = c.args in
    halves a.out.now a.at (omega arith) 2 2 a.v (a.v / 64) (omega arith) c.two.ensures c.two-2.ensures
