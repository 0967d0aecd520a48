-- `octal::eight` meets its contract.
use Prim.Native.Nat.{◌/◌}
use native.Mathlib.Omega.{arith}
use Rattle.octal.specs.Laws.PuttingLaws.{halves}
use Rattle.octal.proofs.eight.Goals as goal

pub returns : goal.returns
returns c =
    let a = c.args in
    halves a.out.now a.at (omega arith) 4 4 a.v (a.v / 4096) (omega arith) c.four.ensures c.four-2.ensures
