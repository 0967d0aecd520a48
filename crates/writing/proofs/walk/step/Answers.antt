-- `writing::walk::step` meets its contract.
use Rattle.std.proofs.Common.{refl}
use Rattle.writing.specs.Steps.{shuts, passes, opens}
use Rattle.writing.proofs.walk.step.Goals as goal

pub returns-in-End : goal.returns-in-End
returns-in-End c = (_, shuts c.in-End.ensures c.shut.ensures refl)

pub returns-in-Atom : goal.returns-in-Atom
returns-in-Atom c = let e = c.in-Atom.ensures in (_, passes e.0 e.1 c.pass.ensures refl)

pub returns-in-List : goal.returns-in-List
returns-in-List c = let e = c.in-List.ensures in (_, opens e.0 e.1 c.«open».ensures.0 c.«open».ensures.1)
