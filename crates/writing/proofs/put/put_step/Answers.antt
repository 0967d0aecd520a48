-- `writing::put::put_step` meets its contract.
use Rattle.std.proofs.Common.{refl, arith}
use Rattle.writing.specs.Steps.{shuts, passes, opens}
use Rattle.writing.specs.Laws.PutLaws.{put_one}
use Rattle.writing.proofs.put.put_step.Goals as goal

pub returns-in-End : goal.returns-in-End
returns-in-End c = (_, shuts c.in-End.ensures c.put_shut.ensures.0 refl, c.put_shut.ensures.1)

pub returns-in-Atom : goal.returns-in-Atom
returns-in-Atom c = let e = c.in-Atom.ensures in (_, passes e.0 e.1 c.put_pass.ensures.0 refl, c.put_pass.ensures.1)

pub returns-in-List : goal.returns-in-List
returns-in-List c =
    let e = c.in-List.ensures in
    (_, opens e.0 e.1 c.«open».ensures.0 c.«open».ensures.1, put_one c.args.out.now c.args.w.size _ 40 (c.requires.roomy.opens e.0 e.1) (omega arith))
