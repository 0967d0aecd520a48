-- `building::begin_list` meets its contract.
use native.Mathlib.Omega.{arith}
use Rattle.building.specs.Laws.StepLaws.{list_hangs, begins}
use Rattle.building.proofs.begin_list.Goals as goal

pub hang_new-c-requires : goal.hang_new-c-requires
hang_new-c-requires c =
    record {
      table = c.requires.table;
      h_bound = c.requires.h_bound;
      hangs = list_hangs c.requires.table c.requires.comes;
      kind_bound = omega arith;
    }

pub returns : goal.returns
returns c = begins c.hang_new-c.ensures
