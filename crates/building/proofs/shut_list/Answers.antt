-- `building::shut_list` meets its contract.
use mathlib.Core.Path.{refl}
use native.Mathlib.Omega.{arith}
use Rattle.building.specs.Laws.StepLaws.{hook_in, shuts}
use Rattle.building.proofs.shut_list.Goals as goal

pub hang-requires : goal.hang-requires
hang-requires c =
    record {
      table = c.requires.table;
      h_bound = c.requires.h_bound;
      in_table = hook_in c.requires.table c.requires.comes;
      c_le_cells = omega arith;
    }

pub returns : goal.returns
returns c = record { shuts_list = shuts c.hang.ensures; value = refl }
