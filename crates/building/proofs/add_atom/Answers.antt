-- `building::add_atom` meets its contract.
use native.Mathlib.Omega.{arith}
use Rattle.building.specs.Laws.StepLaws.{atom_hangs, adds}
use Rattle.building.proofs.add_atom.Goals as goal

pub hang_new-c-requires : goal.hang_new-c-requires
hang_new-c-requires c =
    record {
      table = c.requires.table;
      h_bound = c.requires.h_bound;
      hangs = atom_hangs c.requires.table c.requires.comes;
      kind_bound = omega arith;
    }

pub returns : goal.returns
returns c = adds c.hang_new-c.ensures
