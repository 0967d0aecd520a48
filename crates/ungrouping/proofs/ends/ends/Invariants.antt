-- `ungrouping::ends::ends` meets its contract.
use Rattle.std.specs.Prelude.{◌≡◌, take}
use Rattle.groups.specs.LastGroups.{last_groups}
use Rattle.ungrouping.proofs.ends.ends.Given as goal

abbrev pub invariant-loop-b : goal.invariant-loop-b
invariant-loop-b l = l.count ≡ last_groups (take l.b-index l.block)
