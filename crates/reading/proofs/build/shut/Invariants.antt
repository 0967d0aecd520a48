-- `reading::build::shut` meets its contract.
use Rattle.std.proofs.Common.{◌≤◌}
use Rattle.reading.specs.Adding.{ShutTo}
use Rattle.reading.proofs.build.shut.Given as goal

abbrev pub invariant-loop-level : goal.invariant-loop-level
invariant-loop-level l = (l.to ≤ l.level) × ShutTo l.s l.h l.initial.t l.initial.at l.lists l.from l.level l.t l.at
