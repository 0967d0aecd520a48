-- `table::clear` meets its contract.
use Rattle.std.proofs.Common.{◌≡◌}
use Rattle.table.specs.Sizes.{cleared}
use Rattle.table.proofs.clear.Given as goal

abbrev pub invariant-loop-word : goal.invariant-loop-word
invariant-loop-word l = l.word-items ≡ cleared l.word-index l.initial.word-items
