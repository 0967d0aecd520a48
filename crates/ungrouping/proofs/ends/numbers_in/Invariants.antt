-- `ungrouping::ends::numbers_in` meets its contract.
use Rattle.std.specs.Prelude.{◌≡◌, ◌+◌}
use Rattle.std.specs.Slice.Iter.{chunks_rest, chunks_size}
use Rattle.groups.specs.LastGroups.{last_groups}
use Rattle.ungrouping.proofs.ends.numbers_in.Given as goal

abbrev pub invariant-loop-block : goal.invariant-loop-block
invariant-loop-block l =
    (chunks_size l.block-iterator ≡ 192) × (l.count + last_groups (chunks_rest l.block-iterator) ≡ last_groups l.bytes)
