-- `all_blank` goes on from record to record. The invariant: as many bytes that are no blanks are left as at the start.
use Rattle.std.specs.Prelude.{◌≡◌, ◌%◌, length}
use Rattle.std.specs.Slice.Iter.{chunks_exact_rest, chunks_exact_size}
use Rattle.text.specs.Limits.{record_bytes}
use Rattle.text.specs.Text.{others}
use Rattle.records.proofs.all_blank.Given as goal

abbrev pub invariant-loop-record : goal.invariant-loop-record
invariant-loop-record l = record {
  by_records : chunks_exact_size l.record-iterator ≡ record_bytes;
  whole : length (chunks_exact_rest l.record-iterator) % record_bytes ≡ 0;
  left : others l.records ≡ others (chunks_exact_rest l.record-iterator);
}
