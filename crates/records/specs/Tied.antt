-- The constants of a record are the numbers of the definitions.
use Rattle.std.specs.Prelude.{◌≡◌, refl}
use Rattle.text.specs.Limits.{record_bytes, records_most, text_most}
use Rattle.records.specs.declared.TheConstants.Record.{BYTES, MOST, TEXT}

pub bytes_of_a_record : BYTES ≡ record_bytes
bytes_of_a_record = refl

pub records_of_a_text : MOST ≡ records_most
records_of_a_text = refl

pub bytes_of_a_text : TEXT ≡ text_most
bytes_of_a_text = refl
