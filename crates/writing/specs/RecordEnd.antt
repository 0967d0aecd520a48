-- Where the text of a list ends when it is filled.
use Rattle.std.specs.Prelude.{ℕ, ◌+◌, ◌-◌, ◌%◌}
use Rattle.text.specs.Limits.{record_bytes}

-- where the record ends in which the last of n characters stands
abbrev pub record_end : ℕ → ℕ
record_end n = n + (record_bytes - n % record_bytes) % record_bytes
