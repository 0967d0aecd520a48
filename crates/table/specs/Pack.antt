-- The two words of a packed cell: from the top bit down a type of 1 bit, a count of 15 and a successor of 16, and
-- then the element.
use Rattle.std.specs.Prelude.{ℕ, zero, suc, ◌+◌, ◌*◌, ◌/◌, ◌%◌}
use Rattle.pool.specs.Pool.{Cell}

-- field k of the words w and e
unfoldable pub part : ℕ → ℕ → ℕ → ℕ
part zero w e = w / 2147483648
part (suc zero) w e = e
part (suc (suc zero)) w e = w / 65536 % 32768
part (suc (suc (suc k))) w e = w % 65536

-- what field k has room for
abbrev pub room : ℕ → ℕ
room zero = 2
room (suc zero) = 4294967296
room (suc (suc zero)) = 32768
room (suc (suc (suc k))) = 65536

-- the first word with v in field k
unfoldable pub with_part : ℕ → ℕ → ℕ → ℕ
with_part zero v w = w % 2147483648 + 2147483648 * v
with_part (suc zero) v w = w
with_part (suc (suc zero)) v w = w / 2147483648 * 2147483648 + 65536 * v + w % 65536
with_part (suc (suc (suc k))) v w = w / 65536 * 65536 + v

-- the first word of a cell
abbrev pub packed : Cell → ℕ
packed x = x.kind * 2147483648 + x.count * 65536 + x.next
