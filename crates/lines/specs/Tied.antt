-- The largest number of the code is the last before the end of the definitions.
use Rattle.std.specs.Prelude.{◌≡◌, refl, ◌+◌}
use Rattle.lines.specs.Numbers.{numbers_end}
use Rattle.lines.specs.declared.number.TheConstants.Digits.{LARGEST}

pub largest_number : LARGEST + 1 ≡ numbers_end
largest_number = refl
