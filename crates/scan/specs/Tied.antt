-- The limits of the code are the numbers of the definitions.
use Rattle.std.specs.Prelude.{◌≡◌, refl}
use Rattle.text.specs.Limits.{levels, digits_most}
use Rattle.scan.specs.declared.limits.TheConstants.Digits as digits
use Rattle.scan.specs.declared.limits.TheConstants.Level as level

pub open_levels : level.MOST ≡ levels
open_levels = refl

pub digits_of_an_atom : digits.MOST ≡ digits_most
digits_of_an_atom = refl
