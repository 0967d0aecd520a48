-- The limit of the code is the number of the definitions.
use Rattle.std.specs.Prelude.{◌≡◌, refl}
use Rattle.groups.specs.Groups.{numbers_end}
use Rattle.numbers.specs.declared.TheConstants.Number.{END}

pub end_of_numbers : END ≡ numbers_end
end_of_numbers = refl
