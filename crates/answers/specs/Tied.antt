-- The last code is the number of the definition, and that of the last operation.
use Rattle.std.specs.Prelude.{◌≡◌, refl}
use Rattle.answers.specs.Codes.{last_code}
use Rattle.answers.specs.Operations.{code_no}
use Rattle.answers.specs.declared.code.TheConstants.Code.{LAST}
use Rattle.answers.specs.declared.code.Code.TheVariants.{Length}

pub last_of_the_codes : LAST ≡ last_code
last_of_the_codes = refl

pub last_operation : LAST ≡ code_no Length
last_operation = refl
