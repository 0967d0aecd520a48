-- The limits of a script are the numbers of the definitions.
use Rattle.std.specs.Prelude.{◌≡◌, refl}
use Rattle.answers.specs.Codes.{operation_words, operations_most, script_most, result_words}
use Rattle.scripts.specs.declared.TheConstants.Script as script
use Rattle.scripts.specs.declared.TheConstants.Results as results

pub operations_of_a_script : script.MOST ≡ operations_most
operations_of_a_script = refl

pub words_of_an_operation : script.WORDS ≡ operation_words
words_of_an_operation = refl

pub words_of_a_script : script.WORDS_MOST ≡ script_most
words_of_a_script = refl

pub words_of_a_result : results.WORDS ≡ result_words
words_of_a_result = refl
