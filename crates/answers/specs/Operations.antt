-- The code of each operation, the kinds of results, and the two words that an operation tells.
use Rattle.std.specs.Prelude.{◌≡◌, false, Bool, ℕ, ◌&&◌, leb, Result, MatchResult}
use Rattle.answers.specs.Codes.{PFA, PFL, DECAP, ADV, BORROW, ERASE, INV, CINV, CONC, FIRST, LENGTH, last_code}
use Rattle.answers.specs.Codes.{atom_kind, list_kind, number_kind, nothing_kind}
use Rattle.answers.specs.declared.code.Code.{Code}
use Rattle.answers.specs.declared.code.Code.TheVariants as code
use Rattle.answers.specs.declared.refusal.Refusal.{Refusal}
use Rattle.answers.specs.declared.refusal.Refusal.TheVariants as refusal
use Rattle.answers.specs.declared.told.Kind.{Kind}
use Rattle.answers.specs.declared.told.Kind.TheVariants as kind
use Rattle.answers.specs.declared.told.Told.{Told}
use Rattle.answers.specs.declared.told.Told.TheVariants as told

abbrev pub code_no : Code → ℕ
code_no code.Pfa = PFA
code_no code.Pfl = PFL
code_no code.Decap = DECAP
code_no code.Adv = ADV
code_no code.Borrow = BORROW
code_no code.Erase = ERASE
code_no code.Inv = INV
code_no code.Cinv = CINV
code_no code.Conc = CONC
code_no code.First = FIRST
code_no code.Length = LENGTH

abbrev pub kind_no : Kind → ℕ
kind_no kind.Atom = atom_kind
kind_no kind.List = list_kind
kind_no kind.Number = number_kind
kind_no kind.Nothing = nothing_kind

abbrev pub kind_told : Told → ℕ
kind_told (told.Atom v) = atom_kind
kind_told told.List = list_kind
kind_told (told.Number n) = number_kind
kind_told told.Nothing = nothing_kind

abbrev pub value_told : Told → ℕ
value_told (told.Atom v) = v
value_told told.List = 0
value_told (told.Number n) = n
value_told told.Nothing = 0

-- the codes that name an operation
abbrev pub is_code : ℕ → Bool
is_code n = leb PFA n && leb n last_code

-- the operation of a code, or CODE where it names none
abbrev pub Decodes : ℕ → Result Code Refusal → Type 0
Decodes n r = MatchResult r (λ c. code_no c ≡ n) (λ e. (e ≡ refusal.Code) × (is_code n ≡ false))
