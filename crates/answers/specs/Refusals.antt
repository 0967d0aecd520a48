-- The number of each refusal, and of what a step of a call answers.
use Rattle.std.specs.Prelude.{ℕ, Result, Ok, Err}
use Rattle.answers.specs.Answers.{DONE, TABLE_SIZE, WORK_SPACE, SCRIPT, RESULTS, UNSOUND, CODE, HOLDER, SAME, NULL}
use Rattle.answers.specs.Answers.{OCCUPIED, SHARED, NO_ROOM, TEXT_SIZE, END, NOT_A_LIST, ATOM, DEEP, OUTPUT, GROUPS}
use Rattle.answers.specs.declared.refusal.Refusal.{Refusal}
use Rattle.answers.specs.declared.refusal.Refusal.TheVariants as refusal

abbrev pub refusal_no : Refusal → ℕ
refusal_no refusal.TableSize = TABLE_SIZE
refusal_no refusal.WorkSpace = WORK_SPACE
refusal_no refusal.Script = SCRIPT
refusal_no refusal.Results = RESULTS
refusal_no refusal.Unsound = UNSOUND
refusal_no refusal.Code = CODE
refusal_no refusal.Holder = HOLDER
refusal_no refusal.Same = SAME
refusal_no refusal.Null = NULL
refusal_no refusal.Occupied = OCCUPIED
refusal_no refusal.Shared = SHARED
refusal_no refusal.NoRoom = NO_ROOM
refusal_no refusal.TextSize = TEXT_SIZE
refusal_no refusal.End = END
refusal_no refusal.NotAList = NOT_A_LIST
refusal_no refusal.Atom = ATOM
refusal_no refusal.Deep = DEEP
refusal_no refusal.Output = OUTPUT
refusal_no refusal.Groups = GROUPS

-- a step that goes on answers DONE
abbrev pub answer_no : {A : Type 0} → Result A Refusal → ℕ
answer_no (Ok x) = DONE
answer_no (Err r) = refusal_no r
