-- What a session does, for all input: each line changes the words of the table in use and prints its answer. There is
-- no word before a NEW succeeds, so that every call then answers TABLE SIZE and no cell is free.
use Rattle.std.specs.Prelude.{cond, List, [], ◌∷◌, ◌++◌, ℕ, ◌*◌, eqb, get_or, replicate}
use Rattle.answers.specs.Answers.{DONE}
-- the kind where there is nothing to say
pub use Rattle.answers.specs.Codes.{nothing_kind}
use Rattle.pool.specs.Pool.{frees}
use Rattle.table.specs.Limits.{cells_most}
use Rattle.table.specs.View.{four, word_count}
use Rattle.calls.specs.SetUp.{Given, set_up}
use Rattle.calls.specs.Entry.{work_words, shown}
use Rattle.calls.specs.Run.{Ran, ran}
use Rattle.groups.specs.declared.Stored.TheVariants.{Text}
use Rattle.calls.specs.Read.{Read, read_in}
use Rattle.calls.specs.Write.{Write, write_out}
use Rattle.lists.specs.Lst.{Lst}
use Rattle.pool.specs.Operations.{list_of}
use Rattle.text.specs.Limits.{text_most}
use Rattle.text.specs.ListText.{text_of}
use Rattle.lines.specs.Commands.{Command, malformed, new, operation, reading, writing, command}
use Rattle.lines.specs.Printed.{line_feed, reply, question, filled}
use Rattle.lines.specs.Splitting.{Line, line, long, lines_of}
use Rattle.table.specs.declared.Form.TheVariants.{Four}

-- the words in use after a line, and what it prints
pub record Turn : Type 0 where
  pub words : List ℕ
  pub printed : List ℕ

abbrev pub asked : List ℕ → Turn
asked ts = record { words = ts; printed = question }

unfoldable pub free_cells : List ℕ → ℕ
free_cells ts = frees (shown Four ts).cells

-- what a call leaves in use, and what is told of it
pub record Told : Type 0 where
  pub words : List ℕ
  pub answer : ℕ
  pub kind : ℕ
  pub value : ℕ

abbrev pub replied : Told → Turn
replied t = record { words = t.words; printed = reply t.answer t.kind t.value (free_cells t.words) }

-- NEW: words for n cells are set up; a refusal keeps the old ones
abbrev pub opened : ℕ → Given
opened n = set_up (replicate (word_count (four n)) 0) n

abbrev pub new_words : List ℕ → Given → List ℕ
new_words ts g = cond (eqb g.answer DONE) g.table ts

abbrev pub opening : List ℕ → Given → Told
opening ts g = record { words = new_words ts g; answer = g.answer; kind = nothing_kind; value = 0 }

-- an operation: a script of four words, with work space for the largest table; where it is refused the two results
-- stay
abbrev pub work_most : ℕ
work_most = work_words * cells_most Four

abbrev pub performing : List ℕ → ℕ → ℕ → ℕ → ℕ → Ran
performing ts c a b v = ran ts (replicate work_most 0) (c ∷ a ∷ b ∷ v ∷ []) (nothing_kind ∷ 0 ∷ [])

abbrev pub operated : Ran → Told
operated r =
    record { words = r.table; answer = r.answer; kind = get_or r.results 0 0; value = get_or r.results 1 0 }

-- READ: the text is filled to a full record
abbrev pub reading_of : List ℕ → ℕ → List ℕ → Read
reading_of ts h xs = read_in Text ts (replicate work_most 0) h (filled xs)

abbrev pub took : Read → Told
took r = record { words = r.table; answer = r.answer; kind = nothing_kind; value = 0 }

-- WRITE is lent room for the longest text; where it is accepted the text follows on a line of its own, without the
-- fill
abbrev pub writing_of : List ℕ → ℕ → Write
writing_of ts h = write_out Text ts (replicate work_most 0) h (replicate text_most 0)

abbrev pub text_line : ℕ → Lst → List ℕ
text_line answer l = cond (eqb answer DONE) (text_of l ++ (line_feed ∷ [])) []

abbrev pub shows : List ℕ → ℕ → Lst → Turn
shows ts answer l = record { words = ts; printed = reply answer nothing_kind 0 (free_cells ts) ++ text_line answer l }

unfoldable pub does : List ℕ → Command → Turn
does ts malformed = asked ts
does ts (new n) = replied (opening ts (opened n))
does ts (operation c a b v) = replied (operated (performing ts c a b v))
does ts (reading h xs) = replied (took (reading_of ts h xs))
does ts (writing h) = shows ts (writing_of ts h).answer (list_of (shown Four ts) h)

abbrev pub answered : List ℕ → Line → Turn
answered ts long = asked ts
answered ts (line s) = does ts (command s)

-- lines one after another
unfoldable pub prints : List ℕ → List Line → List ℕ
prints ts [] = []
prints ts (l ∷ ls) = (answered ts l).printed ++ prints (answered ts l).words ls

-- what a session prints for its whole input
abbrev pub session : List ℕ → List ℕ
session input = prints [] (lines_of input)
