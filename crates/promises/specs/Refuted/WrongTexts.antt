-- Engines that read, check or write text wrongly, each in one way that text alone has.
use Rattle.std.specs.Prelude.{Bool, true, false, cond, not, ◌&&◌, List, [], ◌∷◌, ℕ, eqb, length}
use Rattle.answers.specs.Answers.{DONE, ATOM}
use Rattle.text.specs.ListText.{text_of, is_digit_byte}
use Rattle.text.specs.Text.{Answer, State, at, refused, taken, place, begin, next, answer, verdict}
use Rattle.calls.specs.Read.{Read, read_in}
use Rattle.promises.specs.Engine.{Engine}
use Rattle.promises.specs.StoredGrounds.{filled}
use Rattle.promises.specs.Refuted.OneChanged.{right, with_read, with_check, with_rest, in_form}
use Rattle.promises.specs.Refuted.WrongStored.{writing}
use Rattle.groups.specs.declared.Stored.TheVariants.{Text}

-- ours with another reader of text and another check
abbrev pub taking : (List ℕ → List ℕ → ℕ → List ℕ → Read) → (List ℕ → Answer) → Engine
taking f g = with_read (in_form Text read_in f) (with_check g right)

-- a text check with a number beside its refusal
abbrev pub counts_refused : Engine
counts_refused = with_check (λ xs. record { no = (verdict xs).no; taken = 99 }) right

-- says of a text that is taken that it is taken whole, records behind the list and all
abbrev pub takes_all : Engine
takes_all = taking
    (λ ts ws h xs. let r = read_in Text ts ws h xs in record {
      answer = r.answer;
      count = whole r.answer xs;
      table = r.table;
      work = r.work;
    })
    (λ xs. let r = verdict xs in record { no = r.no; taken = whole r.no xs })
  where
    whole : ℕ → List ℕ → ℕ
    whole n xs = cond (eqb n DONE) (length xs) 0

-- a check that judges an atom by its value alone, however many its digits
abbrev uncounted : State → State
uncounted (at s n) = at (place s.phase s.depth 0 s.value) n
uncounted (refused k) = refused k
uncounted (taken n) = taken n

unfoldable pub run_uncounted : State → List ℕ → State
run_uncounted st [] = st
run_uncounted st (b ∷ bs) = run_uncounted (next (uncounted st) b) bs

abbrev pub counts_no_digits : Engine
counts_no_digits = with_check
    (λ xs. cond (eqb (verdict xs).no ATOM) (answer (run_uncounted (at begin 0) xs)) (verdict xs)) right

-- ours with another further call
abbrev pub handing : (List ℕ → ℕ) → Engine
handing f = with_rest f right

-- hands nothing back
abbrev pub loses_rest : Engine
loses_rest = handing length

-- hands back the empty part at the start where the check refuses
abbrev pub rest_at_start : Engine
rest_at_start = handing (λ xs. (verdict xs).taken)

-- a 0 before each atom, as C writes octal numbers; k tells that an atom has begun
unfoldable pub zeroed : Bool → List ℕ → List ℕ
zeroed k [] = []
zeroed k (b ∷ bs) = cond (not k && is_digit_byte b) (48 ∷ b ∷ zeroed true bs) (b ∷ zeroed (is_digit_byte b) bs)

abbrev pub leads_with_zero : Engine
leads_with_zero = writing Text (λ l. filled (zeroed false (text_of l)))
