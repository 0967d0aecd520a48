-- Engines that read groups wrongly, each in one way that groups alone have.
use Rattle.std.specs.Prelude.{Bool, true, false, cond, not, ◌&&◌, ◌||◌, List, [], ◌∷◌, ℕ, ◌+◌, ◌-◌, ◌*◌, ◌/◌, ◌%◌, eqb, ltb, length, get_or}
use Rattle.answers.specs.Answers.{DONE, NO_ROOM, TEXT_SIZE, END, DEEP, OUTPUT, GROUPS, unless}
use Rattle.lists.specs.Lst.{Lst, extent}
use Rattle.pool.specs.Pool.{frees}
use Rattle.pool.specs.Operations.{read}
use Rattle.pool.specs.Script.{among}
use Rattle.text.specs.Limits.{record_bytes, atoms_end}
use Rattle.text.specs.Text.{Answer, refusal, at_end}
use Rattle.groups.specs.Groups.{numbers_end}
use Rattle.groups.specs.Reading.{Token, num, bad, tokens, verdict, list_in}
use Rattle.calls.specs.Entry.{shown, stored}
use Rattle.calls.specs.Read.{Read, not_read, read_in}
use Rattle.calls.specs.Move.{Move, left_alone, put_out, moved_from}
use Rattle.promises.specs.Engine.{Engine}
use Rattle.promises.specs.Refuted.OneChanged.{right, with_read, with_move, in_form}
use Rattle.promises.specs.Refuted.WrongStored.{reading}
use Rattle.promises.specs.Refuted.GroupRules.{tokens_but, tokens_high, scanned_by, list_by}
use Rattle.groups.specs.declared.Stored.TheVariants.{Text, Groups}
use Rattle.table.specs.declared.Form.TheVariants.{Four}

-- ours with groups judged in another way, and another list of them, in reading and in moving; what ours refuses before
-- it looks at the numbers stays refused
abbrev pub judging : (List ℕ → Answer) → (List ℕ → Lst) → Engine
judging f g = with_read (in_form Groups read_in reads) (with_move (in_form Groups moved_from moves) right)
  where
    reads : List ℕ → List ℕ → ℕ → List ℕ → Read
    reads ts ws h xs =
        let r = read_in Groups ts ws h xs in
        let p = shown Four ts in
        cond (not (among r.answer (DONE ∷ GROUPS ∷ DEEP ∷ NO_ROOM ∷ []))) r
        (unless (f xs).no (λ n. not_read n ts r.work)
        (cond (ltb (frees p.cells) (extent (g xs))) (not_read NO_ROOM ts r.work)
        (record { answer = DONE; count = (f xs).taken; table = stored Four ts (read p h (g xs)); work = r.work })))

    moves : List ℕ → List ℕ → Move
    moves xs out =
        let r = moved_from Groups xs out in
        cond (not (among r.answer (DONE ∷ GROUPS ∷ DEEP ∷ OUTPUT ∷ []))) r
        (unless (f xs).no (λ n. left_alone n out) (put_out Text (f xs).taken (g xs) out))

-- by other rules for a number, and for a list number
abbrev ruled : (ℕ → Bool) → (List ℕ → List Token) → Engine
ruled test tok = judging (λ xs. scanned_by test (tok xs)) (λ xs. list_by test (tok xs))

-- a number in more groups than it needs
abbrev pub takes_long : Engine
takes_long = ruled (λ v. false) (tokens_but (λ g v. not (ltb (g + 128 * v) numbers_end)))

-- a number of 2^33 or more
abbrev pub takes_large : Engine
takes_large = ruled (λ v. false) (tokens_but (λ g v. eqb v 0))

-- level 201, whatever opens it; or where the null list does
abbrev pub reads_deep : Engine
reads_deep = ruled (λ v. true) tokens

abbrev pub reads_deep_null : Engine
reads_deep_null = ruled (λ v. eqb v 1) tokens

-- no number of 2^32 or more, as one who has 32 bits for a number
abbrev pub refuses_large : Engine
refuses_large = ruled (λ v. false) (tokens_but (λ g v. eqb v 0 || not (ltb (g + 128 * v) atoms_end)))

-- a level too many counted: what opens level 200 is refused
abbrev pub refuses_deepest : Engine
refuses_deepest = judging (λ xs. cond (eqb (verdict (3 ∷ xs)).no DEEP) (refusal DEEP) (verdict xs)) list_in

-- an atom at the top, as the list of it alone
abbrev pub takes_atom : Engine
takes_atom = judging (λ xs. cond (at_top xs) (alone (verdict (3 ∷ xs))) (verdict xs))
    (λ xs. cond (at_top xs) (list_in (3 ∷ xs)) (list_in xs))
  where
    at_top : List ℕ → Bool
    at_top xs = eqb (get_or xs 0 0 % 2) 0

    alone : Answer → Answer
    alone r = record { no = r.no; taken = r.taken - 1 }

-- looks at the bytes behind the list
abbrev pub looks_behind : Engine
looks_behind = judging
    (λ xs. cond (eqb (verdict xs).no DONE && ltb (verdict xs).taken (length xs)) (refusal GROUPS) (verdict xs)) list_in

-- looks ahead: a list of more elements than there are bytes is none
abbrev claimed : List Token → ℕ
claimed [] = 0
claimed (bad ∷ ts) = 0
claimed (num v k ∷ ts) = v / 2

abbrev pub looks_ahead : Engine
looks_ahead = judging (λ xs. cond (ltb (length xs) (claimed (tokens xs))) (refusal GROUPS) (verdict xs)) list_in

-- asks for the cells of the first number's elements before it looks at them
abbrev pub room_ahead : Engine
room_ahead = reading Groups (λ ts ws h xs.
    let r = read_in Groups ts ws h xs in
    cond (among r.answer (GROUPS ∷ DEEP ∷ []) && ltb (frees (shown Four ts).cells) (claimed (tokens xs)))
    (not_read NO_ROOM ts r.work) r)

-- tells all bytes for taken, those behind the list too
abbrev pub tells_all : Engine
tells_all = judging
    (λ xs. let r = verdict xs in record { no = r.no; taken = cond (eqb r.no DONE) (length xs) 0 }) list_in

-- the sizes of text: whole records, and blanks for an end
abbrev pub wants_records : Engine
wants_records = judging (λ xs. cond (eqb (length xs % record_bytes) 0) (verdict xs) (refusal TEXT_SIZE)) list_in

abbrev pub ends_at_blanks : Engine
ends_at_blanks = judging (λ xs. cond (at_end xs) (refusal END) (verdict xs)) list_in

-- low and high group swapped
abbrev pub reads_high : Engine
reads_high = judging verdict (λ xs. list_by (λ v. false) (tokens_high 0 0 xs))
