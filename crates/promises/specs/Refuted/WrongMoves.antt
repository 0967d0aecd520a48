-- Engines that move a stored list wrongly, each in one way.
use Rattle.std.specs.Prelude.{false, cond, not, List, [], ◌∷◌, ℕ, ◌+◌, eqb, leb, length, take, replicate}
use Rattle.answers.specs.Answers.{DONE, NOT_A_LIST, ATOM, DEEP, OUTPUT, GROUPS}
use Rattle.lists.specs.Lst.{Lst}
use Rattle.pool.specs.Script.{among}
use Rattle.text.specs.ListText.{text_of, fill}
use Rattle.groups.specs.Reading.{verdict}
use Rattle.groups.specs.Stored.{list_in}
use Rattle.calls.specs.Entry.{over}
use Rattle.calls.specs.Move.{Move, left_alone, moved_from}
use Rattle.promises.specs.Engine.{Engine}
use Rattle.promises.specs.StoredGrounds.{filled}
use Rattle.promises.specs.Refuted.OneChanged.{right, with_move, in_form}
use Rattle.promises.specs.Refuted.WrongTexts.{zeroed}
use Rattle.promises.specs.Refuted.WrongGroupWriters.{high_groups}
use Rattle.groups.specs.declared.Stored.{Stored}
use Rattle.groups.specs.declared.Stored.TheVariants.{Text, Groups}

-- ours with other numbers
abbrev numbered : (Move → ℕ) → (Move → ℕ) → Engine
numbered f g = with_move (λ k xs out. let r = moved_from k xs out in record {
  answer = r.answer;
  taken = f r;
  written = g r;
  output = r.output;
}) right

-- tells bytes of whole records, in groups too
abbrev pub tells_records : Engine
tells_records = numbered (λ r. whole r.taken) (λ r. whole r.written)
  where
    whole : ℕ → ℕ
    whole n = n + length (fill n)

-- tells numbers beside its refusal: that so many bytes were taken, or written
abbrev pub tells_taken : Engine
tells_taken = numbered (λ r. cond (eqb r.answer DONE) r.taken 1) (λ r. r.written)

abbrev pub tells_written : Engine
tells_written = numbered (λ r. r.taken) (λ r. cond (eqb r.answer DONE) r.written 1)

-- asks for the output before it looks at the bytes
abbrev pub output_first : Engine
output_first = with_move (λ k xs out. cond (eqb (length out) 0) (left_alone OUTPUT out) (moved_from k xs out)) right

-- 19 for whatever is wrong with a text
abbrev pub groups_for_text : Engine
groups_for_text = with_move
    (in_form Text moved_from (λ xs out. let r = moved_from Text xs out in
    cond (among r.answer (NOT_A_LIST ∷ ATOM ∷ DEEP ∷ [])) (left_alone GROUPS out) r)) right

-- ours with other bytes put out
abbrev putting_out : Stored → (Lst → List ℕ) → Engine
putting_out k f = with_move (in_form k moved_from (λ xs out.
    let r = moved_from k xs out in
    let t = f (list_in k xs) in
    cond (eqb r.answer DONE)
    (record { answer = DONE; taken = r.taken; written = length t; output = over t out }) r)) right

-- leaves zeros before an atom; writes text without its fill; swaps low and high group
abbrev pub keeps_zeros : Engine
keeps_zeros = putting_out Groups (λ l. filled (zeroed false (text_of l)))

abbrev pub fills_nothing : Engine
fills_nothing = putting_out Groups text_of

abbrev pub moves_high : Engine
moves_high = putting_out Text high_groups

-- clears what it does not use of the output
abbrev pub clears_behind : Engine
clears_behind = with_move (λ k xs out. let r = moved_from k xs out in record {
  answer = r.answer;
  taken = r.taken;
  written = r.written;
  output = cond (eqb r.answer DONE) (over (take r.written r.output) (replicate (length out) 0)) out;
}) right

-- takes a part of a record for room
abbrev pub fills_part : Engine
fills_part = with_move
    (in_form Groups moved_from (λ xs out.
    let r = moved_from Groups xs out in
    let t = text_of (list_in Groups xs) in
    cond (not (eqb r.answer OUTPUT)) r
    (cond (leb (length t) (length out))
    (record { answer = DONE; taken = (verdict xs).taken; written = length t; output = over t out }) r))) right
