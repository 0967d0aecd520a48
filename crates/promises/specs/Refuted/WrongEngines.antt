-- Engines that break a demand, each in one way: those that document 01 wants to see refused, some whose lists are right
-- and whose words are not, and some that stop where they should not. The slips that it warns of stand in WrongRules;
-- what is wrong about stored forms in WrongStored, WrongTexts, WrongGroups and WrongMoves.
use Rattle.std.specs.Prelude.{Bool, cond, ◌&&◌, List, ℕ, eqb, length, get_or, set, take, replicate}
use Rattle.answers.specs.Answers.{DONE, TABLE_SIZE, NO_ROOM}
use Rattle.pool.specs.Script.{PFA, ERASE}
use Rattle.table.specs.Fields.{put_field}
use Rattle.pool.specs.Setters.{put_free}
use Rattle.calls.specs.SetUp.{set_up_in}
use Rattle.calls.specs.Entry.{shown, stored, used}
use Rattle.calls.specs.Run.{Ran, not_run, ran}
use Rattle.calls.specs.Read.{not_read, read_in}
use Rattle.calls.specs.Write.{not_written, write_out}
use Rattle.calls.specs.Move.{left_alone, moved_from}
use Rattle.promises.specs.Engine.{Engine}
use Rattle.promises.specs.Refuted.OneChanged.{right, with_set_up, with_run}
use Rattle.table.specs.declared.Form.TheVariants.{Four}

-- ours with another script run
abbrev pub running : (List ℕ → List ℕ → List ℕ → List ℕ → Ran) → Engine
running f = with_run f right

-- refuses whatever it is asked
abbrev pub always_refuses : Engine
always_refuses = record {
  set_up = λ ts n h. record { answer = TABLE_SIZE; table = ts };
  run = λ ts ws ss rs. not_run TABLE_SIZE ts ws rs;
  read = λ k ts ws h xs. not_read TABLE_SIZE ts ws;
  write = λ k ts ws h out. not_written TABLE_SIZE ws out;
  move = λ k xs out. left_alone TABLE_SIZE out;
  check = λ xs. record { no = 15; taken = 0 };
  rest = length;
}

-- has one answer, n, for every call, and does nothing
abbrev pub always_answers : ℕ → Engine
always_answers n = record {
  set_up = λ ts k h. record { answer = n; table = ts };
  run = λ ts ws ss rs. not_run n ts ws rs;
  read = λ k ts ws h xs. not_read n ts ws;
  write = λ k ts ws h out. not_written n ws out;
  move = λ k xs out. left_alone n out;
  check = λ xs. record { no = n; taken = 0 };
  rest = length;
}

-- has our answers and changes nothing
abbrev pub does_nothing : Engine
does_nothing = running (λ ts ws ss rs. let r = ran ts ws ss rs in record { answer = r.answer; count = r.count; table = ts; work = ws; results = rs })

-- ours with another table afterwards
abbrev pub leaving : (List ℕ → List ℕ → List ℕ → List ℕ → List ℕ) → Engine
leaving f = running (λ ts ws ss rs. let r = ran ts ws ss rs in record { answer = r.answer; count = r.count; table = f ts ws ss rs; work = r.work; results = r.results })

-- does a script's first operation, and leaves the table at that
abbrev pub first_only : Engine
first_only = leaving (λ ts ws ss rs. (ran ts ws (take 4 ss) rs).table)

-- undoes all of a script where an operation is refused
abbrev pub undoes_all : Engine
undoes_all = running (λ ts ws ss rs. let r = ran ts ws ss rs in cond (eqb r.answer DONE) r (not_run r.answer ts r.work rs))

abbrev pub starts : ℕ → List ℕ → Bool
starts c ss = eqb (get_or ss 0 0) c

-- makes up the number of ERASE
abbrev pub invents_number : Engine
invents_number = running (λ ts ws ss rs. let r = ran ts ws ss rs in record { answer = r.answer; count = r.count; table = r.table; work = r.work; results = cond (starts ERASE ss) (set r.results 1 9) r.results })

-- cells that ERASE frees stay out of use: the free chain is as before it, and where that has run out there is no room
abbrev pub never_lends : Engine
never_lends = running (λ ts ws ss rs.
    let r = ran ts ws ss rs in
    cond (starts PFA ss && eqb (shown Four ts).free 0) (not_run NO_ROOM ts (used Four ts ws) rs)
    (record { answer = r.answer; count = r.count; table = cond (starts ERASE ss) (stored Four ts (put_free (shown Four ts).free (shown Four r.table))) r.table; work = r.work; results = r.results }))

-- a set-up that leaves a type in cell 1: a sound pool, all free, but not document 01's words
abbrev pub sets_up_dirty : Engine
sets_up_dirty = with_set_up (λ ts n h. let g = set_up_in Four ts n h in record { answer = g.answer; table = stored Four g.table (put_field 0 1 1 (shown Four g.table)) }) right

-- clears what it is lent before it looks whether it may
abbrev clearing : ℕ → List ℕ → List ℕ → List ℕ
clearing k given lent = cond (eqb k DONE) given (replicate (length lent) 0)

abbrev pub clears_first : Engine
clears_first = record {
  set_up = λ ts n h. let r = set_up_in Four ts n h in record { answer = r.answer; table = clearing r.answer r.table ts };
  run = λ ts ws ss rs. let r = ran ts ws ss rs in record { answer = r.answer; count = r.count; table = r.table; work = clearing r.answer r.work ws; results = clearing r.answer r.results rs };
  read = λ k ts ws h xs. let r = read_in k ts ws h xs in record { answer = r.answer; count = r.count; table = r.table; work = clearing r.answer r.work ws };
  write = λ k ts ws h out. let r = write_out k ts ws h out in record { answer = r.answer; count = r.count; work = clearing r.answer r.work ws; output = clearing r.answer r.output out };
  move = λ k xs out. let r = moved_from k xs out in record { answer = r.answer; taken = r.taken; written = r.written; output = clearing r.answer r.output out };
  check = right.check;
  rest = right.rest;
}
