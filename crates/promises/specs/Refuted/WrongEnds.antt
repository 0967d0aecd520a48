-- Engines that are wrong about where a text ends, each in one way.
use Rattle.std.specs.Prelude.{Bool, cond, not, ◌&&◌, List, [], ◌∷◌, ℕ, ◌+◌, ◌-◌, eqb, ltb, length, get_or, take, drop}
use Rattle.answers.specs.Answers.{DONE, TABLE_SIZE, WORK_SPACE, HOLDER, OCCUPIED, END}
use Rattle.pool.specs.Pool.{holder}
use Rattle.pool.specs.Script.{among}
use Rattle.text.specs.Limits.{record_bytes}
use Rattle.text.specs.Text.{refusal, at_end, size_fault, verdict, rest_at}
use Rattle.calls.specs.Entry.{shown}
use Rattle.calls.specs.Read.{not_read, read_in}
use Rattle.promises.specs.Engine.{Engine}
use Rattle.promises.specs.Refuted.WrongTexts.{taking, handing}
use Rattle.groups.specs.declared.Stored.TheVariants.{Text}
use Rattle.table.specs.declared.Form.TheVariants.{Four}

-- ours with one more END, in the check and in reading, there behind 1, 2 and 7
abbrev pub ending : (List ℕ → Bool) → Engine
ending b = taking
    (λ ts ws h xs. let r = read_in Text ts ws h xs in cond (b xs && not (among r.answer (TABLE_SIZE ∷ WORK_SPACE ∷ HOLDER ∷ [])))
    (not_read END ts ws) r)
    (λ xs. cond (b xs) (refusal END) (verdict xs))

-- only where our own tests of the size find no fault
abbrev sized : (List ℕ → Bool) → List ℕ → Bool
sized b xs = eqb (size_fault xs) DONE && b xs

-- at a first byte that is a blank
abbrev pub blank_first : List ℕ → Bool
blank_first = sized (λ xs. eqb (get_or xs 0 0) 32)

-- at a first record that is blank
abbrev pub blank_record : List ℕ → Bool
blank_record = sized (λ xs. at_end (take record_bytes xs))

-- at blanks up to the last byte, which is not looked at
abbrev pub blank_but_last : List ℕ → Bool
blank_but_last = sized (λ xs. at_end (take (length xs - 1) xs))

-- at blanks alone, of whatever size
abbrev pub blank_any_size : List ℕ → Bool
blank_any_size = at_end

-- asks for a list in the holder before it asks for the end
abbrev pub asks_holder_first : Engine
asks_holder_first = taking
    (λ ts ws h xs. let r = read_in Text ts ws h xs in cond (eqb r.answer END && not (eqb (holder (shown Four ts) h) 0)) (not_read OCCUPIED ts ws) r)
    verdict

-- hands back what stands behind the list, though it be blanks
abbrev pub hands_blanks : Engine
hands_blanks = handing (λ xs. cond (eqb (verdict xs).no DONE) (verdict xs).taken (length xs))

-- passes over a blank record behind the list
abbrev pub skips_blanks : Engine
skips_blanks = handing (λ xs. let n = rest_at xs in cond (ltb n (length xs) && at_end (take record_bytes (drop n xs))) (n + record_bytes) n)
