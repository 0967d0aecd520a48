-- Engines that write groups wrongly, each in one way that groups alone have.
use Rattle.std.specs.Prelude.{cond, ◌&&◌, List, [], ◌∷◌, ◌++◌, ℕ, zero, suc, ◌+◌, ◌-◌, ◌/◌, ◌%◌, eqb, ltb, length}
use Rattle.answers.specs.Answers.{DONE, DEEP, OUTPUT}
use Rattle.lists.specs.Lst.{Lst, nil, atom, list}
use Rattle.pool.specs.Operations.{list_of}
use Rattle.text.specs.Writing as text
use Rattle.groups.specs.Groups.{number, atom_number, list_number, groups_of}
use Rattle.groups.specs.Writing.{Item, items, too_deep, usable}
use Rattle.calls.specs.Entry.{shown}
use Rattle.calls.specs.Write.{not_written, write_out}
use Rattle.promises.specs.Engine.{Engine}
use Rattle.promises.specs.StoredGrounds.{filled}
use Rattle.promises.specs.Refuted.WrongStored.{writing, writing_by}
use Rattle.groups.specs.declared.Stored.TheVariants.{Groups}
use Rattle.table.specs.declared.Form.TheVariants.{Four}

-- low and high group swapped: the groups of v before later ones
unfoldable pub high_f : ℕ → ℕ → List ℕ → List ℕ
high_f zero v later = (128 + v) ∷ later
high_f (suc f) v later = cond (ltb v 128) ((128 + v) ∷ later) (high_f f (v / 128) ((128 + v % 128) ∷ later))

abbrev high_number : ℕ → List ℕ
high_number v = cond (ltb v 128) (v ∷ []) (high_f 3 (v / 128) (v % 128 ∷ []))

-- the bytes of a list by another form of numbers
unfoldable pub elements_by : (ℕ → List ℕ) → Lst → List ℕ
elements_by f nil = []
elements_by f (atom v l) = f (atom_number v) ++ elements_by f l
elements_by f (list e l) = f (list_number e) ++ (elements_by f e ++ elements_by f l)

abbrev pub groups_by : (ℕ → List ℕ) → Lst → List ℕ
groups_by f l = f (list_number l) ++ elements_by f l

abbrev pub high_groups : Lst → List ℕ
high_groups l = groups_by high_number l

abbrev pub writes_high : Engine
writes_high = writing Groups high_groups

-- writes every number in two groups at least
abbrev long_number : ℕ → List ℕ
long_number v = (128 + v % 128) ∷ (v / 128) ∷ []

abbrev pub writes_long : Engine
writes_long = writing Groups (groups_by long_number)

-- asks for the room of a number before it asks for its level
unfoldable pub judged_late : ℕ → List Item → ℕ
judged_late u [] = DONE
judged_late u (i ∷ is) =
    let k = length (number i.value) in
    cond (ltb u k) OUTPUT (cond (too_deep i) DEEP (judged_late (u - k) is))

abbrev pub room_first : Engine
room_first = writing_by Groups (λ ts ws h out.
    let r = write_out Groups ts ws h out in
    cond (eqb r.answer DEEP)
    (not_written (judged_late (usable (length out)) (items (list_of (shown Four ts) h))) r.work out) r)

-- fills up a record, as text does
abbrev pub fills_groups : Engine
fills_groups = writing Groups (λ l. filled (groups_of l))

-- uses whole records of the output alone, as text does
abbrev pub wants_room_for_records : Engine
wants_room_for_records = writing_by Groups (λ ts ws h out.
    let r = write_out Groups ts ws h out in
    cond (eqb r.answer DONE && ltb (text.usable (length out)) r.count) (not_written OUTPUT r.work out) r)
