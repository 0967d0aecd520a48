-- What the promises need of a stored form, for both: its rows answer as the definitions do, bytes spell one list, and
-- what is written can be read again. Text has it in TextRows and TextOnce, groups in GroupRows.
use Rattle.std.specs.Prelude.{◌≡◌, refl, ◌⊎◌, List, ℕ}
use Rattle.std.proofs.Common.{arith}
use Rattle.answers.specs.Answers.{DONE, DEEP, OUTPUT}
use Rattle.lists.specs.Lst.{Lst}
use Rattle.text.specs.ListText.{text_of}
use Rattle.text.specs.Text.{Answer, refusal}
use Rattle.text.specs.Writing as writing
use Rattle.groups.specs.Writing as grouping
use Rattle.groups.specs.Stored.{size_fault, scanned, verdict, list_in, judged}
use Rattle.groups.specs.Reading.{verdict as group-verdict}
use Rattle.groups.specs.declared.Stored.{Stored}
use Rattle.groups.specs.declared.Stored.TheVariants.{Text, Groups}
use Rattle.promises.specs.Rows.{Answers}
use Rattle.promises.specs.StoredGrounds.{size_rows, fault_rows, byte_rows, Spells, TooDeep, TooLong}
use Rattle.promises.specs.Laws.Tells.{Each, unless-first}
use Rattle.promises.specs.Laws.TestsTell as tests
use Rattle.promises.specs.Laws.TextOnce as text
use Rattle.promises.specs.Laws.TextRows.{scan_answers, check_answers}
use Rattle.promises.specs.Laws.WriteRows.{judged_answers}
use Rattle.promises.specs.Laws.GroupRows as groups

pub size_answers : (k : Stored) (xs : List ℕ) → Answers (size_rows k xs) (size_fault k xs)
size_answers Text xs = tests.size_answers xs
size_answers Groups xs = groups.size_answers xs

pub size_each : (k : Stored) (xs : List ℕ) → Each (λ n. n ≡ DONE → ⊥) (size_rows k xs)
size_each Text xs = tests.size_each xs
size_each Groups xs = ((λ z. omega arith), ((λ z. omega arith), tt))

pub fault_answers : (k : Stored) (xs : List ℕ) → Answers (fault_rows k xs) (scanned k xs).no
fault_answers Text xs = scan_answers xs
fault_answers Groups xs = groups.scan_answers xs

pub fault_each : (k : Stored) (xs : List ℕ) → Each (λ n. n ≡ DONE → ⊥) (fault_rows k xs)
fault_each Text xs = ((λ z. omega arith), ((λ z. omega arith), ((λ z. omega arith), tt)))
fault_each Groups xs = ((λ z. omega arith), ((λ z. omega arith), tt))

-- bytes by themselves
pub byte_answers : (k : Stored) (xs : List ℕ) → Answers (byte_rows k xs) (verdict k xs).no
unfolding group-verdict
byte_answers Text xs = check_answers xs
byte_answers Groups xs = unless-first (size_rows Groups xs) (fault_rows Groups xs) (size_fault Groups xs) (size_each Groups xs) (size_answers Groups xs) (λ (r : Answer). r.no) (λ m. m ≡ DONE) refusal (scanned Groups xs) (λ m. refl) (λ _. fault_answers Groups xs)

pub byte_each : (k : Stored) (xs : List ℕ) → Each (λ n. n ≡ DONE → ⊥) (byte_rows k xs)
byte_each Text xs = ((λ z. omega arith), ((λ z. omega arith), ((λ z. omega arith), ((λ z. omega arith), ((λ z. omega arith), tt)))))
byte_each Groups xs = ((λ z. omega arith), ((λ z. omega arith), ((λ z. omega arith), ((λ z. omega arith), tt))))

-- one list, at one place
pub spells_once : (k : Stored) (xs : List ℕ) (m n : ℕ) (l e : Lst) → Spells k xs m l → Spells k xs n e → (m ≡ n) × (l ≡ e)
spells_once Text xs m n l e = text.spells_once xs m n l e
spells_once Groups xs m n l e = groups.spells_once xs m n l e

pub spells_ours : (k : Stored) (xs : List ℕ) → (verdict k xs).no ≡ DONE → Spells k xs (verdict k xs).taken (list_in k xs)
spells_ours Text xs e = text.spells_ours xs e
spells_ours Groups xs e = groups.spells_ours xs e

-- writing is judged by its rows
abbrev pub Judged : Stored → ℕ → Lst → ℕ → Type 0
Judged k room l n =
    (TooDeep k room l × (n ≡ DEEP)) ⊎ ((TooDeep k room l → ⊥) × ((TooLong k room l × (n ≡ OUTPUT)) ⊎ ((TooLong k room l → ⊥) × (n ≡ DONE))))

pub judges : (k : Stored) (room : ℕ) (l : Lst) → Judged k room l (judged k room l)
judges Text room l = judged_answers (writing.usable room) (text_of l)
judges Groups room l = groups.judges (grouping.usable room) l
