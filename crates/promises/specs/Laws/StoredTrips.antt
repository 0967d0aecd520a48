-- What the round trips need of a stored form, for both: the bytes of a list and the list of bytes.
use Rattle.std.specs.Prelude.{◌≡◌, refl, List, [], ◌++◌, ℕ, ◌≤◌, ◌<◌, length}
use Rattle.std.proofs.Common.{sym, ap, ◌∙◌, append-nil, arith, length-append, length-take-le}
use Rattle.answers.specs.Answers.{DONE}
use Rattle.lists.specs.Lst.{Lst, order}
use Rattle.text.specs.Limits.{levels}
use Rattle.text.specs.ListText.{text_of}
use Rattle.text.specs.Text.{done, verdict as text-verdict}
use Rattle.text.specs.Laws.Accepted as text
use Rattle.text.specs.Laws.Accepted.{taken-answer}
use Rattle.text.specs.Laws.Bounds.{limits}
use Rattle.text.specs.Laws.WritingLaws as texts
use Rattle.text.specs.Writing as writing
use Rattle.groups.specs.Groups.{number, list_number, elements, groups_of, Fits}
use Rattle.groups.specs.Reading as reading
use Rattle.groups.specs.Writing as grouping
use Rattle.groups.specs.Stored.{size_fault, verdict, list_in, bytes_of, judged}
use Rattle.groups.specs.Laws.FitLaws.{fits_atoms, text_fits}
use Rattle.groups.specs.Laws.Sizes.{number_size, fits_judged, judged_fits}
use Rattle.groups.specs.Laws.SizeLaws as sizes
use Rattle.groups.specs.Laws.Taking.{taken_holds, holds_taken}
use Rattle.groups.specs.declared.Stored.{Stored}
use Rattle.groups.specs.declared.Stored.TheVariants.{Text, Groups}
use Rattle.promises.specs.StoredGrounds.{filled, spelling, Anew, TooDeep, TooLong}
use Rattle.promises.specs.Laws.TextEnds.{plain_records}
use Rattle.promises.specs.Laws.WriteRows.{text_shallow}
use Rattle.promises.specs.Laws.GroupRows.{shallow as groups-shallow}

-- the bytes of a list, said twice
pub spelt : (k : Stored) (l : Lst) → spelling k l ≡ bytes_of k l
spelt Text l = refl
spelt Groups l = refl

-- an answer that takes came from a right size
pub accepted-size : (k : Stored) (xs : List ℕ) (m : ℕ) → verdict k xs ≡ done m → size_fault k xs ≡ DONE
accepted-size Text xs m e = (text.accepted-size xs m e).0
accepted-size Groups xs m e = (sizes.accepted-size xs m e).0

-- a list of at most 200 levels is written where there is room
pub shallow_writes : (k : Stored) (room : ℕ) (l : Lst) → order l ≤ levels → (TooLong k room l → ⊥) → judged k room l ≡ DONE
shallow_writes Text room l h n = texts.writes (writing.usable room) l h (within n)
  where
    within : (writing.usable room < length (text_of l) → ⊥) → length (text_of l) ≤ writing.usable room
    within n = omega arith
shallow_writes Groups room l h n = fits_judged (grouping.usable room) l h (within n)
  where
    within : (grouping.usable room < length (groups_of l) → ⊥) → length (groups_of l) ≤ grouping.usable room
    within n = omega arith

-- what is written can be read again as the list
pub written_read : (k : Stored) (room : ℕ) (l : Lst) → Fits l → judged k room l ≡ DONE
    → (verdict k (bytes_of k l) ≡ done (length (bytes_of k l))) × (list_in k (bytes_of k l) ≡ l)
written_read Text room l f j = let w = texts.written_read room l (fits_atoms l f) j in (w.1, w.2)
written_read Groups room l f j =
    let (h, n) = judged_fits (grouping.usable room) l j in
    let t = holds_taken l [] f h in
    let e : groups_of l ++ [] ≡ groups_of l = append-nil (groups_of l) in
    let right = sizes.right-size (groups_of l) (sizes.no_fault (groups_of l) (some l) (omega arith)) in
    (right ∙ ap reading.scanned (sym e) ∙ t.0, ap reading.list_in (sym e) ∙ t.1)
  where
    some : (l : Lst) → 0 < length (groups_of l)
    some l = omega (arith, (number_size (list_number l)).0, length-append (number (list_number l)) (elements l))

-- what was read can be written where the bytes taken are lent
pub read-written : (k : Stored) (xs : List ℕ) (room : ℕ) → (verdict k xs).no ≡ DONE → (verdict k xs).taken ≤ room → judged k room (list_in k xs) ≡ DONE
read-written Text xs room e h = texts.read-written xs (text-verdict xs).taken room (taken-answer (text-verdict xs) e) h
read-written Groups xs room e h =
    let m = (reading.verdict xs).taken in
    let right = taken-answer (reading.verdict xs) e in
    let t = taken_holds xs m right in
    let small = (sizes.its_size xs (sizes.accepted-size xs m right).0).1 in
    let long : length (groups_of (reading.list_in xs)) ≡ m = sym (ap length t.bytes) ∙ length-take-le m xs t.within in
    shallow_writes Groups room (reading.list_in xs) t.shallow (λ z. omega (arith, z, long, small, t.within))

-- and is written anew
pub written_anew : (k : Stored) (xs bs : List ℕ) → (verdict k xs).no ≡ DONE → Anew k xs (verdict k xs).taken bs → bytes_of k (list_in k xs) ≡ bs
written_anew Text xs bs e (t, c, b) =
    let m = (text-verdict xs).taken in
    ap filled ((text.accepted xs m (taken-answer (text-verdict xs) e)).1 ∙ plain_records xs m t c) ∙ sym b
written_anew Groups xs bs e b = sym (taken_holds xs (reading.verdict xs).taken (taken-answer (reading.verdict xs) e)).bytes ∙ sym b

-- the list of bytes that are taken
pub shallow : (k : Stored) (xs : List ℕ) → (verdict k xs).no ≡ DONE → order (list_in k xs) ≤ levels
shallow Text xs e = (limits xs (text-verdict xs).taken (taken-answer (text-verdict xs) e)).0
shallow Groups xs e = (taken_holds xs (reading.verdict xs).taken (taken-answer (reading.verdict xs) e)).shallow

pub fitting : (k : Stored) (xs : List ℕ) → (verdict k xs).no ≡ DONE → Fits (list_in k xs)
fitting Text xs e = text_fits xs (text-verdict xs).taken (taken-answer (text-verdict xs) e)
fitting Groups xs e = (taken_holds xs (reading.verdict xs).taken (taken-answer (reading.verdict xs) e)).fits

-- and it meets no level too many in writing
pub not_deep : (k : Stored) (room : ℕ) (l : Lst) → order l ≤ levels → TooDeep k room l → ⊥
not_deep Text room l h d = text_shallow (writing.usable room) l h d
not_deep Groups room l h d = groups-shallow (grouping.usable room) l h d
