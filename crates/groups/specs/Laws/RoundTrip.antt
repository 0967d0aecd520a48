-- Write, then read: the groups of a list of at most 200 levels are taken with its marks, and those of a deeper list are
-- refused where level 201 opens. One induction on the list for each, from any lists that are open around it.
use Rattle.std.specs.Prelude.{ℕ, suc, ◌+◌, ◌<◌, ◌≤◌, ◌≡◌, List, [], ◌∷◌, ◌++◌, true, false, length, leb, ltb}
use Rattle.std.proofs.Common.{sym, ap, ◌∙◌, append_assoc, append-nil, arith, length-append, leb-true, leb-false, ltb-true, ltb-false}
use Rattle.answers.specs.Answers.{DEEP}
use Rattle.lists.specs.Lst.{Lst, nil, atom, list, len, order}
use Rattle.text.specs.Limits.{levels}
use Rattle.text.specs.Marks.{Mark, opened, value, marks_of}
use Rattle.text.specs.Laws.MarkLaws.{with_open}
use Rattle.text.specs.Laws.RoundTrip.{order_pos}
use Rattle.text.specs.Laws.TextLaws.{decide}
use Rattle.groups.specs.Groups.{numbers_end, number, atom_number, list_number, elements, groups_of, Fit, Fits}
use Rattle.groups.specs.Reading.{tokens, begin, at, refused, taken, closing, run, trace}
use Rattle.groups.specs.Laws.ElementLaws.{atom_parts, list_parts, atom-length, list_length}
use Rattle.groups.specs.Laws.RunLaws.{rests_taken, trace-taken}
use Rattle.groups.specs.Laws.Steps.{Seen, behind, after, atom-step, list_step, deep_step, begin-step}

list_marks : (e l : Lst) (x : Seen)
    → after (opened ∷ marks_of false e) (after (marks_of false l) x) ≡ after (marks_of false (list e l)) x
list_marks e l x =
    ap (λ (es : List Mark). record { state = x.state; marks = es })
    (ap (λ (es : List Mark). es ++ (marks_of false l ++ x.marks)) (sym (with_open e))
    ∙ sym (append_assoc (marks_of true e) (marks_of false l) x.marks))

-- the elements of a list from any lists around it, before whatever follows
abbrev pub Along : Lst → Type 0
Along l = (st : List ℕ) (n : ℕ) (later : List ℕ) → Fit l → length st + order l ≤ levels
    → behind (len l ∷ st) n (elements l ++ later) ≡ after (marks_of false l) (behind st (n + length (elements l)) later)

along-nil : Along nil
unfolding len elements
along-nil st n later f h =
    let z : n ≡ n + 0 = omega arith in
    ap (λ (m : ℕ). after (marks_of false nil) (behind st m later)) z

pub along : (l : Lst) → Along l
unfolding len order Fit
along nil st n later f h = along-nil st n later f h
along (atom v l) st n later f h =
    let j = length (number (atom_number v)) in
    let size : n + j + length (elements l) ≡ n + length (elements (atom v l)) = omega (arith, atom-length v l) in
    ap (behind (suc (len l) ∷ st) n) (atom_parts v l later)
    ∙ atom-step (len l) st n (elements l ++ later) v f.0
    ∙ ap (after (value v ∷ [])) (along l st (n + j) later f.1 h)
    ∙ ap (λ (m : ℕ). after (marks_of false (atom v l)) (behind st m later)) size
along (list e l) st n later f h =
    let j = length (number (list_number e)) in
    let size : n + j + length (elements e) + length (elements l) ≡ n + length (elements (list e l))
    = omega (arith, list_length e l) in
    ap (behind (suc (len l) ∷ st) n) (list_parts e l later)
    ∙ list_step (len l) st n (elements e ++ (elements l ++ later)) e f.0 (omega (arith, order_pos e))
    ∙ ap (after (opened ∷ [])) (along e (len l ∷ st) (n + j) (elements l ++ later) f.1 (omega arith))
    ∙ ap (after (opened ∷ marks_of false e)) (along l st (n + j + length (elements e)) later f.2 (omega arith))
    ∙ list_marks e l (behind st (n + j + length (elements e) + length (elements l)) later)
    ∙ ap (λ (m : ℕ). after (marks_of false (list e l)) (behind st m later)) size

-- a list that opens level 201, inside fewer lists
abbrev pub Deep : Lst → Type 0
Deep l = (st : List ℕ) (n : ℕ) (later : List ℕ) → Fit l → length st < levels → levels < length st + order l
    → run (closing (len l ∷ st) n) (tokens (elements l ++ later)) ≡ refused DEEP

deep_list : (e l : Lst) → Deep e → Deep l → Deep (list e l)
unfolding len order Fit
deep_list e l de dl st n later f h d =
    let j = length (number (list_number e)) in
    let s = elements e ++ (elements l ++ later) in
    let step : length (len l ∷ st) < levels
    → run (at (suc (len l) ∷ st) n) (tokens (number (list_number e) ++ s))
    ≡ run (closing (len e ∷ len l ∷ st) (n + j)) (tokens s)
    = λ g. ap (λ (x : Seen). x.state) (list_step (len l) st n s e f.0 g) in
    let G = run (at (suc (len l) ∷ st) n) (tokens (number (list_number e) ++ s)) ≡ refused DEEP in
    ap (λ (t : List ℕ). run (at (suc (len l) ∷ st) n) (tokens t)) (list_parts e l later)
    ∙ decide (leb levels (length (len l ∷ st))) G (λ g. deep_step (len l) st n s e f.0 (leb-true _ _ g))
    (λ g.
    let room : length (len l ∷ st) < levels = leb-false _ _ g in
    step room
    ∙ decide (ltb levels (length (len l ∷ st) + order e))
    (run (closing (len e ∷ len l ∷ st) (n + j)) (tokens s) ≡ refused DEEP)
    (λ x. de (len l ∷ st) (n + j) (elements l ++ later) f.1 room (ltb-true _ _ x))
    (λ x.
    let shallow : suc (length st) + order e ≤ levels = ltb-false _ _ x in
    ap (λ (y : Seen). y.state) (along e (len l ∷ st) (n + j) (elements l ++ later) f.1 shallow)
    ∙ dl st (n + j + length (elements e)) later f.2 h (omega arith)))

pub deep : (l : Lst) → Deep l
unfolding len order Fit
deep nil st n later f h d = absurd (omega arith)
deep (atom v l) st n later f h d =
    ap (λ (t : List ℕ). run (at (suc (len l) ∷ st) n) (tokens t)) (atom_parts v l later)
    ∙ ap (λ (x : Seen). x.state) (atom-step (len l) st n (elements l ++ later) v f.0)
    ∙ deep l st (n + length (number (atom_number v))) later f.1 h d
deep (list e l) st n later f h d = deep_list e l (deep e) (deep l) st n later f h d

-- the whole list
whole : (l : Lst) (later : List ℕ) → list_number l < numbers_end
    → record { state = run begin (tokens (groups_of l ++ later)); marks = trace begin (tokens (groups_of l ++ later)) }
    ≡ after (opened ∷ []) (behind (len l ∷ []) (length (number (list_number l))) (elements l ++ later))
whole l later h =
    ap (λ (s : List ℕ). record { state = run begin (tokens s); marks = trace begin (tokens s) })
    (append_assoc (number (list_number l)) (elements l) later)
    ∙ begin-step l (elements l ++ later) h

pub written_read : (l : Lst) (later : List ℕ) → Fits l → order l ≤ levels
    → (run begin (tokens (groups_of l ++ later)) ≡ taken (length (groups_of l)))
    × (trace begin (tokens (groups_of l ++ later)) ≡ marks_of true l)
written_read l later f h =
    let j = length (number (list_number l)) in
    let m = j + length (elements l) in
    let x = whole l later f.0 ∙ ap (after (opened ∷ [])) (along l [] j later f.1 (omega arith)) in (
      ap (λ (y : Seen). y.state) x ∙ rests_taken m (tokens later)
          ∙ ap taken (sym (length-append (number (list_number l)) (elements l))),
      ap (λ (y : Seen). y.marks) x
          ∙ ap (λ (es : List Mark). opened ∷ (marks_of false l ++ es)) (trace-taken m (tokens later))
          ∙ ap (λ (es : List Mark). opened ∷ es) (append-nil (marks_of false l)) ∙ sym (with_open l),
    )

pub written_deep : (l : Lst) (later : List ℕ) → Fits l → levels < order l
    → run begin (tokens (groups_of l ++ later)) ≡ refused DEEP
written_deep l later f h =
    ap (λ (y : Seen). y.state) (whole l later f.0)
    ∙ deep l [] (length (number (list_number l))) later f.1 (omega arith) (omega arith)
