-- Laws of marks: the marks of a list build it, a scan over two parts, and the elements that begin are the extent. By induction on marks and lists.
use Rattle.std.specs.Prelude.{ℕ, zero, suc, ◌+◌, ◌<◌, ◌≡◌, refl, List, [], ◌∷◌, ◌++◌, true, false, replicate}
use Rattle.std.proofs.Common.{sym, ap, ◌∙◌, append_assoc, arith, ne_eqb}
use Rattle.lists.specs.Lst.{Lst, nil, atom, list, extent}
use Rattle.text.specs.Text.{State, at, refused, taken, next, run}
use Rattle.text.specs.Marks.{Mark, opened, shut, value, marks_of, met, trace, push, pushes, beginnings}
use Rattle.text.specs.Laws.TextLaws.{digit}

pub with_open : (l : Lst) → marks_of true l ≡ opened ∷ marks_of false l
with_open nil = refl
with_open (atom v l) = refl
with_open (list m l) = refl

-- the marks of a list build it
pushes-append : (a b : List Mark) (st : List Lst) → pushes (a ++ b) st ≡ pushes a (pushes b st)
pushes-append [] b st = refl
pushes-append (e ∷ a) b st = ap (push e) (pushes-append a b st)

builds : (l : Lst) (st : List Lst) → pushes (marks_of false l) st ≡ l ∷ st
builds nil st = refl
builds (atom v l) st = ap (push (value v)) (builds l st)
builds (list m l) st =
    pushes-append (marks_of true m) (marks_of false l) st
    ∙ ap (pushes (marks_of true m)) (builds l st)
    ∙ ap (λ (es : List Mark). pushes es (l ∷ st)) (with_open m)
    ∙ ap (push opened) (builds m (l ∷ st))

pub built : (l : Lst) → pushes (marks_of true l) [] ≡ l ∷ []
built l = ap (λ (es : List Mark). pushes es []) (with_open l) ∙ ap (push opened) (builds l [])

-- the marks of a scan
pub trace-append : (a b : List ℕ) (st : State) → trace st (a ++ b) ≡ trace st a ++ trace (run st a) b
trace-append [] b st = refl
trace-append (x ∷ a) b st =
    ap (λ (es : List Mark). met st x ++ es) (trace-append a b (next st x))
    ∙ sym (append_assoc (met st x) (trace (next st x) a) (trace (run (next st x) a) b))

pub trace-taken : (m : ℕ) (t : List ℕ) → trace (taken m) t ≡ []
trace-taken m [] = refl
trace-taken m (b ∷ t) = trace-taken m t

pub digit-met : (st : State) (x : ℕ) → x < 8 → met st (48 + x) ≡ []
digit-met (at s n) x h =
    let d = digit x h in
    simp (ne_eqb _ _ d.no_open, ne_eqb _ _ d.no_shut, ne_eqb _ _ d.no_comma)
digit-met (refused k) x h = refl
digit-met (taken n) x h = refl

blank-met : (st : State) → met st 32 ≡ []
blank-met (at s n) = refl
blank-met (refused k) = refl
blank-met (taken n) = refl

pub trace-blanks : (k : ℕ) (st : State) → trace st (replicate k 32) ≡ []
trace-blanks zero st = refl
trace-blanks (suc k) st =
    ap (λ (es : List Mark). es ++ trace (next st 32) (replicate k 32)) (blank-met st) ∙ trace-blanks k (next st 32)

-- the elements that begin
pub beginnings-append : (a b : List Mark) → beginnings (a ++ b) ≡ beginnings a + beginnings b
beginnings-append [] b = omega arith
beginnings-append (opened ∷ a) b = omega (arith, beginnings-append a b)
beginnings-append (shut ∷ a) b = beginnings-append a b
beginnings-append (value v ∷ a) b = omega (arith, beginnings-append a b)

beginnings-rest : (l : Lst) → beginnings (marks_of false l) ≡ extent l
unfolding extent
beginnings-rest nil = refl
beginnings-rest (atom v l) = omega (arith, beginnings-rest l)
beginnings-rest (list m l) =
    let e : beginnings (marks_of true m) ≡ extent m + 1 = ap beginnings (with_open m) ∙ ap (λ (n : ℕ). n + 1) (beginnings-rest m) in
    omega (arith, beginnings-append (marks_of true m) (marks_of false l), beginnings-rest l)

-- one more than the cells that reading needs: the outermost "(" has none
pub beginnings-extent : (l : Lst) → beginnings (marks_of true l) ≡ extent l + 1
beginnings-extent l = ap beginnings (with_open l) ∙ ap (λ (n : ℕ). n + 1) (beginnings-rest l)
