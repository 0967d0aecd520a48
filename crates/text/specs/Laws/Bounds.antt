-- A list that the check takes has at most 200 levels and atoms below 2^32, so that nothing but room stands against writing it.
-- By induction on the characters: no mark met opens level 201, and no value is too large.
use Rattle.std.specs.Prelude.{ℕ, ◌+◌, ◌-◌, ◌*◌, ◌%◌, ◌<◌, ◌≤◌, ◌≡◌, refl, List, [], ◌∷◌, ◌++◌, Bool, true, false, cond, eqb, ltb}
use Rattle.std.proofs.Common.{sym, ap, subst, ◌∙◌, append_assoc, append-nil, arith, ltb-true}
use Rattle.lists.specs.Lst.{Lst, nil, atom, list, order, Atoms}
use Rattle.text.specs.Limits.{levels, record_bytes, digits_most, atoms_end}
use Rattle.text.specs.Text.{after_open, after_comma, in_atom, after_element, after_all, Scan, place, begin, may_open, may_shut, may_part, may_begin, is_atom, is_over, Step, mark, fault, State, at, taken, run, settle, step_of, open_at, shut_at, comma_at, blank_at, digit_at, verdict, done}
use Rattle.text.specs.Marks.{Mark, opened, shut, value, marks_of, pending, met, trace, list_in}
use Rattle.text.specs.Laws.TextLaws.{by_case, no_yes, never_taken, digit-step, Class, is_open, is_shut, is_comma, is_blank, is_digit, is_other, class}
use Rattle.text.specs.Laws.MarkLaws.{with_open, digit-met}
use Rattle.text.specs.Laws.Accepted.{taken-run, accepted}

-- marks at a depth: none opens the 201st level, no value is 2^32 or more
abbrev Levels : ℕ → List Mark → Type 0
Levels d [] = Unit {0}
Levels d (opened ∷ es) = (d < levels) × Levels (d + 1) es
Levels d (shut ∷ es) = Levels (d - 1) es
Levels d (value v ∷ es) = (v < atoms_end) × Levels d es

fine : (l : Lst) (d : ℕ) (k : List Mark) → d ≤ levels → Levels d (marks_of false l ++ k) → (d + order l ≤ levels + 1) × Atoms l × Levels (d - 1) k
unfolding order Atoms
fine nil d k h e = (omega arith, tt, e)
fine (atom v l) d k h e = let f = fine l d k h e.1 in (f.0, (e.0, f.1), f.2)
fine (list m l) d k h e =
    let q : marks_of true m ++ marks_of false l ++ k ≡ opened ∷ (marks_of false m ++ (marks_of false l ++ k))
    = append_assoc (marks_of true m) (marks_of false l) k ∙ ap (λ (es : List Mark). es ++ (marks_of false l ++ k)) (with_open m) in
    let o = subst (Levels d) q e in
    let g = fine m (d + 1) (marks_of false l ++ k) (omega (arith, o.0)) o.1 in
    let z : d + 1 - 1 ≡ d = omega arith in
    let f = fine l d k h (subst (λ (j : ℕ). Levels j (marks_of false l ++ k)) z g.2) in
    (omega (arith, g.0, f.0), (g.1, f.1), f.2)

pub fine_list : (l : Lst) → Levels 0 (marks_of true l) → (order l ≤ levels) × Atoms l
fine_list l e =
    let o = subst (Levels 0) (with_open l) e in
    let f = fine l 1 [] (omega arith) (subst (Levels 1) (sym (append-nil (marks_of false l))) o.1) in
    (omega (arith, f.0), f.1)

-- along a text
abbrev Claim : Scan → ℕ → List ℕ → ℕ → List Mark → Step → Type 0
Claim s n t m es u = run (settle (n + 1) u) t ≡ taken m → Levels s.depth (es ++ trace (settle (n + 1) u) t)

faulted : (s : Scan) (n : ℕ) (t : List ℕ) (m : ℕ) (es : List Mark) (k : ℕ) → Claim s n t m es (fault k)
faulted s n t m es k e = absurd (never_taken k m t e)

-- a place's value is below 2^32, and past the last ")" its depth is 0
abbrev Fit : Scan → Type 0
Fit s = (s.value < atoms_end) × (is_over s.phase ≡ true → s.depth ≡ 0)

abbrev Hyp : ℕ → List ℕ → ℕ → Type 0
Hyp n t m = (s : Scan) → Fit s → run (settle (n + 1) (mark s)) t ≡ taken m → Levels s.depth (trace (settle (n + 1) (mark s)) t)

waiting : (c : Bool) (d v : ℕ) (es : List Mark) → v < atoms_end → Levels d es → Levels d (cond c (value v ∷ []) [] ++ es)
waiting true d v es h e = (h, e)
waiting false d v es h e = e

module _ (s : Scan) (n : ℕ) (t : List ℕ) (m : ℕ) (hyp : Hyp n t m) (ok : Fit s) where
  open_case : Claim s n t m (opened ∷ []) (open_at s.phase s.depth)
  open_case =
      by_case (may_open s.phase) (Claim s n t m (opened ∷ []))
      (λ a. by_case (ltb s.depth levels) (Claim s n t m (opened ∷ []))
      (λ h e. (ltb-true _ _ h, hyp (place after_open (s.depth + 1) 0 0) (omega arith, λ y. no_yes y) e)) (λ h. faulted s n t m (opened ∷ []) 17))
      (λ a. faulted s n t m (opened ∷ []) 15)

  shut_end : (es : List Mark) → Levels (s.depth - 1) es → Levels s.depth (pending s ++ (shut ∷ []) ++ es)
  shut_end es h =
      subst (Levels s.depth) (sym (append_assoc (pending s) (shut ∷ []) es)) (waiting (is_atom s.phase) s.depth s.value (shut ∷ es) ok.0 h)

  shut_case : Claim s n t m (pending s ++ (shut ∷ [])) (shut_at s.phase s.depth)
  shut_case =
      by_case (may_shut s.phase) (Claim s n t m (pending s ++ (shut ∷ [])))
      (λ a. by_case (ltb s.depth 2) (Claim s n t m (pending s ++ (shut ∷ [])))
      (λ h e. let z : 0 ≡ s.depth - 1 = omega (arith, ltb-true s.depth 2 h) in
      shut_end (trace (settle (n + 1) (mark (place after_all 0 0 0))) t)
      (subst (λ (j : ℕ). Levels j (trace (settle (n + 1) (mark (place after_all 0 0 0))) t)) z (hyp (place after_all 0 0 0) (omega arith, λ y. refl) e)))
      (λ h e. shut_end (trace (settle (n + 1) (mark (place after_element (s.depth - 1) 0 0))) t)
      (hyp (place after_element (s.depth - 1) 0 0) (omega arith, λ y. no_yes y) e)))
      (λ a. faulted s n t m (pending s ++ (shut ∷ [])) 15)

  comma_case : Claim s n t m (pending s) (comma_at s.phase s.depth)
  comma_case =
      by_case (may_part s.phase) (Claim s n t m (pending s))
      (λ a e. waiting (is_atom s.phase) s.depth s.value (trace (settle (n + 1) (mark (place after_comma s.depth 0 0))) t) ok.0
      (hyp (place after_comma s.depth 0 0) (omega arith, λ y. no_yes y) e))
      (λ a. faulted s n t m (pending s) 15)

  digit_case : (x : ℕ) → x < 8 → Claim s n t m [] (digit_at s x)
  digit_case x h =
      by_case (may_begin s.phase) (Claim s n t m [])
      (λ a e. hyp (place in_atom s.depth 1 x) (omega arith, λ y. no_yes y) e)
      (λ a. by_case (is_atom s.phase) (Claim s n t m [])
      (λ i. by_case (ltb s.digits digits_most) (Claim s n t m [])
      (λ j. by_case (ltb (s.value * 8 + x) atoms_end) (Claim s n t m [])
      (λ k e. hyp (place in_atom s.depth (s.digits + 1) (s.value * 8 + x)) (ltb-true _ _ k, λ y. no_yes y) e) (λ k. faulted s n t m [] 16))
      (λ j. faulted s n t m [] 16))
      (λ i. faulted s n t m [] 15))

  blank_case : Claim s n t m [] (blank_at s.phase)
  blank_case =
      by_case (is_over s.phase) (Claim s n t m [])
      (λ a e. subst (λ (j : ℕ). Levels j (trace (settle (n + 1) (mark (place after_all 0 0 0))) t)) (sym (ok.1 a))
      (hyp (place after_all 0 0 0) (omega arith, λ y. refl) e))
      (λ a. faulted s n t m [] 15)

  one_char : (b : ℕ) → Class b → Claim s n t m (met (at s n) b) (step_of s b)
  one_char b (is_open e) = subst (λ (c : ℕ). Claim s n t m (met (at s n) c) (step_of s c)) (sym e) open_case
  one_char b (is_shut e) = subst (λ (c : ℕ). Claim s n t m (met (at s n) c) (step_of s c)) (sym e) shut_case
  one_char b (is_comma e) = subst (λ (c : ℕ). Claim s n t m (met (at s n) c) (step_of s c)) (sym e) comma_case
  one_char b (is_blank e) = subst (λ (c : ℕ). Claim s n t m (met (at s n) c) (step_of s c)) (sym e) blank_case
  one_char b (is_digit x h e) =
      subst (λ (c : ℕ). Claim s n t m (met (at s n) c) (step_of s c)) (sym e)
      (subst (λ (es : List Mark). Claim s n t m es (step_of s (48 + x))) (sym (digit-met (at s n) x h))
      (subst (λ (u : Step). Claim s n t m [] u) (sym (digit-step s x h)) (digit_case x h)))
  one_char b (is_other f) = subst (λ (u : Step). Claim s n t m (met (at s n) b) u) (sym (f s)) (faulted s n t m (met (at s n) b) 15)

at_rest : (k : ℕ) (t : List ℕ) (d : ℕ) → Levels d (trace (taken k) t)
at_rest k [] d = tt
at_rest k (b ∷ t) d = at_rest k t d

along : (t : List ℕ) (s : Scan) (n m : ℕ) → Fit s → run (at s n) t ≡ taken m → Levels s.depth (trace (at s n) t)
along [] s n m ok e = tt
along (b ∷ t) s n m ok e =
    one_char s n t m
    (λ s' ok'.
    let P : State → Type 0 = λ st. run st t ≡ taken m → Levels s'.depth (trace st t) in
    by_case (is_over s'.phase) P
    (λ i. by_case (eqb ((n + 1) % record_bytes) 0) P
    (λ z q. at_rest (n + 1) t s'.depth) (λ z q. along t s' (n + 1) m ok' q))
    (λ i q. along t s' (n + 1) m ok' q))
    ok b (class b) e

-- what the check takes is within the limits
pub limits : (s : List ℕ) (m : ℕ) → verdict s ≡ done m → (order (list_in s) ≤ levels) × Atoms (list_in s)
limits s m e =
    fine_list (list_in s) (subst (Levels 0) (accepted s m e).0 (along s begin 0 m (omega arith, λ y. refl) (taken-run s m e)))
