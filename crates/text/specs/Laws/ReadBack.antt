-- Read, then write: where a text is taken, the list that it holds is written as that text without its blanks and leading zeros.
-- One induction on the rest of the characters, over what they say of the lists that are open.
use Rattle.std.specs.Prelude.{ℕ, suc, ◌+◌, ◌-◌, ◌*◌, ◌%◌, ◌<◌, ◌≤◌, ◌≡◌, refl, List, [], ◌∷◌, ◌++◌, Bool, true, false, length, take, eqb, ltb}
use Rattle.std.proofs.Common.{sym, ap, subst, ◌∙◌, arith, take_at, ltb-true, ltb-false}
use Rattle.text.specs.Limits.{levels, record_bytes, digits_most, atoms_end}
use Rattle.text.specs.Text.{Phase, at_start, after_open, after_comma, in_atom, after_element, after_all, Scan, place, begin, may_open, may_shut, may_part, may_begin, is_atom, is_over, Step, mark, fault, State, at, taken, run, settle, step_of, open_at, shut_at, comma_at, blank_at, digit_at}
use Rattle.text.specs.ListText.{text_of, bare}
use Rattle.text.specs.Marks.{Mark, opened, marks_of, met, trace, pushes, top_of, list_in}
use Rattle.text.specs.Laws.TextLaws.{by_case, no_yes, rests_taken, never_taken, digit-step, Class, is_open, is_shut, is_comma, is_blank, is_digit, is_other, class}
use Rattle.text.specs.Laws.MarkLaws.{built, digit-met}
use Rattle.text.specs.Laws.Front.{front}
use Rattle.text.specs.Laws.OpenLists.{Ok, Good, open_good, ended-done, ended-after, shut_good, comma_good, begin_good, more_good, blank_good}

-- one character, whatever it is: from the rest of the text to the whole
abbrev Claim : Scan → ℕ → ℕ → List ℕ → List Mark → Step → Type 0
Claim s n b t es u = run (settle (n + 1) u) t ≡ taken (n + 1 + length t)
    → Good s.phase s.depth s.value (b ∷ t) (es ++ trace (settle (n + 1) u) t)

abbrev Hyp : ℕ → List ℕ → Type 0
Hyp n t = (s : Scan) → Ok s.phase s.depth → run (settle (n + 1) (mark s)) t ≡ taken (n + 1 + length t)
    → Good s.phase s.depth s.value t (trace (settle (n + 1) (mark s)) t)

faulted : (s : Scan) (n b : ℕ) (t : List ℕ) (es : List Mark) (k : ℕ) → Claim s n b t es (fault k)
faulted s n b t es k e = absurd (never_taken k _ t e)

marked : (s s' : Scan) (n b : ℕ) (t : List ℕ) (es : List Mark) → Hyp n t → Ok s'.phase s'.depth
    → ((us : List Mark) → Good s'.phase s'.depth s'.value t us → Good s.phase s.depth s.value (b ∷ t) (es ++ us))
    → Claim s n b t es (mark s')
marked s s' n b t es hyp ok f e = f (trace (settle (n + 1) (mark s')) t) (hyp s' ok e)

-- where ")", "," or a digit may stand, a level is open
deep : (may : Phase → Bool) → may at_start ≡ false → may after_all ≡ false → (p : Phase) (d : ℕ) → may p ≡ true → Ok p d → 1 ≤ d
deep may a z at_start d m ok = no_yes (sym a ∙ m)
deep may a z after_open d m ok = ok
deep may a z after_comma d m ok = ok
deep may a z in_atom d m ok = ok
deep may a z after_element d m ok = ok
deep may a z after_all d m ok = no_yes (sym z ∙ m)

module _ (s : Scan) (n : ℕ) (t : List ℕ) (hyp : Hyp n t) (ok : Ok s.phase s.depth) where
  open_case : Claim s n 40 t (opened ∷ []) (open_at s.phase s.depth)
  open_case =
      by_case (may_open s.phase) (Claim s n 40 t (opened ∷ []))
      (λ m. by_case (ltb s.depth levels) (Claim s n 40 t (opened ∷ []))
      (λ h. marked s (place after_open (s.depth + 1) 0 0) n 40 t (opened ∷ []) hyp (omega arith)
      (λ σ g. open_good s.phase s.depth s.value t σ m ok g))
      (λ h. faulted s n 40 t (opened ∷ []) 17))
      (λ m. faulted s n 40 t (opened ∷ []) 15)

  shut_case : Claim s n 41 t (met (at s n) 41) (shut_at s.phase s.depth)
  shut_case =
      by_case (may_shut s.phase) (Claim s n 41 t (met (at s n) 41))
      (λ m. by_case (ltb s.depth 2) (Claim s n 41 t (met (at s n) 41))
      (λ h. marked s (place after_all 0 0 0) n 41 t (met (at s n) 41) hyp tt
      (λ σ g. shut_good s.phase s.depth s.digits s.value n t σ m
      (ended-done s.depth t σ (ltb-true _ _ h) (deep may_shut refl refl s.phase s.depth m ok) g)))
      (λ h. marked s (place after_element (s.depth - 1) 0 0) n 41 t (met (at s n) 41) hyp (omega (arith, ltb-false s.depth 2 h))
      (λ σ g. shut_good s.phase s.depth s.digits s.value n t σ m (ended-after s.depth t σ (ltb-false _ _ h) g))))
      (λ m. faulted s n 41 t (met (at s n) 41) 15)

  comma_case : Claim s n 44 t (met (at s n) 44) (comma_at s.phase s.depth)
  comma_case =
      by_case (may_part s.phase) (Claim s n 44 t (met (at s n) 44))
      (λ m. marked s (place after_comma s.depth 0 0) n 44 t (met (at s n) 44) hyp (deep may_part refl refl s.phase s.depth m ok)
      (λ σ g. comma_good s.phase s.depth s.digits s.value n t σ m g))
      (λ m. faulted s n 44 t (met (at s n) 44) 15)

  blank_case : Claim s n 32 t [] (blank_at s.phase)
  blank_case =
      by_case (is_over s.phase) (Claim s n 32 t [])
      (λ m. marked s (place after_all 0 0 0) n 32 t [] hyp tt (λ σ g. blank_good s.phase s.depth s.value t σ m g))
      (λ m. faulted s n 32 t [] 15)

  digit_case : (x : ℕ) → x < 8 → Claim s n (48 + x) t [] (digit_at s x)
  digit_case x h =
      by_case (may_begin s.phase) (Claim s n (48 + x) t [])
      (λ m. marked s (place in_atom s.depth 1 x) n (48 + x) t [] hyp (deep may_begin refl refl s.phase s.depth m ok)
      (λ σ g. begin_good s.phase s.depth s.value x t σ m h g))
      (λ m. by_case (is_atom s.phase) (Claim s n (48 + x) t [])
      (λ i. by_case (ltb s.digits digits_most) (Claim s n (48 + x) t [])
      (λ j. by_case (ltb (s.value * 8 + x) atoms_end) (Claim s n (48 + x) t [])
      (λ k. marked s (place in_atom s.depth (s.digits + 1) (s.value * 8 + x)) n (48 + x) t [] hyp (deep is_atom refl refl s.phase s.depth i ok)
      (λ σ g. more_good s.phase s.depth s.value x t σ i h (ltb-true _ _ k) g))
      (λ k. faulted s n (48 + x) t [] 16))
      (λ j. faulted s n (48 + x) t [] 16))
      (λ i. faulted s n (48 + x) t [] 15))

  one_char : (b : ℕ) → Class b → Claim s n b t (met (at s n) b) (step_of s b)
  one_char b (is_open e) = subst (λ (c : ℕ). Claim s n c t (met (at s n) c) (step_of s c)) (sym e) open_case
  one_char b (is_shut e) = subst (λ (c : ℕ). Claim s n c t (met (at s n) c) (step_of s c)) (sym e) shut_case
  one_char b (is_comma e) = subst (λ (c : ℕ). Claim s n c t (met (at s n) c) (step_of s c)) (sym e) comma_case
  one_char b (is_blank e) = subst (λ (c : ℕ). Claim s n c t (met (at s n) c) (step_of s c)) (sym e) blank_case
  one_char b (is_digit x h e) =
      subst (λ (c : ℕ). Claim s n c t (met (at s n) c) (step_of s c)) (sym e)
      (subst (λ (es : List Mark). Claim s n (48 + x) t es (step_of s (48 + x))) (sym (digit-met (at s n) x h))
      (subst (λ (u : Step). Claim s n (48 + x) t [] u) (sym (digit-step s x h)) (digit_case x h)))
  one_char b (is_other f) = subst (λ (u : Step). Claim s n b t (met (at s n) b) u) (sym (f s)) (faulted s n b t (met (at s n) b) 15)

-- where the record is full the text ends
done_good : (p : Phase) (d v m : ℕ) (t : List ℕ) → is_over p ≡ true → run (taken m) t ≡ taken (m + length t)
    → Good p d v t (trace (taken m) t)
done_good at_start d v m t i e = no_yes i
done_good after_open d v m t i e = no_yes i
done_good after_comma d v m t i e = no_yes i
done_good in_atom d v m t i e = no_yes i
done_good after_element d v m t i e = no_yes i
done_good after_all d v m [] i e = (refl, refl)
done_good after_all d v m (b ∷ t) i e =
    let q : taken m ≡ taken (m + suc (length t)) = sym (rests_taken m t) ∙ e in
    let z : m ≡ m + suc (length t) = cc in absurd (omega arith)

settled : (n : ℕ) (t : List ℕ)
    → ((s : Scan) → Ok s.phase s.depth → run (at s (n + 1)) t ≡ taken (n + 1 + length t)
    → Good s.phase s.depth s.value t (trace (at s (n + 1)) t))
    → Hyp n t
settled n t ih s ok =
    let P : State → Type 0 = λ st. run st t ≡ taken (n + 1 + length t) → Good s.phase s.depth s.value t (trace st t) in
    by_case (is_over s.phase) P
    (λ i. by_case (eqb ((n + 1) % record_bytes) 0) P
    (λ z e. done_good s.phase s.depth s.value (n + 1) t i e) (λ z e. ih s ok e))
    (λ i e. ih s ok e)

back : (t : List ℕ) (s : Scan) (n : ℕ) → Ok s.phase s.depth → run (at s n) t ≡ taken (n + length t)
    → Good s.phase s.depth s.value t (trace (at s n) t)
back [] s n ok e = let z : ◌≡◌ {A = ℕ} 0 1 = cc in absurd (omega arith)
back (b ∷ t) s n ok e =
    let j : n + suc (length t) ≡ n + 1 + length t = omega arith in
    one_char s n t (settled n t (λ s' ok' e'. back t s' (n + 1) ok' e')) ok b (class b) (e ∙ ap taken j)

-- read, then write: the marks of a text that is taken are those of one list, and that list is written as the text without blanks and leading zeros
pub read_write : (s : List ℕ) (m : ℕ) → run (at begin 0) s ≡ taken m
    → (trace (at begin 0) s ≡ marks_of true (list_in s)) × (text_of (list_in s) ≡ bare false (take m s))
unfolding list_in
read_write s m e =
    let f = front s (at begin 0) 0 m refl e in
    let g = back f.part begin 0 refl (f.runs ∙ ap taken (sym f.bytes)) in
    let cut : take m s ≡ f.part = ap (take m) f.parts ∙ take_at f.part f.later m (omega (arith, f.bytes)) in
    let marks : trace (at begin 0) s ≡ marks_of true g.0 = f.marks ∙ g.1 in
    let same : list_in s ≡ g.0 = ap (λ (es : List Mark). top_of (pushes es [])) marks ∙ ap top_of (built g.0) in
    (marks ∙ ap (marks_of true) (sym same), ap text_of same ∙ sym g.2 ∙ ap (bare false) (sym cut))
