-- The marks that a scan meets along a text that is taken whole are those of its characters alone, and no run of digits
-- is too long. By induction on the characters.
use Rattle.std.specs.Prelude.{ℕ, suc, ◌+◌, ◌-◌, ◌*◌, ◌%◌, ◌<◌, ◌≤◌, ◌≡◌, refl, Bool, true, false, cond, List, [], ◌∷◌, ◌++◌, eqb, ltb, length}
use Rattle.std.proofs.Common.{sym, ap, subst, ◌∙◌, append_assoc, arith, le-leb, ltb-true}
use Rattle.scan.specs.Runs.{digit_run, numeral}
use Rattle.text.specs.Limits.{levels, record_bytes, digits_most, atoms_end}
use Rattle.text.specs.ListText.{is_digit_byte}
use Rattle.text.specs.Text.{Phase, at_start, after_open, after_comma, in_atom, after_element, after_all, Scan, place, begin, may_open, may_shut, may_part, may_begin, is_atom, is_over, Step, mark, fault, State, at, taken, run, settle, step_of, open_at, shut_at, comma_at, blank_at, digit_at}
use Rattle.text.specs.Marks.{Mark, opened, shut, value, pending, met, trace}
use Rattle.text.specs.Laws.MarkLaws.{digit-met}
use Rattle.text.specs.Laws.TextLaws.{by_case, no_yes, rests_taken, never_taken, digit-step, Class, is_open, is_shut, is_comma, is_blank, is_digit, is_other, class}
use Rattle.togroups.specs.Backward.{marks_from, Runs}

-- the atom that a place is in, with what is to come of it
abbrev waiting : Scan → List ℕ → List Mark
waiting s t = cond (is_atom s.phase) (value (numeral s.value t) ∷ []) []

abbrev begun_digits : Scan → ℕ
begun_digits s = cond (is_atom s.phase) s.digits 0

-- what the rest t of a text is at the place s, where the scan meets the marks es
record Says (s : Scan) (t : List ℕ) (es : List Mark) : Type 0 where
  marks : es ≡ waiting s t ++ marks_from (is_atom s.phase) t
  short : begun_digits s + digit_run t ≤ digits_most
  runs : Runs t

abbrev Claim : Scan → ℕ → ℕ → List ℕ → List Mark → Step → Type 0
Claim s n b t es u = run (settle (n + 1) u) t ≡ taken (n + 1 + length t) → Says s (b ∷ t) (es ++ trace (settle (n + 1) u) t)

abbrev Hyp : ℕ → List ℕ → Type 0
Hyp n t = (s : Scan) → s.digits ≤ digits_most → run (settle (n + 1) (mark s)) t ≡ taken (n + 1 + length t) → Says s t (trace (settle (n + 1) (mark s)) t)

faulted : (s : Scan) (n b : ℕ) (t : List ℕ) (es : List Mark) (k : ℕ) → Claim s n b t es (fault k)
faulted s n b t es k e = absurd (never_taken k _ t e)

marked : (s s' : Scan) (n b : ℕ) (t : List ℕ) (es : List Mark) → Hyp n t → s'.digits ≤ digits_most
    → ((us : List Mark) → Says s' t us → Says s (b ∷ t) (es ++ us)) → Claim s n b t es (mark s')
marked s s' n b t es hyp k f e = f (trace (settle (n + 1) (mark s')) t) (hyp s' k e)

-- where an element may begin, and behind the list, no atom goes on
no_atom : (may : Phase → Bool) → may in_atom ≡ false → (p : Phase) → may p ≡ true → is_atom p ≡ false
no_atom may n at_start m = refl
no_atom may n after_open m = refl
no_atom may n after_comma m = refl
no_atom may n in_atom m = no_yes (sym n ∙ m)
no_atom may n after_element m = refl
no_atom may n after_all m = refl

digit_is : (x : ℕ) → x < 8 → is_digit_byte (48 + x) ≡ true
digit_is x h = simp (le-leb 48 (48 + x) (omega arith), le-leb (48 + x) 55 (omega arith))

-- the digits of the atom that ends are not too many: digits behind it are none
few : (s : Scan) → s.digits ≤ digits_most → begun_digits s + 0 ≤ digits_most
few s n = by_case (is_atom s.phase) (λ (k : ℕ). k + 0 ≤ digits_most) (λ e. omega arith) (λ e. omega arith)

-- "(", ")", "," and a blank begin no run of digits: from what follows them, where no atom goes on
open_says : (s : Scan) (t : List ℕ) (es : List Mark) (d : ℕ) → is_atom s.phase ≡ false → Says (place after_open d 0 0) t es → Says s (40 ∷ t) (opened ∷ es)
open_says s t es d z g = record {
  marks = ap (λ (u : List Mark). opened ∷ u) g.marks ∙ ap (λ (c : Bool). cond c (value s.value ∷ []) [] ++ (opened ∷ marks_from false t)) (sym z);
  short = rw z (omega arith);
  runs = (omega (arith, g.short), g.runs);
}

blank-says : (s : Scan) (t : List ℕ) (es : List Mark) → is_atom s.phase ≡ false → Says (place after_all 0 0 0) t es → Says s (32 ∷ t) es
blank-says s t es z g = record {
  marks = g.marks ∙ ap (λ (c : Bool). cond c (value s.value ∷ []) [] ++ marks_from false t) (sym z);
  short = rw z (omega arith);
  runs = (omega (arith, g.short), g.runs);
}

-- ")" and ",": what waits ends before them
shut_says : (s s' : Scan) (t : List ℕ) (es : List Mark) → s.digits ≤ digits_most → is_atom s'.phase ≡ false → Says s' t es
    → Says s (41 ∷ t) ((pending s ++ (shut ∷ [])) ++ es)
shut_says s s' t es n z g =
    let m : es ≡ marks_from false t = g.marks ∙ ap (λ (c : Bool). cond c (value (numeral s'.value t) ∷ []) [] ++ marks_from c t) z in
    record {
      marks = append_assoc (pending s) (shut ∷ []) es ∙ ap (λ (u : List Mark). pending s ++ (shut ∷ u)) m;
      short = few s n;
      runs = (omega (arith, g.short), g.runs);
    }

comma-says : (s : Scan) (t : List ℕ) (es : List Mark) (d : ℕ) → s.digits ≤ digits_most → Says (place after_comma d 0 0) t es → Says s (44 ∷ t) (pending s ++ es)
comma-says s t es d n g = record {
  marks = ap (λ (u : List Mark). pending s ++ u) g.marks;
  short = few s n;
  runs = (omega (arith, g.short), g.runs);
}

-- a digit that begins an atom, and one that goes on with it
first_says : (s : Scan) (t : List ℕ) (es : List Mark) (d x : ℕ) → x < 8 → is_atom s.phase ≡ false → Says (place in_atom d 1 x) t es → Says s ((48 + x) ∷ t) es
first_says s t es d x h z g =
    let e : 0 * 8 + (48 + x - 48) ≡ x = omega arith in
    record {
      marks = simp (z, digit_is x h, e) g.marks;
      short = rw (z, digit_is x h) (omega (arith, g.short));
      runs = (omega (arith, g.short), g.runs);
    }

later-says : (s : Scan) (t : List ℕ) (es : List Mark) (d x : ℕ) → x < 8 → is_atom s.phase ≡ true → Says (place in_atom d (s.digits + 1) (s.value * 8 + x)) t es
    → Says s ((48 + x) ∷ t) es
later-says s t es d x h z g =
    let e : s.value * 8 + (48 + x - 48) ≡ s.value * 8 + x = omega arith in
    record {
      marks = simp (z, digit_is x h, e) g.marks;
      short = rw (z, digit_is x h) (omega (arith, g.short));
      runs = (omega (arith, g.short), g.runs);
    }

module _ (s : Scan) (n : ℕ) (t : List ℕ) (hyp : Hyp n t) (ok : s.digits ≤ digits_most) where
  open_case : Claim s n 40 t (opened ∷ []) (open_at s.phase s.depth)
  open_case =
      by_case (may_open s.phase) (Claim s n 40 t (opened ∷ []))
      (λ m. by_case (ltb s.depth levels) (Claim s n 40 t (opened ∷ []))
      (λ h. marked s (place after_open (s.depth + 1) 0 0) n 40 t (opened ∷ []) hyp (omega arith)
      (λ σ g. open_says s t σ (s.depth + 1) (no_atom may_open refl s.phase m) g))
      (λ h. faulted s n 40 t (opened ∷ []) 17))
      (λ m. faulted s n 40 t (opened ∷ []) 15)

  shut_case : Claim s n 41 t (met (at s n) 41) (shut_at s.phase s.depth)
  shut_case =
      by_case (may_shut s.phase) (Claim s n 41 t (met (at s n) 41))
      (λ m. by_case (ltb s.depth 2) (Claim s n 41 t (met (at s n) 41))
      (λ h. ended (place after_all 0 0 0) (omega arith) refl)
      (λ h. ended (place after_element (s.depth - 1) 0 0) (omega arith) refl))
      (λ m. faulted s n 41 t (met (at s n) 41) 15)
    where
      ended : (s' : Scan) → s'.digits ≤ digits_most → is_atom s'.phase ≡ false → Claim s n 41 t (met (at s n) 41) (mark s')
      ended s' k z = marked s s' n 41 t (met (at s n) 41) hyp k (λ σ g. shut_says s s' t σ ok z g)

  comma_case : Claim s n 44 t (met (at s n) 44) (comma_at s.phase s.depth)
  comma_case =
      by_case (may_part s.phase) (Claim s n 44 t (met (at s n) 44))
      (λ m. marked s (place after_comma s.depth 0 0) n 44 t (met (at s n) 44) hyp (omega arith)
      (λ σ g. comma-says s t σ s.depth ok g))
      (λ m. faulted s n 44 t (met (at s n) 44) 15)

  blank_case : Claim s n 32 t [] (blank_at s.phase)
  blank_case =
      by_case (is_over s.phase) (Claim s n 32 t [])
      (λ m. marked s (place after_all 0 0 0) n 32 t [] hyp (omega arith) (λ σ g. blank-says s t σ (no_atom is_over refl s.phase m) g))
      (λ m. faulted s n 32 t [] 15)

  digit_case : (x : ℕ) → x < 8 → Claim s n (48 + x) t [] (digit_at s x)
  digit_case x h =
      by_case (may_begin s.phase) (Claim s n (48 + x) t [])
      (λ m. marked s (place in_atom s.depth 1 x) n (48 + x) t [] hyp (omega arith)
      (λ σ g. first_says s t σ s.depth x h (no_atom may_begin refl s.phase m) g))
      (λ m. by_case (is_atom s.phase) (Claim s n (48 + x) t [])
      (λ i. by_case (ltb s.digits digits_most) (Claim s n (48 + x) t [])
      (λ j. by_case (ltb (s.value * 8 + x) atoms_end) (Claim s n (48 + x) t [])
      (λ k. marked s (place in_atom s.depth (s.digits + 1) (s.value * 8 + x)) n (48 + x) t [] hyp (omega (arith, ltb-true s.digits digits_most j))
      (λ σ g. later-says s t σ s.depth x h i g))
      (λ k. faulted s n (48 + x) t [] 16))
      (λ j. faulted s n (48 + x) t [] 16))
      (λ i. faulted s n (48 + x) t [] 15))

  one_char : (b : ℕ) → Class b → Claim s n b t (met (at s n) b) (step_of s b)
  one_char b (is_open e) = subst (λ (c : ℕ). Claim s n c t (met (at s n) c) (step_of s c)) (sym e) open_case
  one_char b (is_shut e) = subst (λ (c : ℕ). Claim s n c t (met (at s n) c) (step_of s c)) (sym e) shut_case
  one_char b (is_comma e) = subst (λ (c : ℕ). Claim s n c t (met (at s n) c) (step_of s c)) (sym e) comma_case
  one_char b (is_blank e) = subst (λ (c : ℕ). Claim s n c t (met (at s n) c) (step_of s c)) (sym e) blank_case
  one_char b (is_digit x h e) =
      subst (λ (c : ℕ). Claim s n c t (met (at s n) c) (step_of s c)) (sym e)
      (subst (λ (es : List Mark). Claim s n (48 + x) t es (step_of s (48 + x))) (sym (digit-met (at s n) x h))
      (subst (λ (u : Step). Claim s n (48 + x) t [] u) (sym (digit-step s x h)) (digit_case x h)))
  one_char b (is_other f) = subst (λ (u : Step). Claim s n b t (met (at s n) b) u) (sym (f s)) (faulted s n b t (met (at s n) b) 15)

-- where the record is full the text ends
over-says : (s : Scan) (m : ℕ) (t : List ℕ) → is_over s.phase ≡ true → run (taken m) t ≡ taken (m + length t) → Says s t (trace (taken m) t)
over-says s m [] i e =
    let z = no_atom is_over refl s.phase i in
    record { marks = ap (λ (c : Bool). cond c (value s.value ∷ []) [] ++ []) (sym z); short = rw z (omega arith); runs = tt }
over-says s m (b ∷ t) i e =
    let q : taken m ≡ taken (m + suc (length t)) = sym (rests_taken m t) ∙ e in
    let z : m ≡ m + suc (length t) = cc in absurd (omega arith)

settled : (n : ℕ) (t : List ℕ)
    → ((s : Scan) → s.digits ≤ digits_most → run (at s (n + 1)) t ≡ taken (n + 1 + length t) → Says s t (trace (at s (n + 1)) t)) → Hyp n t
settled n t ih s ok =
    let P : State → Type 0 = λ st. run st t ≡ taken (n + 1 + length t) → Says s t (trace st t) in
    by_case (is_over s.phase) P
    (λ i. by_case (eqb ((n + 1) % record_bytes) 0) P (λ z e. over-says s (n + 1) t i e) (λ z e. ih s ok e))
    (λ i e. ih s ok e)

along : (t : List ℕ) (s : Scan) (n : ℕ) → s.digits ≤ digits_most → run (at s n) t ≡ taken (n + length t) → Says s t (trace (at s n) t)
along [] s n ok e = let z : ◌≡◌ {A = ℕ} 0 1 = cc in absurd (omega arith)
along (b ∷ t) s n ok e =
    let j : n + suc (length t) ≡ n + 1 + length t = omega arith in
    one_char s n t (settled n t (λ s' ok' e'. along t s' (n + 1) ok' e')) ok b (class b) (e ∙ ap taken j)

-- of the whole text
pub marks-met : (t : List ℕ) → run (at begin 0) t ≡ taken (length t) → (trace (at begin 0) t ≡ marks_from false t) × Runs t
marks-met t e =
    let z : length t ≡ 0 + length t = omega arith in
    let g = along t begin 0 (omega arith) (e ∙ ap taken z) in
    (g.marks, g.runs)
