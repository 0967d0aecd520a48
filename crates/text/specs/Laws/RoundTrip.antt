-- Write, then read: the text of a list of at most 200 levels whose atoms are below 2^32 is taken, and the list that it holds is that list.
-- One induction on the list, from any place where its text may stand.
use Rattle.std.specs.Prelude.{ℕ, zero, suc, ◌+◌, ◌-◌, ◌*◌, ◌/◌, ◌%◌, ◌<◌, ◌≤◌, ◌≡◌, refl, ◌≢◌, List, [], ◌∷◌, ◌++◌, true, false, cond, length, replicate, ltb}
use Rattle.std.proofs.Common.{sym, ap, ◌∙◌, append-nil, arith, length-append, lt-ltb, le-ltb, eq-eqb, ne_eqb, ltb-true}
use Rattle.std.proofs.lemmas.List.{length-replicate}
use Rattle.lists.specs.Lst.{Lst, nil, atom, list, order, Atoms}
use Rattle.text.specs.Limits.{levels, record_bytes, text_most, digits_most, atoms_end}
use Rattle.text.specs.Text.{Scan, place, begin, after_open, after_comma, in_atom, after_element, after_all, may_open, may_shut, may_part, may_begin, mark, State, at, taken, next, run, settle, digit_at, more_at, answer, others, scanned, verdict, done}
use Rattle.text.specs.ListText.{octal_f, octal, items, text_of, fill, written}
use Rattle.text.specs.Marks.{Mark, opened, shut, value, marks_of, pending, met, trace, pushes, top_of, list_in}
use Rattle.text.specs.Laws.Blanks.{starts_other}
use Rattle.text.specs.Laws.SizeLaws.{no_fault, right-size}
use Rattle.text.specs.Laws.TextLaws.{by_case, run-append, digit-step}
use Rattle.text.specs.Laws.MarkLaws.{built, trace-append, trace-blanks, digit-met}

-- v has at most f + 1 octal digits
abbrev pub Under : ℕ → ℕ → Type 0
Under zero v = v < 8
Under (suc f) v = Under f (v / 8)

pub under : (v : ℕ) → v < atoms_end → Under 10 v
under v h = omega arith

first-digit : (s : Scan) (n x : ℕ) → may_begin s.phase ≡ true → x < 8
    → next (at s n) (48 + x) ≡ at (place in_atom s.depth 1 x) (n + 1)
first-digit s n x b h =
    let q : digit_at s x ≡ mark (place in_atom s.depth 1 x) = simp b in
    ap (settle (n + 1)) (digit-step s x h ∙ q)

more-digit : (d k w n x : ℕ) → k < digits_most → w * 8 + x < atoms_end → x < 8
    → next (at (place in_atom d k w) n) (48 + x) ≡ at (place in_atom d (k + 1) (w * 8 + x)) (n + 1)
more-digit d k w n x hk hv h =
    let q : more_at d k w x ≡ mark (place in_atom d (k + 1) (w * 8 + x)) = simp (lt-ltb _ _ hk, lt-ltb _ _ hv) in
    ap (settle (n + 1)) (digit-step (place in_atom d k w) x h ∙ q)

-- an atom's digits
octal-length : (f v : ℕ) → length (octal_f f v) ≤ f + 1
octal-length zero v = omega arith
octal-length (suc f) v =
    by_case (ltb v 8) (λ (l : List ℕ). length l ≤ suc f + 1) (λ e. omega arith)
    (λ e. omega (arith, octal-length f (v / 8), length-append (octal_f f (v / 8)) ((48 + v % 8) ∷ [])))

abbrev After-digits : Scan → ℕ → ℕ → List ℕ → Type 0
After-digits s n v t = (run (at s n) t ≡ at (place in_atom s.depth (length t) v) (n + length t)) × (trace (at s n) t ≡ [])

one-digit : (s : Scan) (n v : ℕ) → may_begin s.phase ≡ true → v < 8 → After-digits s n v ((48 + v) ∷ [])
one-digit s n v b h = (first-digit s n v b h, ap (λ (es : List Mark). es ++ []) (digit-met (at s n) v h))

longer : (s : Scan) (n v : ℕ) (t : List ℕ) → length t < digits_most → v < atoms_end → After-digits s n (v / 8) t
    → After-digits s n v (t ++ ((48 + v % 8) ∷ []))
longer s n v t hk hv r =
    let x = 48 + v % 8 in
    let e1 : v / 8 * 8 + v % 8 ≡ v = omega arith in
    let e2 : length (t ++ (x ∷ [])) ≡ length t + 1 = length-append t (x ∷ []) in
    let e3 : n + length t + 1 ≡ n + (length t + 1) = omega arith in
    let last : next (at (place in_atom s.depth (length t) (v / 8)) (n + length t)) x
    ≡ at (place in_atom s.depth (length t + 1) (v / 8 * 8 + v % 8)) (n + length t + 1)
    = more-digit s.depth (length t) (v / 8) (n + length t) (v % 8) hk (omega arith) (omega arith) in
    let grown : at (place in_atom s.depth (length t + 1) (v / 8 * 8 + v % 8)) (n + length t + 1)
    ≡ at (place in_atom s.depth (length (t ++ (x ∷ []))) v) (n + length (t ++ (x ∷ [])))
    = rw (e1, e2, e3) in (
      run-append t (x ∷ []) (at s n) ∙ ap (λ (st : State). next st x) r.0 ∙ last ∙ grown,
      trace-append t (x ∷ []) (at s n)
          ∙ ap (λ (es : List Mark). es ++ (met (run (at s n) t) x ++ [])) r.1
          ∙ ap (λ (es : List Mark). es ++ []) (digit-met (run (at s n) t) (v % 8) (omega arith)),
    )

digits : (f v n : ℕ) (s : Scan) → may_begin s.phase ≡ true → f ≤ 10 → Under f v → v < atoms_end → After-digits s n v (octal_f f v)
digits zero v n s b g u h = one-digit s n v b u
digits (suc f) v n s b g u h =
    by_case (ltb v 8) (After-digits s n v) (λ e. one-digit s n v b (ltb-true v 8 e))
    (λ e. longer s n v (octal_f f (v / 8)) (omega (arith, octal-length f (v / 8))) h
    (digits f (v / 8) n s b (omega arith) u (omega arith)))

-- a list's text
-- what stands after a ")" at a depth
abbrev closed : ℕ → ℕ → State
closed d m = settle m (cond (ltb d 2) (mark (place after_all 0 0 0)) (mark (place after_element (d - 1) 0 0)))

abbrev Reads : Scan → ℕ → List ℕ → List Mark → ℕ → Type 0
Reads s n t es d = (run (at s n) t ≡ closed d (n + length t)) × (trace (at s n) t ≡ es)

-- one part takes the scan to s', and from there the other closes
seq : (a b : List ℕ) (ea eb : List Mark) (s s' : Scan) (n d : ℕ)
    → run (at s n) a ≡ at s' (n + length a) → trace (at s n) a ≡ ea → Reads s' (n + length a) b eb d → Reads s n (a ++ b) (ea ++ eb) d
seq a b ea eb s s' n d p q r =
    let e : n + length a + length b ≡ n + length (a ++ b) = omega (arith, length-append a b) in (
      run-append a b (at s n) ∙ ap (λ (st : State). run st b) p ∙ r.0 ∙ ap (closed d) e,
      trace-append a b (at s n) ∙ ap (λ (es : List Mark). es ++ trace (run (at s n) a) b) q
          ∙ ap (λ (es : List Mark). ea ++ es) (ap (λ (st : State). trace st b) p ∙ r.1),
    )

-- d levels are open when the list's own has opened
abbrev Fine : ℕ → Lst → Type 0
Fine d l = (d + order l ≤ levels + 1) × Atoms l

abbrev Tail : Lst → Type 0
Tail l = (s : Scan) (n : ℕ) → may_shut s.phase ≡ true → may_part s.phase ≡ true → 1 ≤ s.depth → Fine s.depth l
    → Reads s n (items false l) (pending s ++ marks_of false l) s.depth

abbrev Whole : Lst → Type 0
Whole l = (s : Scan) (n : ℕ) → may_open s.phase ≡ true → Fine (s.depth + 1) l
    → Reads s n (items true l) (marks_of true l) (s.depth + 1)

at_depth : (d : ℕ) → 2 ≤ d → (m : ℕ) → closed d m ≡ at (place after_element (d - 1) 0 0) m
at_depth d h m = simp (le-ltb _ _ h)

comma : (s : Scan) (n : ℕ) → may_part s.phase ≡ true → next (at s n) 44 ≡ at (place after_comma s.depth 0 0) (n + 1)
comma s n b = simp b

opens : (s : Scan) (n : ℕ) → may_open s.phase ≡ true → s.depth < levels → next (at s n) 40 ≡ at (place after_open (s.depth + 1) 0 0) (n + 1)
opens s n b h = simp (b, lt-ltb _ _ h)

shuts : (s : Scan) (n : ℕ) → may_shut s.phase ≡ true → next (at s n) 41 ≡ closed s.depth (n + 1)
shuts s n b = simp b

-- an element after its "(" or ",", and what follows it
atom-on : (v : ℕ) (l : Lst) → Tail l → (s : Scan) (n : ℕ) → may_begin s.phase ≡ true → 1 ≤ s.depth → Fine s.depth (atom v l)
    → Reads s n (octal v ++ items false l) (value v ∷ marks_of false l) s.depth
unfolding order Atoms
atom-on v l tail s n b h f =
    let r = digits 10 v n s b (omega arith) (under v f.1.0) f.1.0 in
    seq (octal v) (items false l) [] (value v ∷ marks_of false l) s (place in_atom s.depth (length (octal v)) v) n s.depth
    r.0 r.1 (tail (place in_atom s.depth (length (octal v)) v) (n + length (octal v)) refl refl h (f.0, f.1.1))

list_on : (m l : Lst) → Whole m → Tail l → (s : Scan) (n : ℕ) → may_open s.phase ≡ true → 1 ≤ s.depth → Fine s.depth (list m l)
    → Reads s n (items true m ++ items false l) (marks_of true m ++ marks_of false l) s.depth
unfolding order Atoms
list_on m l whole tail s n b h f =
    let w = whole s n b (omega (arith, f.0), f.1.0) in
    let down : s.depth + 1 - 1 ≡ s.depth = omega arith in
    let there : run (at s n) (items true m) ≡ at (place after_element s.depth 0 0) (n + length (items true m))
    = w.0 ∙ at_depth (s.depth + 1) (omega arith) (n + length (items true m))
    ∙ ap (λ (d : ℕ). at (place after_element d 0 0) (n + length (items true m))) down in
    seq (items true m) (items false l) (marks_of true m) (marks_of false l) s (place after_element s.depth 0 0) n s.depth
    there w.1 (tail (place after_element s.depth 0 0) (n + length (items true m)) refl refl h (omega (arith, f.0), f.1.1))

pub order_pos : (l : Lst) → 1 ≤ order l
unfolding order
order_pos nil = omega arith
order_pos (atom v l) = order_pos l
order_pos (list m l) = omega arith

pub reads : (l : Lst) → Tail l × Whole l
unfolding order
reads nil = (
  (λ s n a b h f. (shuts s n a, append-nil (pending s ++ (shut ∷ [])))),
  (λ s n a f. seq (40 ∷ []) (41 ∷ []) (opened ∷ []) (shut ∷ []) s (place after_open (s.depth + 1) 0 0) n (s.depth + 1)
      (opens s n a (omega arith)) refl (shuts (place after_open (s.depth + 1) 0 0) (n + 1) refl, refl)),
)
reads (atom v l) = (
  (λ s n a b h f. seq (44 ∷ []) (octal v ++ items false l) (pending s) (value v ∷ marks_of false l) s (place after_comma s.depth 0 0) n s.depth
      (comma s n b) (append-nil (pending s)) (atom-on v l (reads l).0 (place after_comma s.depth 0 0) (n + 1) refl h f)),
  (λ s n a f. seq (40 ∷ []) (octal v ++ items false l) (opened ∷ []) (value v ∷ marks_of false l) s (place after_open (s.depth + 1) 0 0) n (s.depth + 1)
      (opens s n a (omega (arith, f.0, order_pos l))) refl (atom-on v l (reads l).0 (place after_open (s.depth + 1) 0 0) (n + 1) refl (omega arith) f)),
)
reads (list m l) = (
  (λ s n a b h f. seq (44 ∷ []) (items true m ++ items false l) (pending s) (marks_of true m ++ marks_of false l) s (place after_comma s.depth 0 0) n s.depth
      (comma s n b) (append-nil (pending s)) (list_on m l (reads m).1 (reads l).0 (place after_comma s.depth 0 0) (n + 1) refl h f)),
  (λ s n a f. seq (40 ∷ []) (items true m ++ items false l) (opened ∷ []) (marks_of true m ++ marks_of false l) s (place after_open (s.depth + 1) 0 0) n
      (s.depth + 1)
      (opens s n a (omega (arith, f.0, order_pos l))) refl (list_on m l (reads m).1 (reads l).0 (place after_open (s.depth + 1) 0 0) (n + 1) refl
      (omega arith) f)),
)

-- the fill
ended : ℕ → State
ended m = settle m (mark (place after_all 0 0 0))

inside : (m : ℕ) → (m % record_bytes ≡ 0 → ⊥) → ended m ≡ at (place after_all 0 0 0) m
unfolding ended
inside m h = simp (ne_eqb _ _ h)

full : (m : ℕ) → m % record_bytes ≡ 0 → ended m ≡ taken m
unfolding ended
full m h = simp (eq-eqb _ _ h)

blanks : (k m : ℕ) → (m + k) % record_bytes ≡ 0 → k < record_bytes → run (ended m) (replicate k 32) ≡ taken (m + k)
unfolding ended
blanks zero m e h =
    let z : m + 0 ≡ m = omega arith in
    full m (omega arith) ∙ ap taken (sym z)
blanks (suc k) m e h =
    let z : m + 1 + k ≡ m + suc k = omega arith in
    ap (λ (st : State). run (next st 32) (replicate k 32)) (inside m (λ q. omega arith))
    ∙ blanks k (m + 1) (omega arith) (omega arith) ∙ ap taken z

-- the text of a list starts with "("
starts_open : (l : Lst) (t : List ℕ) → others (text_of l ++ t) ≢ 0
starts_open nil t = starts_other 40 _ (λ z. omega arith)
starts_open (atom v l) t = starts_other 40 _ (λ z. omega arith)
starts_open (list m l) t = starts_other 40 _ (λ z. omega arith)

pub write_read : (l : Lst) → order l ≤ levels → Atoms l → length (written l) ≤ text_most
    → (verdict (written l) ≡ done (length (written l))) × (list_in (written l) ≡ l)
unfolding ended scanned list_in
write_read l h a room =
    let w = (reads l).1 begin 0 refl (omega arith, a) in
    let m = length (text_of l) in
    let k = (record_bytes - m % record_bytes) % record_bytes in
    let z : 0 + m ≡ m = omega arith in
    let size : length (written l) ≡ m + k = length-append (text_of l) (fill m) ∙ ap (λ (j : ℕ). m + j) (length-replicate k 32) in
    let even : (m + k) % record_bytes ≡ 0 = omega arith in
    let takes : run (at begin 0) (written l) ≡ taken (m + k)
    = run-append (text_of l) (fill m) (at begin 0) ∙ ap (λ (st : State). run st (fill m)) (w.0 ∙ ap ended z)
    ∙ blanks k m even (omega arith) in
    let marks : trace (at begin 0) (written l) ≡ marks_of true l
    = trace-append (text_of l) (fill m) (at begin 0) ∙ ap (λ (es : List Mark). es ++ trace (run (at begin 0) (text_of l)) (fill m)) w.1
    ∙ ap (λ (es : List Mark). marks_of true l ++ es) (trace-blanks k (run (at begin 0) (text_of l))) ∙ append-nil (marks_of true l) in
    let e1 : length (written l) % record_bytes ≡ 0 = ap (λ (j : ℕ). j % record_bytes) size ∙ even in
    let some = ne_eqb (others (written l)) 0 (starts_open l (fill m)) in (
      right-size (written l) (no_fault (written l) e1 room some) ∙ ap answer takes ∙ ap done (sym size),
      ap (λ (es : List Mark). top_of (pushes es [])) marks ∙ ap top_of (built l),
    )
