-- Read back, character by character: what the rest of a text says of the lists that are open (`Good`), phase by phase, and
-- how one more character before it moves that.
use Rattle.std.specs.Prelude.{ℕ, ◌+◌, ◌-◌, ◌*◌, ◌<◌, ◌≤◌, ◌≡◌, refl, List, [], ◌∷◌, ◌++◌, true, false, length}
use Rattle.std.proofs.Common.{sym, ap, ◌∙◌, append_assoc, append-nil, arith}
use Rattle.lists.specs.Lst.{Lst, nil, atom, list}
use Rattle.text.specs.Limits.{atoms_end}
use Rattle.text.specs.Text.{Phase, at_start, after_open, after_comma, in_atom, after_element, after_all, place, may_open, may_shut, may_part, may_begin, is_atom, is_over, at}
use Rattle.text.specs.ListText.{octal, items, bare}
use Rattle.text.specs.Marks.{Mark, opened, shut, value, marks_of, met}
use Rattle.text.specs.Laws.TextLaws.{no_yes}
use Rattle.text.specs.Laws.MarkLaws.{with_open}
use Rattle.text.specs.Laws.Digits.{kept, d1, d2, d3}

-- a list's text after its "(" or ","; the text of the open lists' rest
abbrev pub body : Lst → List ℕ
body nil = 41 ∷ []
body (atom v l) = octal v ++ items false l
body (list m l) = items true m ++ items false l

abbrev pub tails : List Lst → List ℕ
tails [] = []
tails (l ∷ r) = items false l ++ tails r

-- the marks of the open lists' rest
abbrev pub tails_marks : List Lst → List Mark
tails_marks [] = []
tails_marks (l ∷ r) = marks_of false l ++ tails_marks r

pub opens_body : (l : Lst) → items true l ≡ 40 ∷ body l
opens_body nil = refl
opens_body (atom v l) = refl
opens_body (list m l) = refl

abbrev pub Some : Lst → Type 0
Some nil = ⊥
Some (atom v l) = Unit {0}
Some (list m l) = Unit {0}

comma-body : (l : Lst) → Some l → items false l ≡ 44 ∷ body l
comma-body nil h = absurd h
comma-body (atom v l) h = refl
comma-body (list m l) h = refl

abbrev pub Ok : Phase → ℕ → Type 0
Ok at_start d = d ≡ 0
Ok after_open d = 1 ≤ d
Ok after_comma d = 1 ≤ d
Ok in_atom d = 1 ≤ d
Ok after_element d = 1 ≤ d
Ok after_all d = Unit {0}

-- what the rest of a text and of its marks say of the lists that are open
abbrev pub Good : Phase → ℕ → ℕ → List ℕ → List Mark → Type 0
Good at_start d v t es = (l : Lst) × (es ≡ marks_of true l) × (bare false t ≡ items true l)
Good after_open d v t es = (l : Lst) × (r : List Lst) × (es ≡ tails_marks (l ∷ r)) × (length r + 1 ≡ d) × (bare false t ≡ body l ++ tails r)
Good after_comma d v t es = (l : Lst) × (r : List Lst) × (es ≡ tails_marks (l ∷ r)) × (length r + 1 ≡ d) × (bare false t ≡ body l ++ tails r) × Some l
Good in_atom d v t es =
    (w : ℕ) × (l : Lst) × (r : List Lst) × (es ≡ tails_marks (atom w l ∷ r)) × (length r + 1 ≡ d) × (kept v t ≡ octal w ++ (items false l ++ tails r))
Good after_element d v t es = (r : List Lst) × (es ≡ tails_marks r) × (length r ≡ d) × (bare false t ≡ tails r)
Good after_all d v t es = (es ≡ []) × (bare false t ≡ [])

-- "(": from what follows it
inner : (l : Lst) (r : List Lst) (es : List Mark) (d : ℕ) (t : List ℕ) → 1 ≤ d → es ≡ tails_marks (l ∷ r) → length r + 1 ≡ d + 1
    → bare false t ≡ body l ++ tails r
    → (k : Lst) × (q : List Lst) × (opened ∷ es ≡ tails_marks (k ∷ q)) × (length q + 1 ≡ d) × (bare false (40 ∷ t) ≡ body k ++ tails q) × Some k
inner l [] es d t h e n b = absurd (omega arith)
inner l (m ∷ r) es d t h e n b = (
  list l m,
  r,
  ap (λ (u : List Mark). opened ∷ u) e ∙ ap (λ (u : List Mark). u ++ (marks_of false m ++ tails_marks r)) (sym (with_open l))
      ∙ sym (append_assoc (marks_of true l) (marks_of false m) (tails_marks r)),
  omega arith,
  ap (λ (u : List ℕ). 40 ∷ u) b ∙ ap (λ (u : List ℕ). u ++ (items false m ++ tails r)) (sym (opens_body l))
      ∙ sym (append_assoc (items true l) (items false m) (tails r)),
  tt,
)

outer : (l : Lst) (r : List Lst) (es : List Mark) (t : List ℕ) → es ≡ tails_marks (l ∷ r) → length r + 1 ≡ 1 → bare false t ≡ body l ++ tails r
    → (k : Lst) × (opened ∷ es ≡ marks_of true k) × (bare false (40 ∷ t) ≡ items true k)
outer l [] es t e n b = (
  l,
  ap (λ (u : List Mark). opened ∷ u) (e ∙ append-nil (marks_of false l)) ∙ sym (with_open l),
  ap (λ (u : List ℕ). 40 ∷ u) (b ∙ append-nil (body l)) ∙ sym (opens_body l),
)
outer l (m ∷ r) es t e n b = absurd (omega arith)

pub open_good : (p : Phase) (d v : ℕ) (t : List ℕ) (es : List Mark) → may_open p ≡ true → Ok p d → Good after_open (d + 1) 0 t es
    → Good p d v (40 ∷ t) (opened ∷ es)
open_good at_start d v t es m ok (l, r, e, n, b) = outer l r es t e (omega (arith, ok, n)) b
open_good after_open d v t es m ok (l, r, e, n, b) = let g = inner l r es d t ok e n b in (g.0, g.1, g.2, g.3, g.4)
open_good after_comma d v t es m ok (l, r, e, n, b) = inner l r es d t ok e n b
open_good in_atom d v t es m ok g = no_yes m
open_good after_element d v t es m ok g = no_yes m
open_good after_all d v t es m ok g = no_yes m

-- ")"
abbrev pub Ended : ℕ → List ℕ → List Mark → Type 0
Ended d t es = (r : List Lst) × (es ≡ tails_marks r) × (length r + 1 ≡ d) × (bare false t ≡ tails r)

pub ended-done : (d : ℕ) (t : List ℕ) (es : List Mark) → d < 2 → 1 ≤ d → Good after_all 0 0 t es → Ended d t es
ended-done d t es h k (e, b) = ([], e, omega arith, b)

pub ended-after : (d : ℕ) (t : List ℕ) (es : List Mark) → 2 ≤ d → Good after_element (d - 1) 0 t es → Ended d t es
ended-after d t es h (r, e, n, b) = (r, e, omega arith, b)

pub shut_good : (p : Phase) (d dg v n : ℕ) (t : List ℕ) (es : List Mark) → may_shut p ≡ true → Ended d t es
    → Good p d v (41 ∷ t) (met (at (place p d dg v) n) 41 ++ es)
shut_good at_start d dg v n t es m g = no_yes m
shut_good after_open d dg v n t es m (r, e, c, b) = (nil, r, ap (λ (u : List Mark). shut ∷ u) e, c, ap (λ (u : List ℕ). 41 ∷ u) b)
shut_good after_comma d dg v n t es m g = no_yes m
shut_good in_atom d dg v n t es m (r, e, c, b) =
    (v, nil, r, ap (λ (u : List Mark). value v ∷ shut ∷ u) e, c, (d3 v t).1 ∙ ap (λ (u : List ℕ). octal v ++ (41 ∷ u)) b)
shut_good after_element d dg v n t es m (r, e, c, b) = (nil ∷ r, ap (λ (u : List Mark). shut ∷ u) e, omega arith, ap (λ (u : List ℕ). 41 ∷ u) b)
shut_good after_all d dg v n t es m g = no_yes m

-- ","
comma-text : (l : Lst) (r : List Lst) (t : List ℕ) → bare false t ≡ body l ++ tails r → Some l → 44 ∷ bare false t ≡ items false l ++ tails r
comma-text l r t b k = ap (λ (u : List ℕ). 44 ∷ u) b ∙ ap (λ (u : List ℕ). u ++ tails r) (sym (comma-body l k))

pub comma_good : (p : Phase) (d dg v n : ℕ) (t : List ℕ) (es : List Mark) → may_part p ≡ true → Good after_comma d 0 t es
    → Good p d v (44 ∷ t) (met (at (place p d dg v) n) 44 ++ es)
comma_good at_start d dg v n t es m g = no_yes m
comma_good after_open d dg v n t es m g = no_yes m
comma_good after_comma d dg v n t es m g = no_yes m
comma_good in_atom d dg v n t es m (l, r, e, c, b, k) =
    (v, l, r, ap (λ (u : List Mark). value v ∷ u) e, c, (d3 v t).0 ∙ ap (λ (u : List ℕ). octal v ++ u) (comma-text l r t b k))
comma_good after_element d dg v n t es m (l, r, e, c, b, k) = (l ∷ r, e, omega arith, comma-text l r t b k)
comma_good after_all d dg v n t es m g = no_yes m

-- a digit
first_good : (d x : ℕ) (t : List ℕ) (es : List Mark) → x < 8 → Good in_atom d x t es
    → (l : Lst) × (r : List Lst) × (es ≡ tails_marks (l ∷ r)) × (length r + 1 ≡ d) × (bare false ((48 + x) ∷ t) ≡ body l ++ tails r) × Some l
first_good d x t es h (w, l, r, e, n, b) =
    (atom w l, r, e, n, d1 x h t ∙ b ∙ sym (append_assoc (octal w) (items false l) (tails r)), tt)

pub begin_good : (p : Phase) (d v x : ℕ) (t : List ℕ) (es : List Mark) → may_begin p ≡ true → x < 8 → Good in_atom d x t es → Good p d v ((48 + x) ∷ t) es
begin_good at_start d v x t es m h g = no_yes m
begin_good after_open d v x t es m h g = let f = first_good d x t es h g in (f.0, f.1, f.2, f.3, f.4)
begin_good after_comma d v x t es m h g = first_good d x t es h g
begin_good in_atom d v x t es m h g = no_yes m
begin_good after_element d v x t es m h g = no_yes m
begin_good after_all d v x t es m h g = no_yes m

pub more_good : (p : Phase) (d v x : ℕ) (t : List ℕ) (es : List Mark) → is_atom p ≡ true → x < 8 → v * 8 + x < atoms_end
    → Good in_atom d (v * 8 + x) t es → Good p d v ((48 + x) ∷ t) es
more_good at_start d v x t es m h k g = no_yes m
more_good after_open d v x t es m h k g = no_yes m
more_good after_comma d v x t es m h k g = no_yes m
more_good in_atom d v x t es m h k (w, l, r, e, n, b) = (w, l, r, e, n, d2 v x h k t ∙ b)
more_good after_element d v x t es m h k g = no_yes m
more_good after_all d v x t es m h k g = no_yes m

-- a blank
pub blank_good : (p : Phase) (d v : ℕ) (t : List ℕ) (es : List Mark) → is_over p ≡ true → Good after_all 0 0 t es → Good p d v (32 ∷ t) es
blank_good at_start d v t es m g = no_yes m
blank_good after_open d v t es m g = no_yes m
blank_good after_comma d v t es m g = no_yes m
blank_good in_atom d v t es m g = no_yes m
blank_good after_element d v t es m g = no_yes m
blank_good after_all d v t es m g = g
