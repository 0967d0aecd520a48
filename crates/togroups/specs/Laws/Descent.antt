-- The lists that the marks of a list leave open from any place on: mark by mark they are parts of the list.
use Rattle.std.specs.Prelude.{ℕ, zero, suc, ◌<◌, Bool, true, false, cond, eqb, get_or, drop}
use Rattle.std.proofs.Math.Path.{◌≡◌, refl, sym, ap, subst}
use Rattle.std.proofs.Common.{◌∙◌, drop-cons}
use mathlib.Core.List.{List, [], ◌∷◌, ◌++◌, append_assoc}
use native.Mathlib.Omega.{arith}
use Rattle.std.proofs.Math.ListN.{length, length-append}
use Rattle.groups.specs.Groups.{number, atom_number, list_number, elements}
use Rattle.lists.specs.Lst.{Lst, nil, atom, list, order, Atoms}
use Rattle.scan.specs.Runs.{numeral}
use Rattle.text.specs.ListText.{is_digit_byte}
use Rattle.text.specs.Marks.{Mark, opened, shut, value, marks_of, push, pushes}
use Rattle.text.specs.Laws.MarkLaws.{with_open}
use Rattle.text.specs.Laws.OpenLists.{tails_marks}
use Rattle.togroups.specs.Backward.{mark_of, begun, marks_from}
use Rattle.togroups.specs.OpenLists.{groups_in, Within, Pushable}

-- a list before others begins with "("
list_marks : (m l : Lst) (k : List Mark) → marks_of false (list m l) ++ k ≡ opened ∷ (marks_of false m ++ (marks_of false l ++ k))
list_marks m l k =
    append_assoc (marks_of true m) (marks_of false l) k ∙ ap (λ (es : List Mark). es ++ (marks_of false l ++ k)) (with_open m)

builds : (l : Lst) (k : List Mark) → pushes (marks_of false l ++ k) [] ≡ l ∷ pushes k []
builds nil k = refl
builds (atom v l) k = ap (push (value v)) (builds l k)
builds (list m l) k =
    ap (λ (es : List Mark). pushes es []) (list_marks m l k)
    ∙ ap (push opened) (builds m (marks_of false l ++ k) ∙ ap (λ (ls : List Lst). m ∷ ls) (builds l k))

-- the marks of open lists build them
pub tails_build : (ls : List Lst) → pushes (tails_marks ls) [] ≡ ls
tails_build [] = refl
tails_build (l ∷ ls) = builds l (tails_marks ls) ∙ ap (λ (r : List Lst). l ∷ r) (tails_build ls)

-- the groups that an atom and "(" bring
pub atom-groups : (v : ℕ) (x : Lst) (r : List Lst) → groups_in (atom v x ∷ r) ≡ number (atom_number v) ++ groups_in (x ∷ r)
unfolding elements
atom-groups v x r = append_assoc (number (atom_number v)) (elements x) (groups_in r)

pub list_groups : (m x : Lst) (r : List Lst) → groups_in (list m x ∷ r) ≡ number (list_number m) ++ groups_in (m ∷ (x ∷ r))
unfolding elements
list_groups m x r =
    append_assoc (number (list_number m)) (elements m ++ elements x) (groups_in r)
    ∙ ap (λ (t : List ℕ). number (list_number m) ++ t) (append_assoc (elements m) (elements x) (groups_in r))

module _ (l : Lst) where
  -- behind a mark
  abbrev Behind : Mark → List Mark → List Lst → Type 0
  Behind e ms ls = (rest : List Lst) × (ms ≡ tails_marks rest) × (push e rest ≡ ls) × Pushable e rest × Within l rest

  behind : (ls : List Lst) (e : Mark) (ms : List Mark) → Within l ls → tails_marks ls ≡ e ∷ ms → Behind e ms ls
  unfolding order Atoms elements
  behind [] e ms w q = let z : ◌≡◌ {A = ℕ} 0 1 = cc in absurd (omega arith)
  behind (nil ∷ r) e ms w q =
      let a : shut ≡ e = cc in
      let b : ms ≡ tails_marks r = cc in
      subst (λ (d : Mark). Behind d ms (nil ∷ r)) a (r, b, refl, tt, record { shallow = w.shallow.1; atoms = w.atoms.1; small = w.small })
  behind (atom v x ∷ r) e ms w q =
      let a : value v ≡ e = cc in
      let b : ms ≡ tails_marks (x ∷ r) = cc in
      subst (λ (d : Mark). Behind d ms (atom v x ∷ r)) a (
        x ∷ r,
        b,
        refl,
        (w.atoms.0.0, omega arith),
        record {
          shallow = w.shallow;
          atoms = (w.atoms.0.1, w.atoms.1);
          small = omega (arith, w.small, ap length (atom-groups v x r), length-append (number (atom_number v)) (groups_in (x ∷ r)));
        },
      )
  behind (list m x ∷ r) e ms w q =
      let f = sym (list_marks m x (tails_marks r)) ∙ q in
      let a : opened ≡ e = cc in
      let b : ms ≡ tails_marks (m ∷ x ∷ r) = cc in
      subst (λ (d : Mark). Behind d ms (list m x ∷ r)) a (
        m ∷ (x ∷ r),
        b,
        refl,
        omega arith,
        record {
          shallow = (omega (arith, w.shallow.0), (omega (arith, w.shallow.0), w.shallow.1));
          atoms = (w.atoms.0.0, (w.atoms.0.1, w.atoms.1));
          small = omega (arith, w.small, ap length (list_groups m x r), length-append (number (list_number m)) (groups_in (m ∷ (x ∷ r))));
        },
      )

  -- the lists open behind a digit or anything else
  pub record Placed (k : Bool) (t : List ℕ) : Type 0 where
    pub lists : List Lst
    pub marks : marks_from k t ≡ tails_marks lists
    pub within : Within l lists

  after : (c : Bool) (t : List ℕ) (e : Mark) (ls : List Lst) → Within l ls → e ∷ marks_from c t ≡ tails_marks ls → Placed c t
  after c t e ls w q = let (r, m, p, f, z) = behind ls e (marks_from c t) w (sym q) in record { lists = r; marks = m; within = z }

  -- one character on
  module _ (b : ℕ) (t : List ℕ) where
    by_mark : (x y : Bool) (ls : List Lst) → Within l ls → cond x (opened ∷ []) (cond y (shut ∷ []) []) ++ marks_from false t ≡ tails_marks ls → Placed false t
    by_mark true y ls w q = after false t opened ls w q
    by_mark false true ls w q = after false t shut ls w q
    by_mark false false ls w q = record { lists = ls; marks = q; within = w }

    by_digit : (k c : Bool) (ls : List Lst) → Within l ls → cond c (begun k (b ∷ t) ++ marks_from true t) (mark_of b ++ marks_from false t) ≡ tails_marks ls → Placed c t
    by_digit true true ls w q = record { lists = ls; marks = q; within = w }
    by_digit false true ls w q = after true t (value (numeral 0 (b ∷ t))) ls w q
    by_digit k false ls w q = by_mark (eqb b 40) (eqb b 41) ls w q

    on : (k : Bool) → Placed k (b ∷ t) → Placed (is_digit_byte b) t
    on k p = by_digit k (is_digit_byte b) p.lists p.within p.marks

  -- at every place, from the one behind the first character
  pub places : (t : List ℕ) → is_digit_byte (get_or t 0 0) ≡ false → Placed false (drop 1 t) → (i : ℕ) → i < length t → Placed (is_digit_byte (get_or t i 0)) (drop (suc i) t)
  places t z p zero h = subst (λ (c : Bool). Placed c (drop 1 t)) (sym z) p
  places t z p (suc i) h =
      on (get_or t (suc i) 0) (drop (suc (suc i)) t) (is_digit_byte (get_or t i 0))
      (subst (Placed (is_digit_byte (get_or t i 0))) (drop-cons t (suc i) 0 h) (places t z p i (omega arith)))

  -- a mark is met backwards
  pub met_back : (k : Bool) (t : List ℕ) (e : Mark) (ms : List Mark) → Placed k t → marks_from k t ≡ e ∷ ms
      → Pushable e (pushes ms []) × Within l (push e (pushes ms []))
  met_back k t e ms p q =
      let (r, m, g, f, z) = behind p.lists e ms p.within (sym p.marks ∙ q) in
      let same : pushes ms [] ≡ r = ap (λ (es : List Mark). pushes es []) m ∙ tails_build r in
      (subst (Pushable e) (sym same) f, subst (λ (ls : List Lst). Within l (push e ls)) (sym same) (subst (Within l) (sym g) p.within))
