-- Read back, number by number: what the bytes ahead say of the lists that are open, and how one more number before them
-- moves that.
use Prim.Native.Nat.{ℕ, zero, suc, ◌+◌, ◌/◌, ◌%◌, ◌<◌, ◌≤◌}
use Rattle.std.specs.Prelude.{◌≡◌, refl}
use Rattle.std.proofs.Math.Path.{sym, ap}
use Rattle.std.proofs.Common.{◌∙◌, length-append}
use mathlib.Core.List.{List, [], ◌∷◌, ◌++◌, append_assoc}
use Rattle.std.proofs.Math.Bool.{true, false}
use native.Mathlib.Omega.{arith}
use Rattle.std.proofs.Math.ListN.{length}
use Rattle.lists.specs.Lst.{Lst, nil, atom, list, len, order}
use Rattle.text.specs.Limits.{levels}
use Rattle.text.specs.Marks.{Mark, opened, shut, value, marks_of}
use Rattle.text.specs.Laws.MarkLaws.{with_open}
use Rattle.text.specs.Laws.OpenLists.{tails_marks}
use Rattle.groups.specs.Groups.{numbers_end, number, atom_number, list_number, elements, Fit}

-- the groups of the elements to come, the innermost list first
abbrev pub tails : List Lst → List ℕ
tails [] = []
tails (l ∷ r) = elements l ++ tails r

-- as many elements to come as were counted
abbrev pub Counted : List ℕ → List Lst → Type 0
Counted [] [] = Unit {0}
Counted [] (l ∷ r) = ⊥
Counted (k ∷ st) [] = ⊥
Counted (k ∷ st) (l ∷ r) = (len l ≡ k) × Counted st r

-- numbers that fit, and levels that may be open
abbrev pub Inside : List Lst → Type 0
Inside [] = Unit {0}
Inside (l ∷ r) = Fit l × (length r + order l ≤ levels) × Inside r

-- from st elements to come behind n bytes, the bytes s end the outermost list behind m bytes and meet the marks es
pub record Open (st : List ℕ) (n m : ℕ) (s : List ℕ) (es : List Mark) : Type 0 where
  pub lists : List Lst
  pub later : List ℕ
  pub counted : Counted st lists
  pub inside : Inside lists
  pub parts : s ≡ tails lists ++ later
  pub behind : m ≡ n + length (tails lists)
  pub marks : es ≡ tails_marks lists

same_depth : (st : List ℕ) (ls : List Lst) → Counted st ls → length ls ≡ length st
same_depth [] [] c = refl
same_depth [] (l ∷ r) c = absurd c
same_depth (k ∷ st) [] c = absurd c
same_depth (k ∷ st) (l ∷ r) c = ap suc (same_depth st r c.1)

-- behind the outermost list
pub none_open : (n m : ℕ) (s : List ℕ) (es : List Mark) → n ≡ m → es ≡ [] → Open [] n m s es
none_open n m s es e q =
    record { lists = []; later = s; counted = tt; inside = tt; parts = refl; behind = omega arith; marks = q }

-- a list with no element to come ends
pub ended_open : (st : List ℕ) (n m : ℕ) (s : List ℕ) (es : List Mark) → length (zero ∷ st) ≤ levels → Open st n m s es
    → Open (zero ∷ st) n m s (shut ∷ es)
unfolding len order elements Fit
ended_open st n m s es h o =
    record {
      lists = nil ∷ o.lists;
      later = o.later;
      counted = (refl, o.counted);
      inside = (tt, omega (arith, same_depth st o.lists o.counted), o.inside);
      parts = o.parts;
      behind = o.behind;
      marks = ap (λ (u : List Mark). shut ∷ u) o.marks;
    }

-- the number of an element before the others
pub tails-atom : (w : ℕ) (l : Lst) (r : List Lst) → tails (atom w l ∷ r) ≡ number (atom_number w) ++ tails (l ∷ r)
unfolding elements
tails-atom w l r = append_assoc (number (atom_number w)) (elements l) (tails r)

pub tails_list : (e l : Lst) (r : List Lst) → tails (list e l ∷ r) ≡ number (list_number e) ++ tails (e ∷ l ∷ r)
unfolding elements
tails_list e l r =
    append_assoc (number (list_number e)) (elements e ++ elements l) (tails r)
    ∙ ap (λ (t : List ℕ). number (list_number e) ++ t) (append_assoc (elements e) (elements l) (tails r))

-- a number, then what is ahead of it
module _ (v n m : ℕ) (s later : List ℕ) (a b : List ℕ) (whole : b ≡ number v ++ a) where
  parts_more : s ≡ a ++ later → number v ++ s ≡ b ++ later
  parts_more e =
      ap (λ (t : List ℕ). number v ++ t) e ∙ sym (append_assoc (number v) a later)
      ∙ ap (λ (t : List ℕ). t ++ later) (sym whole)

  behind_more : m ≡ n + length (number v) + length a → m ≡ n + length b
  behind_more e = omega (arith, ap length whole, length-append (number v) a)

module _ (k : ℕ) (st : List ℕ) (v n m : ℕ) (s : List ℕ) (es : List Mark) (small : v < numbers_end) where
  pub atom_open : v % 2 ≡ 0 → Open (k ∷ st) (n + length (number v)) m s es
      → Open (suc k ∷ st) n m (number v ++ s) (value (v / 2) ∷ es)
  unfolding len order Fit
  atom_open even o = go o.lists o.counted o.inside o.parts o.behind o.marks
    where
      twice : atom_number (v / 2) ≡ v
      twice = omega arith

      go : (ls : List Lst) → Counted (k ∷ st) ls → Inside ls → s ≡ tails ls ++ o.later
          → m ≡ n + length (number v) + length (tails ls) → es ≡ tails_marks ls
          → Open (suc k ∷ st) n m (number v ++ s) (value (v / 2) ∷ es)
      go [] c i p b q = absurd c
      go (l ∷ r) c i p b q =
          let whole : tails (atom (v / 2) l ∷ r) ≡ number v ++ tails (l ∷ r)
          = tails-atom (v / 2) l r ∙ ap (λ (x : ℕ). number x ++ tails (l ∷ r)) twice in
          record {
            lists = atom (v / 2) l ∷ r;
            later = o.later;
            counted = (ap suc c.0, c.1);
            inside = ((omega arith, i.0), i.1, i.2);
            parts = parts_more v n m s o.later (tails (l ∷ r)) (tails (atom (v / 2) l ∷ r)) whole p;
            behind = behind_more v n m s o.later (tails (l ∷ r)) (tails (atom (v / 2) l ∷ r)) whole b;
            marks = ap (λ (u : List Mark). value (v / 2) ∷ u) q;
          }

  pub list_open : v % 2 ≡ 1 → Open (v / 2 ∷ k ∷ st) (n + length (number v)) m s es
      → Open (suc k ∷ st) n m (number v ++ s) (opened ∷ es)
  unfolding len order Fit
  list_open odd o = go o.lists o.counted o.inside o.parts o.behind o.marks
    where
      go : (ls : List Lst) → Counted (v / 2 ∷ k ∷ st) ls → Inside ls → s ≡ tails ls ++ o.later
          → m ≡ n + length (number v) + length (tails ls) → es ≡ tails_marks ls
          → Open (suc k ∷ st) n m (number v ++ s) (opened ∷ es)
      go [] c i p b q = absurd c
      go (e ∷ []) c i p b q = absurd c.1
      go (e ∷ l ∷ r) c i p b q =
          let twice : list_number e ≡ v = omega (arith, c.0) in
          let whole : tails (list e l ∷ r) ≡ number v ++ tails (e ∷ l ∷ r)
          = tails_list e l r ∙ ap (λ (x : ℕ). number x ++ tails (e ∷ l ∷ r)) twice in
          record {
            lists = list e l ∷ r;
            later = o.later;
            counted = (ap suc c.1.0, c.1.1);
            inside = ((omega arith, i.0, i.2.0), omega (arith, i.1, i.2.1), i.2.2);
            parts = parts_more v n m s o.later (tails (e ∷ l ∷ r)) (tails (list e l ∷ r)) whole p;
            behind = behind_more v n m s o.later (tails (e ∷ l ∷ r)) (tails (list e l ∷ r)) whole b;
            marks =
                ap (λ (u : List Mark). opened ∷ u) q
                ∙ ap (λ (u : List Mark). u ++ (marks_of false l ++ tails_marks r)) (sym (with_open e))
                ∙ sym (append_assoc (marks_of true e) (marks_of false l) (tails_marks r));
          }
