-- Read, then write: where bytes are taken, the first of them are the groups of one list, and the marks met are its own.
-- One induction on the numbers of the bytes, over what they say of the lists that are open.
use Rattle.std.specs.Prelude.{ℕ, zero, suc, ◌+◌, ◌/◌, ◌%◌, ◌<◌, ◌≤◌, ◌≡◌, refl, List, [], ◌∷◌, ◌++◌, Bool, true, false, cond, length, take, eqb, ltb}
use Rattle.std.proofs.Common.{sym, ap, subst, subst₂, ◌∙◌, append_assoc, append-nil, arith, length-append, take_at, eqb-true, ltb-true}
use Rattle.std.proofs.lemmas.Bool.{eqb-false}
use Rattle.answers.specs.Answers.{DEEP, GROUPS}
use Rattle.lists.specs.Lst.{Lst}
use Rattle.text.specs.Limits.{levels}
use Rattle.text.specs.Marks.{Mark, opened, value, marks_of}
use Rattle.text.specs.Laws.MarkLaws.{with_open}
use Rattle.text.specs.Laws.OpenLists.{tails_marks}
use Rattle.groups.specs.Groups.{numbers_end, number, list_number, elements, groups_of}
use Rattle.groups.specs.Holding.{Holding}
use Rattle.groups.specs.Reading.{Token, num, bad, tokens, State, begin, at, refused, taken, closing, run, shuts, trace}
use Rattle.groups.specs.Laws.NumberBack.{Begins, number_back}
use Rattle.groups.specs.Laws.RunLaws.{rests_taken, trace-taken, never_taken}
use Rattle.groups.specs.Laws.OpenLists.{tails, Counted, Inside, Open, none_open, ended_open, atom_open, list_open}

-- what the numbers ts of the bytes s say, before an element and behind one
abbrev Before : List Token → List ℕ → ℕ → ℕ → Type 0
Before ts s n m = (k : ℕ) (st : List ℕ) → length (suc k ∷ st) ≤ levels → run (at (suc k ∷ st) n) ts ≡ taken m
    → Open (suc k ∷ st) n m s (trace (at (suc k ∷ st) n) ts)

abbrev Behind : List Token → List ℕ → ℕ → ℕ → Type 0
Behind ts s n m = (st : List ℕ) → length st ≤ levels → run (closing st n) ts ≡ taken m
    → Open st n m s (shuts st ++ trace (closing st n) ts)

-- the lists with no element to come end
unwound : (ts : List Token) (s : List ℕ) (n m : ℕ) → Before ts s n m → Behind ts s n m
unwound ts s n m f [] h e =
    let q : taken n ≡ taken m = sym (rests_taken n ts) ∙ e in
    let same : n ≡ m = cc in
    none_open n m s (trace (taken n) ts) same (trace-taken n ts)
unwound ts s n m f (zero ∷ st) h e =
    ended_open st n m s (shuts st ++ trace (closing st n) ts) h (unwound ts s n m f st (omega arith) e)
unwound ts s n m f (suc k ∷ st) h e = f k st h e

-- one number more: s are the bytes behind it
module _ (v : ℕ) (ts : List Token) (s : List ℕ) (n m k : ℕ) (st : List ℕ) (small : v < numbers_end)
    (d : length (suc k ∷ st) ≤ levels) (hyp : Behind ts s (n + length (number v)) m) where
  abbrev j : ℕ
  j = n + length (number v)

  abbrev Claim : State → List Mark → Type 0
  Claim u es = run u ts ≡ taken m → Open (suc k ∷ st) n m (number v ++ s) (es ++ trace u ts)

  by_tests : (x y : Bool) → eqb (v % 2) 0 ≡ x → ltb (length (k ∷ st)) levels ≡ y
      → Claim (cond x (closing (k ∷ st) j) (cond y (closing (v / 2 ∷ k ∷ st) j) (refused DEEP)))
      (cond x (value (v / 2) ∷ shuts (k ∷ st)) (opened ∷ shuts (v / 2 ∷ k ∷ st)))
  by_tests true y p q e =
      atom_open k st v n m s (shuts (k ∷ st) ++ trace (closing (k ∷ st) j) ts) small (eqb-true (v % 2) 0 p)
      (hyp (k ∷ st) d e)
  by_tests false true p q e =
      list_open k st v n m s (shuts (v / 2 ∷ k ∷ st) ++ trace (closing (v / 2 ∷ k ∷ st) j) ts) small
      (omega (arith, eqb-false (v % 2) 0 p)) (hyp (v / 2 ∷ k ∷ st) (ltb-true (length (k ∷ st)) levels q) e)
  by_tests false false p q e = absurd (never_taken DEEP m ts e)

one_number : (v j : ℕ) (ts : List Token) (s : List ℕ) (n m k : ℕ) (st : List ℕ) → length (suc k ∷ st) ≤ levels
    → (g : Begins s v j ts) → Behind ts g.rest (n + length (number v)) m
    → run (at (suc k ∷ st) n) (num v j ∷ ts) ≡ taken m
    → Open (suc k ∷ st) n m s (trace (at (suc k ∷ st) n) (num v j ∷ ts))
one_number v j ts s n m k st d g hyp =
    let Q : ℕ → List ℕ → Type 0 = λ i t. run (at (suc k ∷ st) n) (num v i ∷ ts) ≡ taken m
    → Open (suc k ∷ st) n m t (trace (at (suc k ∷ st) n) (num v i ∷ ts)) in
    subst₂ Q (sym g.size) (sym g.parts)
    (by_tests v ts g.rest n m k st g.small d hyp (eqb (v % 2) 0) (ltb (length (k ∷ st)) levels) refl refl)

back : (ts : List Token) (s : List ℕ) → tokens s ≡ ts → (n m : ℕ) → Before ts s n m
back [] s q n m k st d e = let z : ◌≡◌ {A = ℕ} 0 1 = cc in absurd (omega arith)
back (bad ∷ ts) s q n m k st d e = absurd (never_taken GROUPS m ts e)
back (num v j ∷ ts) s q n m k st d e =
    let g = number_back s v j ts q in
    let i = n + length (number v) in
    one_number v j ts s n m k st d g (unwound ts g.rest i m (back ts g.rest g.behind i m)) e

-- the whole list
pub record Held (s : List ℕ) (m : ℕ) : Type 0 where
  pub it : Lst
  pub holds : Holding s m it
  pub marks : trace begin (tokens s) ≡ marks_of true it

module _ (v j : ℕ) (ts : List Token) (s : List ℕ) (m : ℕ) (g : Begins s v j ts) (odd : v % 2 ≡ 1) where
  whole : (es : List Mark) → Open (v / 2 ∷ []) (length (number v)) m g.rest es
      → (l : Lst) × Holding s m l × (opened ∷ es ≡ marks_of true l)
  whole es o = go o.lists o.counted o.inside o.parts o.behind o.marks
    where
      go : (ls : List Lst) → Counted (v / 2 ∷ []) ls → Inside ls → g.rest ≡ tails ls ++ o.later
          → m ≡ length (number v) + length (tails ls) → es ≡ tails_marks ls
          → (l : Lst) × Holding s m l × (opened ∷ es ≡ marks_of true l)
      go [] c i p b q = absurd c
      go (l ∷ r ∷ rs) c i p b q = absurd c.1
      go (l ∷ []) c i p b q =
          let twice : v ≡ list_number l = omega (arith, c.0) in
          let end : tails (l ∷ []) ≡ elements l = append-nil (elements l) in
          let parts : s ≡ groups_of l ++ o.later
          = g.parts ∙ ap (λ (t : List ℕ). number v ++ t) (p ∙ ap (λ (t : List ℕ). t ++ o.later) end)
          ∙ ap (λ (x : ℕ). number x ++ (elements l ++ o.later)) twice
          ∙ sym (append_assoc (number (list_number l)) (elements l) o.later) in
          let size : length (groups_of l) ≡ m
          = omega (
            arith,
            length-append (number (list_number l)) (elements l),
            ap length end,
            ap (λ (x : ℕ). length (number x)) twice,
          ) in (
            l,
            record {
              within = omega (arith, ap length parts, length-append (groups_of l) o.later);
              bytes = ap (take m) parts ∙ take_at (groups_of l) o.later m size;
              fits = (omega (arith, g.small), i.0);
              shallow = omega (arith, i.1);
            },
            ap (λ (u : List Mark). opened ∷ u) (q ∙ append-nil (marks_of false l)) ∙ sym (with_open l),
          )

from-begin : (ts : List Token) (s : List ℕ) (m : ℕ) → tokens s ≡ ts → run begin ts ≡ taken m
    → (l : Lst) × Holding s m l × (trace begin ts ≡ marks_of true l)
from-begin [] s m q e = let z : ◌≡◌ {A = ℕ} 0 1 = cc in absurd (omega arith)
from-begin (bad ∷ ts) s m q e = absurd (never_taken GROUPS m ts e)
from-begin (num v j ∷ ts) s m q e = go (eqb (v % 2) 0) refl e
  where
    g : Begins s v j ts
    g = number_back s v j ts q

    go : (x : Bool) → eqb (v % 2) 0 ≡ x → run (cond x (refused GROUPS) (closing (v / 2 ∷ []) j)) ts ≡ taken m
        → (l : Lst) × Holding s m l
        × (opened ∷ shuts (v / 2 ∷ []) ++ trace (cond x (refused GROUPS) (closing (v / 2 ∷ []) j)) ts ≡ marks_of true l)
    go true p r = absurd (never_taken GROUPS m ts r)
    go false p r =
        let es = shuts (v / 2 ∷ []) ++ trace (closing (v / 2 ∷ []) j) ts in
        whole v j ts s m g (omega (arith, eqb-false (v % 2) 0 p)) es
        (subst (λ (i : ℕ). Open (v / 2 ∷ []) i m g.rest es) g.size
        (unwound ts g.rest j m (back ts g.rest g.behind j m) (v / 2 ∷ []) (omega arith) r))

pub held : (s : List ℕ) (m : ℕ) → run begin (tokens s) ≡ taken m → Held s m
held s m e = let w = from-begin (tokens s) s m refl e in record { it = w.0; holds = w.1; marks = w.2 }
