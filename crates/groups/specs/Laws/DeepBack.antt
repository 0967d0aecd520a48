-- Bytes that are refused where level 201 opens begin like the groups of a list, up to and with that number. By
-- induction on the numbers of the bytes.
use Rattle.std.specs.Prelude.{ℕ, zero, suc, ◌+◌, ◌/◌, ◌%◌, ◌<◌, ◌≤◌, ◌≡◌, refl, List, [], ◌∷◌, ◌++◌, Bool, true, false, cond, eqb, ltb, length, take}
use Rattle.std.proofs.Common.{sym, ap, subst, ◌∙◌, inl, inr, append-nil, arith, eqb-true, ltb-true, ltb-false}
use Rattle.std.proofs.lemmas.Bool.{eqb-false}
use Rattle.answers.specs.Answers.{DEEP, GROUPS}
use Rattle.lists.specs.Lst.{Lst}
use Rattle.text.specs.Limits.{levels}
use Rattle.groups.specs.Depth.{OpensIn}
use Rattle.groups.specs.Groups.{numbers_end, number, list_number, elements, groups_of, Fits}
use Rattle.groups.specs.Reading.{Token, num, bad, tokens, begin, at, refused, taken, closing, run}
use Rattle.groups.specs.Laws.DeepLists.{AllFit, Among, Opened, ended, same_more, atom-opened, list_opened, here-opened}
use Rattle.groups.specs.Laws.NumberBack.{Begins, number_back}
use Rattle.groups.specs.Laws.OpenLists.{tails, Counted}
use Rattle.groups.specs.Laws.RunLaws.{rests_refused, rests_taken}

-- along the numbers ts of the bytes s, before an element and behind one
abbrev Before : List Token → List ℕ → ℕ → Type 0
Before ts s n = (k : ℕ) (st : List ℕ) → length (suc k ∷ st) ≤ levels → run (at (suc k ∷ st) n) ts ≡ refused DEEP
    → Opened (suc k ∷ st) s

abbrev Behind : List Token → List ℕ → ℕ → Type 0
Behind ts s n = (st : List ℕ) → length st ≤ levels → run (closing st n) ts ≡ refused DEEP → Opened st s

unwound : (ts : List Token) (s : List ℕ) (n : ℕ) → Before ts s n → Behind ts s n
unwound ts s n f [] h e =
    let q : taken n ≡ refused DEEP = sym (rests_taken n ts) ∙ e in
    let z : ◌≡◌ {A = ℕ} 0 1 = cc in absurd (omega arith)
unwound ts s n f (zero ∷ st) h e = ended st s (unwound ts s n f st (omega arith) e)
unwound ts s n f (suc k ∷ st) h e = f k st h e

-- GROUPS is another refusal
not_deep : (ts : List Token) → run (refused GROUPS) ts ≡ refused DEEP → ⊥
not_deep ts e =
    let q : refused GROUPS ≡ refused DEEP = sym (rests_refused GROUPS ts) ∙ e in
    let z : ◌≡◌ {A = ℕ} 19 17 = cc in omega arith

by_tests : (v : ℕ) (ts : List Token) (s : List ℕ) (n k : ℕ) (st : List ℕ) → v < numbers_end
    → length (suc k ∷ st) ≤ levels → Behind ts s n
    → (x y : Bool) → eqb (v % 2) 0 ≡ x → ltb (length (k ∷ st)) levels ≡ y
    → run (cond x (closing (k ∷ st) n) (cond y (closing (v / 2 ∷ k ∷ st) n) (refused DEEP))) ts ≡ refused DEEP
    → Opened (suc k ∷ st) (number v ++ s)
by_tests v ts s n k st small d hyp true y p q e =
    atom-opened v k st s small (eqb-true (v % 2) 0 p) (hyp (k ∷ st) d e)
by_tests v ts s n k st small d hyp false true p q e =
    list_opened v k st s small (omega (arith, eqb-false (v % 2) 0 p))
    (hyp (v / 2 ∷ k ∷ st) (ltb-true (length (k ∷ st)) levels q) e)
by_tests v ts s n k st small d hyp false false p q e =
    let deep = ltb-false (suc (length st)) levels q in
    here-opened v k st s small (omega (arith, eqb-false (v % 2) 0 p)) (omega arith)

back : (ts : List Token) (s : List ℕ) → tokens s ≡ ts → (n : ℕ) → Before ts s n
back [] s q n k st d e = let z : ◌≡◌ {A = ℕ} 0 1 = cc in absurd (omega arith)
back (bad ∷ ts) s q n k st d e = absurd (not_deep ts e)
back (num v j ∷ ts) s q n k st d e =
    let g = number_back s v j ts q in
    subst (Opened (suc k ∷ st)) (sym g.parts)
    (by_tests v ts g.rest (n + j) k st g.small d
    (unwound ts g.rest (n + j) (back ts g.rest g.behind (n + j)))
    (eqb (v % 2) 0) (ltb (length (k ∷ st)) levels) refl refl e)

-- the whole list
abbrev pub OpensAhead : List ℕ → Type 0
OpensAhead s = (l : Lst) × (k : ℕ) × (v : ℕ) × Fits l × OpensIn l (suc levels) k v
    × (take (k + length (number v)) s ≡ take (k + length (number v)) (groups_of l))

whole : (v : ℕ) (s : List ℕ) → v % 2 ≡ 1 → v < numbers_end → Opened (v / 2 ∷ []) s → OpensAhead (number v ++ s)
whole v s odd small o = go o.lists o.counted o.fits o.among o.same
  where
    go : (ls : List Lst) → Counted (v / 2 ∷ []) ls → AllFit ls → Among ls o.place o.value
        → take (o.place + length (number o.value)) s ≡ take (o.place + length (number o.value)) (tails ls)
        → OpensAhead (number v ++ s)
    go [] c f a e = absurd c
    go (l ∷ m ∷ r) c f a e = absurd c.1
    go (l ∷ []) c f (inr a) e = absurd a.2
    go (l ∷ []) c f (inl a) e =
        let twice : list_number l ≡ v = omega (arith, c.0) in
        let end : groups_of l ≡ number v ++ tails (l ∷ [])
        = ap (λ (x : ℕ). number x ++ elements l) twice
        ∙ ap (λ (t : List ℕ). number v ++ t) (sym (append-nil (elements l))) in (
          l,
          length (number v) + o.place,
          o.value,
          (omega arith, f.0),
          (o.place, ap (λ (x : ℕ). length (number x) + o.place) (sym twice), a),
          same_more (number v) s (tails (l ∷ [])) (groups_of l) o.place (length (number o.value)) end e,
        )

from-begin : (ts : List Token) (s : List ℕ) → tokens s ≡ ts → run begin ts ≡ refused DEEP → OpensAhead s
from-begin [] s q e = let z : ◌≡◌ {A = ℕ} 0 1 = cc in absurd (omega arith)
from-begin (bad ∷ ts) s q e = absurd (not_deep ts e)
from-begin (num v j ∷ ts) s q e = go (eqb (v % 2) 0) refl e
  where
    g : Begins s v j ts
    g = number_back s v j ts q

    go : (x : Bool) → eqb (v % 2) 0 ≡ x → run (cond x (refused GROUPS) (closing (v / 2 ∷ []) j)) ts ≡ refused DEEP
        → OpensAhead s
    go true p r = absurd (not_deep ts r)
    go false p r =
        subst OpensAhead (sym g.parts)
        (whole v g.rest (omega (arith, eqb-false (v % 2) 0 p)) g.small
        (unwound ts g.rest j (back ts g.rest g.behind j) (v / 2 ∷ []) (omega arith) r))

pub deep_back : (s : List ℕ) → run begin (tokens s) ≡ refused DEEP → OpensAhead s
deep_back s e = from-begin (tokens s) s refl e
