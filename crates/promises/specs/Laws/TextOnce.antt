-- A text spells one list: the records of the first list end at one place, and two lists with one text are equal. By induction on both
-- lists, from any characters behind them: after "(" or "," the next character tells an atom from a list and from the end.
use Rattle.std.specs.Prelude.{◌≡◌, refl, Bool, true, false, cond, List, [], ◌∷◌, ◌++◌, ℕ, zero, suc, ◌+◌, ◌-◌, ◌*◌, ◌/◌, ◌%◌, ◌≤◌, ◌<◌, eqb, leb, ltb, length, take}
use Rattle.std.proofs.Common.{sym, ap, ◌∙◌, subst, append_assoc, arith, ne_eqb, le-leb}
use Rattle.std.proofs.Math.Decide.{dec_lt}
use Rattle.answers.specs.Answers.{DONE}
use Rattle.lists.specs.Lst.{Lst, nil, atom, list}
use Rattle.text.specs.ListText.{octal_f, octal, lead, items, text_of, bare}
use Rattle.text.specs.Marks.{list_in}
use Rattle.text.specs.Text.{verdict}
use Rattle.text.specs.Laws.TextLaws.{by_case}
use Rattle.text.specs.Laws.Accepted.{taken-answer, accepted}
use Rattle.promises.specs.TextGrounds.{TakesRecords, Spells}
use Rattle.promises.specs.Laws.TextEnds.{records, plain_records}
use Rattle.promises.specs.Laws.TextRows.{check_takes}

-- one place

-- the shorter of two beginnings goes on in the longer
goes_on_lem : (xs : List ℕ) (m n : ℕ) → m < n → n ≤ length xs → (c : ℕ) × (ys : List ℕ) × (take n xs ≡ take m xs ++ (c ∷ ys))
goes_on_lem [] m n h l = absurd (omega arith)
goes_on_lem (x ∷ xs) m zero h l = absurd (omega arith)
goes_on_lem (x ∷ xs) zero (suc n) h l = (x, take n xs, refl)
goes_on_lem (x ∷ xs) (suc m) (suc n) h l = let (c, ys, e) = goes_on_lem xs m n (omega arith) (omega arith) in (c, ys, ap (λ (zs : List ℕ). x ∷ zs) e)

not_sooner : (xs : List ℕ) (m n : ℕ) → TakesRecords xs m → TakesRecords xs n → m < n → ⊥
not_sooner xs m n a b h = let (c, ys, e) = goes_on_lem xs m n h b.0 in (b.1 (take m xs) c ys e).1 a.2

pub takes_once : (xs : List ℕ) (m n : ℕ) → TakesRecords xs m → TakesRecords xs n → m ≡ n
takes_once xs m n a b = go (dec_lt m n) (dec_lt n m)
  where
    go : Dec (m < n) → Dec (n < m) → m ≡ n
    go (yes h) k = absurd (not_sooner xs m n a b h)
    go (no h) (yes k) = absurd (not_sooner xs n m b a k)
    go (no h) (no k) = omega arith

-- the digits of an atom tell its value

abbrev told : ℕ → List ℕ → ℕ
told v [] = v
told v (c ∷ cs) = told (v * 8 + (c - 48)) cs

told-append : (v : ℕ) (xs ys : List ℕ) → told v (xs ++ ys) ≡ told (told v xs) ys
told-append v [] ys = refl
told-append v (c ∷ cs) ys = told-append (v * 8 + (c - 48)) cs ys

told-octal : (f v : ℕ) → told 0 (octal_f f v) ≡ v
told-octal zero v = omega arith
told-octal (suc f) v =
    by_case (ltb v 8) (λ (ds : List ℕ). told 0 ds ≡ v) (λ e. omega arith)
    (λ e. told-append 0 (octal_f f (v / 8)) ((48 + v % 8) ∷ []) ∙ ap (λ (w : ℕ). w * 8 + (48 + v % 8 - 48)) (told-octal f (v / 8)) ∙ omega arith)

-- and are parted from what stands behind them

abbrev head_of : List ℕ → ℕ
head_of [] = 0
head_of (c ∷ cs) = c

abbrev the_tail : List ℕ → List ℕ
the_tail [] = []
the_tail (c ∷ cs) = cs

abbrev High : List ℕ → Type 0
High [] = Unit {0}
High (c ∷ cs) = (48 ≤ c) × High cs

high_append : (xs ys : List ℕ) → High xs → High ys → High (xs ++ ys)
high_append [] ys h k = k
high_append (c ∷ cs) ys h k = (h.0, high_append cs ys h.1 k)

high_octal : (f v : ℕ) → High (octal_f f v)
high_octal zero v = (omega arith, tt)
high_octal (suc f) v = by_case (ltb v 8) High (λ e. (omega arith, tt))
    (λ e. high_append (octal_f f (v / 8)) ((48 + v % 8) ∷ []) (high_octal f (v / 8)) (omega arith, tt))

octal-head : (f v : ℕ) (s : List ℕ) → 48 ≤ head_of (octal_f f v ++ s)
octal-head zero v s = omega arith
octal-head (suc f) v s =
    by_case (ltb v 8) (λ (ds : List ℕ). 48 ≤ head_of (ds ++ s)) (λ e. omega arith)
    (λ e. subst (λ (ds : List ℕ). 48 ≤ head_of ds) (sym (append_assoc (octal_f f (v / 8)) ((48 + v % 8) ∷ []) s))
    (octal-head f (v / 8) (((48 + v % 8) ∷ []) ++ s)))

parted : (a b s u : List ℕ) → High a → High b → head_of s < 48 → head_of u < 48 → a ++ s ≡ b ++ u → (a ≡ b) × (s ≡ u)
parted [] [] s u h k x y e = (refl, e)
parted [] (c ∷ b) s u h k x y e = absurd (omega (arith, ap head_of e, k.0))
parted (c ∷ a) [] s u h k x y e = absurd (omega (arith, ap head_of e, h.0))
parted (c ∷ a) (d ∷ b) s u h k x y e =
    let (r, z) = parted a b s u h.1 k.1 x y (ap the_tail e) in
    let q : c ≡ d = ap head_of e in
    (cc (q, r), z)

-- what begins there: 0 for no element, 1 for an atom, 2 for a list
abbrev sorted : ℕ → ℕ
sorted c = cond (eqb c 41) 0 (cond (leb 48 c) 1 2)

abbrev sort : Bool → List ℕ → ℕ
sort true t = sorted (head_of (the_tail t))
sort false t = cond (eqb (head_of t) 41) 0 (sorted (head_of (the_tail t)))

open_head : (l : Lst) (s : List ℕ) → head_of (items true l ++ s) ≡ 40
open_head nil s = refl
open_head (atom v l) s = refl
open_head (list m l) s = refl

later-head : (l : Lst) (s : List ℕ) → head_of (items false l ++ s) < 48
later-head nil s = omega arith
later-head (atom v l) s = omega arith
later-head (list m l) s = omega arith

sort-nil : (f : Bool) (s : List ℕ) → sort f (items f nil ++ s) ≡ 0
sort-nil true s = refl
sort-nil false s = refl

sort-more : (f : Bool) (t : List ℕ) → sort f (lead f ∷ t) ≡ sorted (head_of t)
sort-more true t = refl
sort-more false t = refl

sort-atom : (f : Bool) (v : ℕ) (l : Lst) (s : List ℕ) → sort f (items f (atom v l) ++ s) ≡ 1
sort-atom f v l s =
    let h = subst (λ (ds : List ℕ). 48 ≤ head_of ds) (sym (append_assoc (octal v) (items false l) s)) (octal-head 10 v (items false l ++ s)) in
    sort-more f ((octal v ++ items false l) ++ s) ∙ high (head_of ((octal v ++ items false l) ++ s)) h
  where
    high : (c : ℕ) → 48 ≤ c → sorted c ≡ 1
    high c h = rw (ne_eqb c 41 (λ e. omega arith), le-leb 48 c h)

sort_list : (f : Bool) (m l : Lst) (s : List ℕ) → sort f (items f (list m l) ++ s) ≡ 2
sort_list f m l s =
    sort-more f ((items true m ++ items false l) ++ s)
    ∙ ap (λ (ds : List ℕ). sorted (head_of ds)) (append_assoc (items true m) (items false l) s) ∙ ap sorted (open_head m (items false l ++ s))

other-sort : {A : Type 0} (f : Bool) (a b : ℕ) (t u : List ℕ) → sort f t ≡ a → sort f u ≡ b → (a ≡ b → ⊥) → t ≡ u → A
other-sort f a b t u x y n e = absurd (n (sym x ∙ ap (sort f) e ∙ y))

-- one list
spelt : (l k : Lst) (f : Bool) (s u : List ℕ) → items f l ++ s ≡ items f k ++ u → (l ≡ k) × (s ≡ u)
spelt nil nil true s u e = (refl, ap (λ (t : List ℕ). the_tail (the_tail t)) e)
spelt nil nil false s u e = (refl, ap the_tail e)
spelt nil (atom w k) f s u e = other-sort f 0 1 _ _ (sort-nil f s) (sort-atom f w k u) (λ z. omega arith) e
spelt nil (list m k) f s u e = other-sort f 0 2 _ _ (sort-nil f s) (sort_list f m k u) (λ z. omega arith) e
spelt (atom v l) nil f s u e = other-sort f 1 0 _ _ (sort-atom f v l s) (sort-nil f u) (λ z. omega arith) e
spelt (atom v l) (atom w k) f s u e =
    let t : octal v ++ (items false l ++ s) ≡ octal w ++ (items false k ++ u)
    = sym (append_assoc (octal v) (items false l) s) ∙ ap the_tail e ∙ append_assoc (octal w) (items false k) u in
    let (d, r) = parted (octal v) (octal w) (items false l ++ s) (items false k ++ u) (high_octal 10 v) (high_octal 10 w) (later-head l s) (later-head k u) t in
    let q : v ≡ w = sym (told-octal 10 v) ∙ ap (told 0) d ∙ told-octal 10 w in
    let (h, z) = spelt l k false s u r in
    (λ i. atom (q i) (h i), z)
spelt (atom v l) (list m k) f s u e = other-sort f 1 2 _ _ (sort-atom f v l s) (sort_list f m k u) (λ z. omega arith) e
spelt (list n l) nil f s u e = other-sort f 2 0 _ _ (sort_list f n l s) (sort-nil f u) (λ z. omega arith) e
spelt (list n l) (atom w k) f s u e = other-sort f 2 1 _ _ (sort_list f n l s) (sort-atom f w k u) (λ z. omega arith) e
spelt (list n l) (list m k) f s u e =
    let t : items true n ++ (items false l ++ s) ≡ items true m ++ (items false k ++ u)
    = sym (append_assoc (items true n) (items false l) s) ∙ ap the_tail e ∙ append_assoc (items true m) (items false k) u in
    let (d, r) = spelt n m true (items false l ++ s) (items false k ++ u) t in
    let (h, z) = spelt l k false s u r in
    (λ i. list (d i) (h i), z)

pub one-text : (l k : Lst) → text_of l ≡ text_of k → l ≡ k
one-text l k e = (spelt l k true [] [] (ap (λ (t : List ℕ). t ++ []) e)).0

pub spells_once : (xs : List ℕ) (m n : ℕ) (l k : Lst) → Spells xs m l → Spells xs n k → (m ≡ n) × (l ≡ k)
spells_once xs m n l k (a, (t, r, e)) (b, (u, s, g)) =
    let q = takes_once xs m n a b in
    (q, one-text l k (e ∙ sym (plain_records xs m t r) ∙ ap (λ (j : ℕ). bare false (take j xs)) q ∙ plain_records xs n u s ∙ sym g))

-- a text that the check takes spells the list that is read from it
pub spells_ours : (xs : List ℕ) → (verdict xs).no ≡ DONE → Spells xs (verdict xs).taken (list_in xs)
spells_ours xs e =
    let m = (verdict xs).taken in
    let right = taken-answer (verdict xs) e in
    let (t, r) = records xs m right in
    (check_takes xs e, (t, r, (accepted xs m right).1 ∙ plain_records xs m t r))
