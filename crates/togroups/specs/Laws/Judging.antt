-- A list that is nowhere too deep is judged by the bytes of its groups alone. By induction on the list.
use Rattle.std.specs.Prelude.{ℕ, ◌+◌, ◌-◌, ◌*◌, ◌%◌, ◌<◌, ◌≤◌, ◌≡◌, refl, Bool, true, false, cond, ◌&&◌, List, [], ◌∷◌, ◌++◌, eqb, leb, ltb, length}
use Rattle.std.proofs.Common.{sym, ap, ◌∙◌, append_assoc, append-nil, arith, length-append, ltb-true, ltb-false, leb-true, leb-false, le-leb}
use Rattle.std.proofs.lemmas.Bool.{lt-leb}
use Rattle.answers.specs.Answers.{DONE, OUTPUT}
use Rattle.groups.specs.Groups.{number, atom_number, list_number, elements, groups_of}
use Rattle.groups.specs.Writing.{Item, item, items_at, items, too_deep, judged}
use Rattle.lists.specs.Lst.{Lst, nil, atom, list, order}
use Rattle.text.specs.Limits.{levels}
use Rattle.text.specs.Laws.TextLaws.{decide}

-- n bytes of u, and what is judged behind them
abbrev spent : ℕ → (ℕ → ℕ) → ℕ → ℕ
spent n then u = cond (leb n u) (then (u - n)) OUTPUT

spent-both : (n m : ℕ) (then : ℕ → ℕ) (u : ℕ) → spent n (spent m then) u ≡ spent (n + m) then u
spent-both n m then u =
    decide (leb n u) (spent n (spent m then) u ≡ spent (n + m) then u)
    (λ e. let h = leb-true n u e in
    decide (leb m (u - n)) (spent n (spent m then) u ≡ spent (n + m) then u)
    (λ d. let j : u - n - m ≡ u - (n + m) = omega arith in
    rw (e, d, le-leb (n + m) u (omega (arith, leb-true m (u - n) d))) (ap then j))
    (λ d. rw (e, d, lt-leb (n + m) u (omega (arith, leb-false m (u - n) d)))))
    (λ e. rw (e, lt-leb (n + m) u (omega (arith, leb-false n u e))))

-- a number that opens no level too many
not_deep : (i : Item) → too_deep i ≡ false → (u : ℕ) (is : List Item) → judged u (i ∷ is) ≡ spent (length (number i.value)) (λ k. judged k is) u
unfolding judged
not_deep i z u is =
    let k = length (number i.value) in
    decide (ltb u k) (judged u (i ∷ is) ≡ spent k (λ j. judged j is) u)
    (λ e. rw (z, e, lt-leb k u (ltb-true u k e)))
    (λ e. rw (z, e, le-leb k u (ltb-false u k e)))

even : (v d : ℕ) → too_deep (item (atom_number v) d) ≡ false
even v d = let z : 2 * v % 2 ≡ 0 = omega arith in rw z

above : (v d : ℕ) → d < levels → too_deep (item v d) ≡ false
above v d h = go (eqb (v % 2) 1)
  where
    go : (b : Bool) → (b && leb levels d) ≡ false
    go true = lt-leb levels d h
    go false = refl

pub some_order : (l : Lst) → 1 ≤ order l
unfolding order
some_order nil = omega arith
some_order (atom v l) = some_order l
some_order (list m l) = omega (arith, some_order l)

-- the elements of a list on level d, before other numbers
judges : (l : Lst) (d : ℕ) (is : List Item) (u : ℕ) → d + order l ≤ levels + 1 → judged u (items_at d l ++ is) ≡ spent (length (elements l)) (λ k. judged k is) u
unfolding items_at elements order
judges nil d is u h = let z : u - 0 ≡ u = omega arith in rw (le-leb 0 u (omega arith), z)
judges (atom v l) d is u h =
    let n = length (number (atom_number v)) in
    not_deep (item (atom_number v) d) (even v d) u (items_at d l ++ is)
    ∙ ap (λ (f : ℕ → ℕ). spent n f u) (λ i k. judges l d is k h i)
    ∙ spent-both n (length (elements l)) (λ k. judged k is) u
    ∙ ap (λ (j : ℕ). spent j (λ k. judged k is) u) (sym (length-append (number (atom_number v)) (elements l)))
judges (list m l) d is u h =
    let n = length (number (list_number m)) in
    let then : ℕ → ℕ = λ k. judged k is in
    let size : length (number (list_number m) ++ (elements m ++ elements l)) ≡ n + length (elements m) + length (elements l)
    = omega (arith, length-append (number (list_number m)) (elements m ++ elements l), length-append (elements m) (elements l)) in
    not_deep (item (list_number m) d) (above (list_number m) d (omega (arith, some_order m))) u ((items_at (d + 1) m ++ items_at d l) ++ is)
    ∙ ap (λ (js : List Item). spent n (λ k. judged k js) u) (append_assoc (items_at (d + 1) m) (items_at d l) is)
    ∙ ap (λ (f : ℕ → ℕ). spent n f u) (λ i k. judges m (d + 1) (items_at d l ++ is) k (omega arith) i)
    ∙ ap (λ (f : ℕ → ℕ). spent n (spent (length (elements m)) f) u) (λ i k. judges l d is k (omega arith) i)
    ∙ spent-both n (length (elements m)) (spent (length (elements l)) then) u
    ∙ spent-both (n + length (elements m)) (length (elements l)) then u
    ∙ ap (λ (j : ℕ). spent j then u) (sym size)

pub judged-size : (l : Lst) (u : ℕ) → order l ≤ levels → judged u (items l) ≡ cond (leb (length (groups_of l)) u) DONE OUTPUT
unfolding judged
judged-size l u h =
    let n = length (number (list_number l)) in
    not_deep (item (list_number l) 0) (above (list_number l) 0 (omega arith)) u (items_at 1 l)
    ∙ ap (λ (is : List Item). spent n (λ k. judged k is) u) (sym (append-nil (items_at 1 l)))
    ∙ ap (λ (f : ℕ → ℕ). spent n f u) (λ i k. judges l 1 [] k (omega arith) i)
    ∙ spent-both n (length (elements l)) (λ k. judged k []) u
    ∙ ap (λ (j : ℕ). cond (leb j u) DONE OUTPUT) (sym (length-append (number (list_number l)) (elements l)))
