-- The numbers of a list have the bytes of its groups, and are judged by them one after another.
use Rattle.std.specs.Prelude.{ℕ, ◌+◌, ◌-◌, ◌≤◌, ◌<◌, ◌≡◌, refl, List, [], ◌∷◌, ◌++◌, true, ltb, length}
use Rattle.std.proofs.Common.{sym, ap, ◌∙◌, append_assoc, append-nil, arith, length-append, le-ltb, ltb-false}
use Rattle.answers.specs.Answers.{DONE, DEEP, OUTPUT}
use Rattle.groups.specs.Groups.{number, atom_number, list_number, elements, groups_of}
use Rattle.groups.specs.Writing.{Item, items_at, items, too_deep, judged}
use Rattle.grouping.specs.Items.{bytes_in, Shallow}
use Rattle.lists.specs.Lst.{Lst, nil, atom, list}
use Rattle.text.specs.Laws.TextLaws.{by_case}

pub bytes-append : (a b : List Item) → bytes_in (a ++ b) ≡ bytes_in a ++ bytes_in b
unfolding bytes_in
bytes-append [] b = refl
bytes-append (i ∷ a) b =
    ap (λ (t : List ℕ). number i.value ++ t) (bytes-append a b) ∙ sym (append_assoc (number i.value) (bytes_in a) (bytes_in b))

pub bytes_one : (i : Item) → bytes_in (i ∷ []) ≡ number i.value
unfolding bytes_in
bytes_one i = append-nil (number i.value)

pub bytes-elements : (l : Lst) (d : ℕ) → bytes_in (items_at d l) ≡ elements l
unfolding bytes_in items_at elements
bytes-elements nil d = refl
bytes-elements (atom v l) d = ap (λ (t : List ℕ). number (atom_number v) ++ t) (bytes-elements l d)
bytes-elements (list e l) d =
    ap (λ (t : List ℕ). number (list_number e) ++ t)
    (bytes-append (items_at (d + 1) e) (items_at d l) ∙ ap (λ (t : List ℕ). t ++ bytes_in (items_at d l)) (bytes-elements e (d + 1))
    ∙ ap (λ (t : List ℕ). elements e ++ t) (bytes-elements l d))

pub bytes-groups : (l : Lst) → bytes_in (items l) ≡ groups_of l
unfolding bytes_in
bytes-groups l = ap (λ (t : List ℕ). number (list_number l) ++ t) (bytes-elements l 1)

-- numbers that fit are passed, and where they do not fit, the answer is OUTPUT
pub judged_front : (is t : List Item) (u : ℕ) → Shallow is → length (bytes_in is) ≤ u
    → judged u (is ++ t) ≡ judged (u - length (bytes_in is)) t
unfolding bytes_in judged
judged_front [] t u s h = let z : u - 0 ≡ u = omega arith in ap (λ (k : ℕ). judged k t) (sym z)
judged_front (i ∷ is) t u s h =
    let n : ℕ = length (number i.value) in
    let both = length-append (number i.value) (bytes_in is) in
    let k : u - n - length (bytes_in is) ≡ u - length (number i.value ++ bytes_in is) = omega arith in
    rw (s.0, le-ltb u n (omega arith))
    (judged_front is t (u - n) s.1 (omega arith) ∙ ap (λ (j : ℕ). judged j t) k)

pub judged-over : (is t : List Item) (u : ℕ) → Shallow is → u < length (bytes_in is) → judged u (is ++ t) ≡ OUTPUT
unfolding bytes_in judged
judged-over [] t u s h = absurd (omega arith)
judged-over (i ∷ is) t u s h =
    let n : ℕ = length (number i.value) in
    let both = length-append (number i.value) (bytes_in is) in
    rw s.0
    (by_case (ltb u n) (λ (a : ℕ). a ≡ OUTPUT) (λ e. refl)
    (λ e. judged-over is t (u - n) s.1 (omega (arith, ltb-false u n e))))

pub judged_deep : (i : Item) (t : List Item) (u : ℕ) → too_deep i ≡ true → judged u (i ∷ t) ≡ DEEP
unfolding judged
judged_deep i t u e = rw e

-- what is judged DONE fits
judged_fits : (is : List Item) (u : ℕ) → judged u is ≡ DONE → length (bytes_in is) ≤ u
unfolding bytes_in judged
judged_fits [] u e = omega arith
judged_fits (i ∷ is) u e =
    let n : ℕ = length (number i.value) in
    let both = length-append (number i.value) (bytes_in is) in
    by_case (too_deep i) (λ (a : ℕ). a ≡ DONE → length (number i.value ++ bytes_in is) ≤ u)
    (λ f z. absurd (omega arith))
    (λ f. by_case (ltb u n) (λ (a : ℕ). a ≡ DONE → length (number i.value ++ bytes_in is) ≤ u)
    (λ g z. absurd (omega arith))
    (λ g z. omega (arith, judged_fits is (u - n) z, ltb-false u n g)))
    e

pub groups_fit : (l : Lst) (u : ℕ) → judged u (items l) ≡ DONE → length (groups_of l) ≤ u
groups_fit l u e = omega (arith, judged_fits (items l) u e, ap length (bytes-groups l))
