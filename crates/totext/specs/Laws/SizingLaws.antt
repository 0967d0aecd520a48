-- The characters of a list's numbers are those of its text, and one more: by induction on the list.
use Rattle.std.specs.Prelude.{ℕ, zero, suc, ◌+◌, ◌*◌, ◌/◌, ◌%◌, ◌<◌, ◌≡◌, refl, List, [], ◌∷◌, ◌++◌, ◌≢◌, true, false, length}
use Rattle.std.proofs.Common.{sym, ap, ◌∙◌, append_assoc, arith, length-append, eq-eqb, ne_eqb}
use Rattle.lists.specs.Lst.{Lst, nil, atom, list, len}
use Rattle.groups.specs.Groups.{number, elements, groups_of, atom_number, list_number, Fit, Fits}
use Rattle.text.specs.ListText.{octal, items, text_of}
use Rattle.octal.specs.Numeral.{numeral}
use Rattle.octal.specs.Laws.NumeralLaws.{one-digit}
use Rattle.totext.specs.Sizing.{inside, numbers_of, groups_of_all, Below, chars, chars_of_all}

chars-append : (vs us : List ℕ) → chars_of_all (vs ++ us) ≡ chars_of_all vs + chars_of_all us
unfolding chars_of_all
chars-append [] us = omega arith
chars-append (v ∷ vs) us = omega (arith, chars-append vs us)

-- what a number brings, as the code finds it
module _ (v : ℕ) where
  pub chars_even : (n : ℕ) → v % 2 ≡ 0 → n ≡ length (numeral (v / 2)) → n + 1 ≡ chars v
  chars_even n e q = rw (eq-eqb (v % 2) 0 e) (ap (λ (k : ℕ). k + 1) q)

  pub chars-digit : v % 2 ≡ 0 → v < 16 → 2 ≡ chars v
  chars-digit e l = let q = ap length (one-digit (v / 2) (omega arith)) in rw (eq-eqb (v % 2) 0 e) (omega arith)

  pub chars-null : v % 2 ≢ 0 → v ≡ 1 → 3 ≡ chars v
  chars-null e q = rw (ne_eqb (v % 2) 0 e, eq-eqb v 1 q) refl

  pub chars_list : v % 2 ≢ 0 → v ≢ 1 → 2 ≡ chars v
  chars_list e q = rw (ne_eqb (v % 2) 0 e, ne_eqb v 1 q) refl

-- what a number of a list brings
chars-atom : (v : ℕ) → chars (atom_number v) ≡ length (numeral v) + 1
chars-atom v =
    let e : 2 * v % 2 ≡ 0 = omega arith in
    let h : 2 * v / 2 ≡ v = omega arith in
    rw (eq-eqb (2 * v % 2) 0 e) (ap (λ (x : ℕ). length (numeral x) + 1) h)

-- a null list has one character more
abbrev null : ℕ → ℕ
null zero = 1
null (suc n) = 0

chars_count : (n : ℕ) → chars (2 * n + 1) ≡ 2 + null n
chars_count zero = refl
chars_count (suc n) =
    let e : (2 * suc n + 1) % 2 ≡ 0 → ⊥ = λ q. omega arith in
    let f : 2 * suc n + 1 ≡ 1 → ⊥ = λ q. omega arith in
    rw (ne_eqb ((2 * suc n + 1) % 2) 0 e, ne_eqb (2 * suc n + 1) 1 f) refl

-- the text from "(" on is longer than the text of elements that follow another, where there are none
opening : (l : Lst) → length (items true l) ≡ length (items false l) + null (len l)
unfolding len
opening nil = refl
opening (atom v l) = omega arith
opening (list m l) = omega arith

following : (l : Lst) → length (items false l) ≡ chars_of_all (inside l) + 1
unfolding chars_of_all inside numeral
following nil = refl
following (atom v l) = omega (arith, length-append (octal v) (items false l), following l, chars-atom v)
following (list e l) =
    omega (
      arith,
      length-append (items true e) (items false l),
      opening e,
      following e,
      following l,
      chars_count (len e),
      chars-append (inside e) (inside l),
    )

pub text-size : (l : Lst) → chars_of_all (numbers_of l) ≡ length (text_of l) + 1
unfolding chars_of_all
text-size l = omega (arith, opening l, following l, chars_count (len l))

-- the groups of a list are those of its numbers
all_append : (vs us : List ℕ) → groups_of_all (vs ++ us) ≡ groups_of_all vs ++ groups_of_all us
all_append [] us = refl
all_append (v ∷ vs) us =
    ap (λ (t : List ℕ). number v ++ t) (all_append vs us) ∙ sym (append_assoc (number v) (groups_of_all vs) (groups_of_all us))

inside-groups : (l : Lst) → elements l ≡ groups_of_all (inside l)
unfolding elements inside
inside-groups nil = refl
inside-groups (atom v l) = ap (λ (t : List ℕ). number (atom_number v) ++ t) (inside-groups l)
inside-groups (list e l) =
    ap (λ (t : List ℕ). number (list_number e) ++ t)
    (ap (λ (t : List ℕ). t ++ elements l) (inside-groups e) ∙ ap (λ (t : List ℕ). groups_of_all (inside e) ++ t) (inside-groups l)
    ∙ sym (all_append (inside e) (inside l)))

pub numbers_groups : (l : Lst) → groups_of l ≡ groups_of_all (numbers_of l)
numbers_groups l = ap (λ (t : List ℕ). number (list_number l) ++ t) (inside-groups l)

below-append : (vs us : List ℕ) → Below vs → Below us → Below (vs ++ us)
below-append [] us p q = q
below-append (v ∷ vs) us p q = (p.0, below-append vs us p.1 q)

inside-below : (l : Lst) → Fit l → Below (inside l)
unfolding Fit inside
inside-below nil f = tt
inside-below (atom v l) f = (f.0, inside-below l f.1)
inside-below (list e l) f = (f.0, below-append (inside e) (inside l) (inside-below e f.1) (inside-below l f.2))

pub numbers_below : (l : Lst) → Fits l → Below (numbers_of l)
numbers_below l f = (f.0, inside-below l f.1)
