-- The groups of a list take no more bytes than its text. By induction on the list: each number against the characters
-- of its element, that of a list against its "(", its ")" and its commas.
use Rattle.std.specs.Prelude.{ℕ, zero, suc, ◌+◌, ◌*◌, ◌/◌, ◌%◌, ◌≤◌, true, false, List, [], ◌∷◌, ◌++◌, ltb, length}
use Rattle.std.proofs.Common.{arith, length-append, ltb-true, ltb-false}
use Rattle.groups.specs.Groups.{number, atom_number, list_number, elements, groups_of}
use Rattle.groups.specs.Laws.Sizes.{number_size, one_group, two-groups}
use Rattle.lists.specs.Lst.{Lst, nil, atom, list, len}
use Rattle.text.specs.ListText.{octal_f, octal, items, text_of}
use Rattle.text.specs.Laws.TextLaws.{by_case, decide}

-- digits of a number: at least one, and one more for each three bits
some_digits : (f v : ℕ) → 1 ≤ length (octal_f f v)
some_digits zero v = omega arith
some_digits (suc f) v =
    by_case (ltb v 8) (λ (t : List ℕ). 1 ≤ length t) (λ e. omega arith)
    (λ e. omega (arith, length-append (octal_f f (v / 8)) ((48 + v % 8) ∷ [])))

more-digits : (f v k : ℕ) → 8 ≤ v → k ≤ length (octal_f f (v / 8)) → k + 1 ≤ length (octal_f (suc f) v)
more-digits f v k l h =
    by_case (ltb v 8) (λ (t : List ℕ). k + 1 ≤ length t)
    (λ e. absurd (omega (arith, ltb-true v 8 e)))
    (λ e. omega (arith, length-append (octal_f f (v / 8)) ((48 + v % 8) ∷ [])))

two_digits : (v : ℕ) → 64 ≤ v → 2 ≤ length (octal v)
two_digits v l = more-digits 9 v 1 (omega arith) (some_digits 9 (v / 8))

five_digits : (v : ℕ) → 4096 ≤ v → 5 ≤ length (octal v)
five_digits v l =
    more-digits 9 v 4 (omega arith)
    (more-digits 8 (v / 8) 3 (omega arith)
    (more-digits 7 (v / 8 / 8) 2 (omega arith)
    (more-digits 6 (v / 8 / 8 / 8) 1 (omega arith) (some_digits 6 (v / 8 / 8 / 8 / 8)))))

atom_fits : (v : ℕ) → length (number (atom_number v)) ≤ length (octal v)
atom_fits v =
    decide (ltb v 64) (length (number (atom_number v)) ≤ length (octal v))
    (λ e. omega (arith, one_group (2 * v) (omega (arith, ltb-true v 64 e)), some_digits 10 v))
    (λ e. decide (ltb v 4096) (length (number (atom_number v)) ≤ length (octal v))
    (λ d. omega (arith, two-groups (2 * v) (omega (arith, ltb-false v 64 e)) (omega (arith, ltb-true v 4096 d)), two_digits v (ltb-false v 64 e)))
    (λ d. omega (arith, number_size (2 * v), five_digits v (ltb-false v 4096 d))))

-- a list of n elements, with its "(" and the n commas or n - 1 and a ")"
list_fits : (n : ℕ) → length (number (2 * n + 1)) ≤ n + 1
list_fits n =
    decide (ltb n 64) (length (number (2 * n + 1)) ≤ n + 1)
    (λ e. omega (arith, one_group (2 * n + 1) (omega (arith, ltb-true n 64 e))))
    (λ e. omega (arith, number_size (2 * n + 1), ltb-false n 64 e))

abbrev RestFits : Lst → Type 0
RestFits l = length (elements l) + len l + 1 ≤ length (items false l)

abbrev WholeFits : Lst → Type 0
WholeFits l = length (number (list_number l)) + length (elements l) ≤ length (items true l)

-- the first element has "(" for its comma
whole_fits : (l : Lst) → RestFits l → WholeFits l
unfolding elements len
whole_fits nil r = omega (arith, list_fits 0)
whole_fits (atom v l) r = omega (arith, list_fits (len (atom v l)))
whole_fits (list m l) r = omega (arith, list_fits (len (list m l)))

rest_fits : (l : Lst) → RestFits l
unfolding elements len
rest_fits nil = omega arith
rest_fits (atom v l) =
    omega (arith, atom_fits v, rest_fits l, length-append (number (atom_number v)) (elements l), length-append (octal v) (items false l))
rest_fits (list m l) =
    omega (
      arith,
      whole_fits m (rest_fits m),
      rest_fits l,
      length-append (number (list_number m)) (elements m ++ elements l),
      length-append (elements m) (elements l),
      length-append (items true m) (items false l),
    )

pub no_longer : (l : Lst) → length (groups_of l) ≤ length (text_of l)
no_longer l = omega (arith, whole_fits l (rest_fits l), length-append (number (list_number l)) (elements l))
