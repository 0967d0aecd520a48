-- The groups of a list's elements: the number of the first, and what follows it.
use Rattle.std.specs.Prelude.{ℕ, ◌+◌, ◌≡◌, refl, List, ◌++◌, length}
use Rattle.std.proofs.Common.{ap, ◌∙◌, append_assoc, arith, length-append}
use Rattle.lists.specs.Lst.{Lst, nil, atom, list}
use Rattle.groups.specs.Groups.{number, atom_number, list_number, elements}

pub nil_parts : (later : List ℕ) → elements nil ++ later ≡ later
unfolding elements
nil_parts later = refl

pub atom_parts : (v : ℕ) (l : Lst) (later : List ℕ)
    → elements (atom v l) ++ later ≡ number (atom_number v) ++ (elements l ++ later)
unfolding elements
atom_parts v l later = append_assoc (number (atom_number v)) (elements l) later

pub list_parts : (e l : Lst) (later : List ℕ)
    → elements (list e l) ++ later ≡ number (list_number e) ++ (elements e ++ (elements l ++ later))
unfolding elements
list_parts e l later =
    append_assoc (number (list_number e)) (elements e ++ elements l) later
    ∙ ap (λ (t : List ℕ). number (list_number e) ++ t) (append_assoc (elements e) (elements l) later)

pub atom-length : (v : ℕ) (l : Lst)
    → length (elements (atom v l)) ≡ length (number (atom_number v)) + length (elements l)
unfolding elements
atom-length v l = length-append (number (atom_number v)) (elements l)

pub list_length : (e l : Lst)
    → length (elements (list e l)) ≡ length (number (list_number e)) + (length (elements e) + length (elements l))
unfolding elements
list_length e l =
    omega (
      arith,
      length-append (number (list_number e)) (elements e ++ elements l),
      length-append (elements e) (elements l),
    )
