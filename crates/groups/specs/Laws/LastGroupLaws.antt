-- A list's groups have one last group for each of its numbers: one more than its extent. By induction on the list.
use Rattle.std.specs.Prelude.{ℕ, zero, suc, ◌+◌, ◌/◌, ◌%◌, ◌<◌, ◌≤◌, ◌≡◌, refl, List, [], ◌∷◌, ◌++◌, ltb}
use Rattle.std.proofs.Common.{◌∙◌, arith, lt-ltb, le-ltb, ltb-true, ltb-false}
use Rattle.lists.specs.Lst.{Lst, nil, atom, list, extent}
use Rattle.text.specs.Laws.TextLaws.{by_case, decide}
use Rattle.groups.specs.Groups.{numbers_end, groups_f, number, atom_number, list_number, elements, groups_of, Fit, Fits}
use Rattle.groups.specs.LastGroups.{last_groups}
use Rattle.groups.specs.Laws.NumberLaws.{Under, under}

pub last-here : (b : ℕ) (s : List ℕ) → b < 128 → last_groups (b ∷ s) ≡ suc (last_groups s)
unfolding last_groups
last-here b s h = rw (lt-ltb b 128 h) refl

pub last_not : (b : ℕ) (s : List ℕ) → 128 ≤ b → last_groups (b ∷ s) ≡ last_groups s
unfolding last_groups
last_not b s h = rw (le-ltb b 128 h) refl

pub last-append : (a b : List ℕ) → last_groups (a ++ b) ≡ last_groups a + last_groups b
unfolding last_groups
last-append [] b = omega arith
last-append (x ∷ a) b =
    decide (ltb x 128) (last_groups ((x ∷ a) ++ b) ≡ last_groups (x ∷ a) + last_groups b)
    (λ e.
    let h = ltb-true x 128 e in omega (arith, last-here x (a ++ b) h, last-here x a h, last-append a b))
    (λ e. let h = ltb-false x 128 e in omega (arith, last_not x (a ++ b) h, last_not x a h, last-append a b))

-- of a number's groups the last alone is below 128
last_of : (f v : ℕ) → Under f v → last_groups (groups_f f v) ≡ 1
unfolding groups_f last_groups
last_of zero v u = last-here v [] u
last_of (suc f) v u =
    by_case (ltb v 128) (λ (gs : List ℕ). last_groups gs ≡ 1) (λ e. last-here v [] (ltb-true v 128 e))
    (λ e. last_not (128 + v % 128) (groups_f f (v / 128)) (omega arith) ∙ last_of f (v / 128) u)

pub last-number : (v : ℕ) → v < numbers_end → last_groups (number v) ≡ 1
unfolding number
last-number v h = last_of 4 v (under v h)

pub last-elements : (l : Lst) → Fit l → last_groups (elements l) ≡ extent l
unfolding elements extent Fit last_groups
last-elements nil f = refl
last-elements (atom v l) f =
    omega (
      arith,
      last-append (number (atom_number v)) (elements l),
      last-number (atom_number v) f.0,
      last-elements l f.1,
    )
last-elements (list e l) f =
    omega (
      arith,
      last-append (number (list_number e)) (elements e ++ elements l),
      last-append (elements e) (elements l),
      last-number (list_number e) f.0,
      last-elements e f.1,
      last-elements l f.2,
    )

-- the list's own number has no cell
pub last-groups : (l : Lst) → Fits l → last_groups (groups_of l) ≡ extent l + 1
last-groups l f =
    omega (
      arith,
      last-append (number (list_number l)) (elements l),
      last-number (list_number l) f.0,
      last-elements l f.1,
    )
