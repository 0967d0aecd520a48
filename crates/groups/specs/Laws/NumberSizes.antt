-- How many groups a number takes: one to five, one more for each seven bits.
use Rattle.std.specs.Prelude.{ℕ, zero, suc, ◌+◌, ◌/◌, ◌<◌, ◌≤◌, ◌≡◌, refl, List, length, ltb}
use Rattle.std.proofs.Common.{arith, lt-ltb, le-ltb}
use Rattle.text.specs.Laws.TextLaws.{by_case}
use Rattle.groups.specs.Groups.{groups_f, number}

size-most : (f v : ℕ) → (1 ≤ length (groups_f f v)) × (length (groups_f f v) ≤ f + 1)
unfolding groups_f
size-most zero v = (omega arith, omega arith)
size-most (suc f) v =
    by_case (ltb v 128) (λ (gs : List ℕ). (1 ≤ length gs) × (length gs ≤ suc f + 1)) (λ e. (omega arith, omega arith))
    (λ e. (omega arith, omega (arith, (size-most f (v / 128)).1)))

pub number_size : (v : ℕ) → (1 ≤ length (number v)) × (length (number v) ≤ 5)
unfolding number
number_size v = size-most 4 v

-- one group more for each seven bits
size-one : (f v : ℕ) → v < 128 → length (groups_f (suc f) v) ≡ 1
unfolding groups_f
size-one f v h = rw (lt-ltb v 128 h) refl

size_above : (f v : ℕ) → 128 ≤ v → length (groups_f (suc f) v) ≡ suc (length (groups_f f (v / 128)))
unfolding groups_f
size_above f v h = rw (le-ltb v 128 h) refl

pub one_group : (v : ℕ) → v < 128 → length (number v) ≡ 1
unfolding number
one_group v h = size-one 3 v h

pub two-groups : (v : ℕ) → 128 ≤ v → v < 16384 → length (number v) ≡ 2
unfolding number
two-groups v l h = omega (arith, size_above 3 v l, size-one 2 (v / 128) (omega arith))

pub three-groups : (v : ℕ) → 16384 ≤ v → v < 2097152 → length (number v) ≡ 3
unfolding number
three-groups v l h =
    omega (
      arith,
      size_above 3 v (omega arith),
      size_above 2 (v / 128) (omega arith),
      size-one 1 (v / 128 / 128) (omega arith),
    )

pub four-groups : (v : ℕ) → 2097152 ≤ v → v < 268435456 → length (number v) ≡ 4
unfolding number
four-groups v l h =
    omega (
      arith,
      size_above 3 v (omega arith),
      size_above 2 (v / 128) (omega arith),
      size_above 1 (v / 128 / 128) (omega arith),
      size-one 0 (v / 128 / 128 / 128) (omega arith),
    )

pub five_groups : (v : ℕ) → 268435456 ≤ v → length (number v) ≡ 5
unfolding number groups_f
five_groups v l =
    omega (
      arith,
      size_above 3 v (omega arith),
      size_above 2 (v / 128) (omega arith),
      size_above 1 (v / 128 / 128) (omega arith),
      size_above 0 (v / 128 / 128 / 128) (omega arith),
    )
