-- The groups of a number by its highest bit, as the machine counts the bits above it.
use Rattle.std.specs.Prelude.{ℕ, suc, ◌+◌, ◌-◌, ◌*◌, ◌/◌, ◌^◌, ◌≤◌, ◌<◌, ◌≡◌, refl, Bool, true, false, leb, length}
use Rattle.std.proofs.Common.{arith, pow_mono, leb-true, leb-false}
use Rattle.std.specs.Int.Count.{count_leading_zeros}
use Rattle.std.proofs.lemmas.Nat.{leading_top}
use Rattle.groups.specs.Groups.{numbers_end, number}
use Rattle.groups.specs.Laws.Sizes.{one_group, two-groups, three-groups, four-groups, five_groups}

-- the highest bit of w is bit j: below bit k, or not
split : (j w : ℕ) → 2 ^ j ≤ w → w < 2 ^ suc j → (A : Type 0) (k : ℕ) → (j < k → w < 2 ^ k → A) → (k ≤ j → 2 ^ k ≤ w → A) → A
split j w lo hi A k low high = go (leb k j) refl
  where
    go : (b : Bool) → leb k j ≡ b → A
    go true e =
        let l : k ≤ j = leb-true k j e in
        let p : 2 ^ k ≤ 2 ^ j = pow_mono {i = k} {j = j} l in
        high l (omega arith)
    go false e =
        let l : j < k = leb-false k j e in
        let p : 2 ^ suc j ≤ 2 ^ k = pow_mono {i = suc j} {j = k} l in
        low l (omega arith)

-- of v or of v + 1, whichever is odd
pub groups_by_bit : (v : ℕ) → v < numbers_end → (70 - count_leading_zeros 64 (v / 2 * 2 + 1)) / 7 ≡ length (number v)
groups_by_bit v l = go (leading_top 64 (v / 2 * 2 + 1) (omega arith) (omega arith))
  where
    go : (j : ℕ) × (count_leading_zeros 64 (v / 2 * 2 + 1) + suc j ≡ 64) × (2 ^ j ≤ v / 2 * 2 + 1) × (v / 2 * 2 + 1 < 2 ^ suc j)
        → (70 - count_leading_zeros 64 (v / 2 * 2 + 1)) / 7 ≡ length (number v)
    go (j, e, lo, hi) =
        let by = split j (v / 2 * 2 + 1) lo hi ((70 - count_leading_zeros 64 (v / 2 * 2 + 1)) / 7 ≡ length (number v)) in
        by 7 (λ a b. omega (arith, one_group v (omega arith)))
        (λ a b. by 14 (λ c d. omega (arith, two-groups v (omega arith) (omega arith)))
        (λ c d. by 21 (λ f g. omega (arith, three-groups v (omega arith) (omega arith)))
        (λ f g. by 28 (λ h i. omega (arith, four-groups v (omega arith) (omega arith)))
        (λ h i. by 33 (λ m n. omega (arith, five_groups v (omega arith))) (λ m n. absurd (omega arith))))))
