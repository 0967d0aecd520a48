-- A number whose first group is not the last: what the code adds up of its first byte b₀ and the four behind it.
use Rattle.std.specs.Prelude.{ℕ, ◌+◌, ◌*◌, ◌/◌, ◌%◌}

-- 1 if there is a third group, a fourth, a fifth
abbrev pub has_third : ℕ → ℕ
has_third b₁ = b₁ / 128

abbrev pub has_fourth : ℕ → ℕ → ℕ
has_fourth b₁ b₂ = (has_third b₁ + b₂ / 128) / 2

abbrev pub has_fifth : ℕ → ℕ → ℕ → ℕ
has_fifth b₁ b₂ b₃ = (has_fourth b₁ b₂ + b₃ / 128) / 2

-- the place of the last group, where the first is at i
abbrev pub last_at : ℕ → ℕ → ℕ → ℕ → ℕ
last_at i b₁ b₂ b₃ = i + 1 + (has_third b₁ + has_fourth b₁ b₂ + has_fifth b₁ b₂ b₃)

module _ (b₀ b₁ b₂ b₃ b₄ : ℕ) where
  abbrev pub sum_of : ℕ → ℕ → ℕ → ℕ
  sum_of third fourth fifth =
      b₀ % 128 + b₁ % 128 * 128 + (third * (b₂ % 128 * 16384) + fourth * (b₃ % 128 * 2097152)) + fifth * (b₄ * 268435456)

  abbrev pub sum : ℕ
  sum = sum_of (has_third b₁) (has_fourth b₁ b₂) (has_fifth b₁ b₂ b₃)
