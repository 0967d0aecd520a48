-- Where an element follows, "," stands before it.
use Rattle.std.specs.Prelude.{ℕ, zero, suc, ◌≡◌, refl, ◌≢◌, length}
use Rattle.writing.specs.Steps.{comma}

pub one-comma : (x : ℕ) → x ≢ 0 → 1 ≡ length (comma x)
one-comma zero n = absurd (n refl)
one-comma (suc i) n = refl
