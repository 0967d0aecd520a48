-- A number that tells whether bytes are blanks.
use Rattle.std.specs.Prelude.{ℕ, ◌≡◌, ◌≢◌, List}
use Rattle.text.specs.Text.{others}

-- n is 0 exactly if all of them are
pub record Differing (s : List ℕ) (n : ℕ) : Type 0 where
  pub none : n ≡ 0 → others s ≡ 0
  pub some : n ≢ 0 → others s ≢ 0
