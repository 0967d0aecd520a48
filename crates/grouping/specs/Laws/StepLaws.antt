-- The code's steps by what its calls told: where a turn goes, and what it puts.
use Rattle.std.specs.Prelude.{ℕ, ◌≡◌, List, [], ◌∷◌, length}
use Rattle.std.proofs.Common.{sym, ap, ◌∙◌}
use Rattle.std.proofs.Math.Seq.{paste, paste-zero}
use Rattle.groups.specs.Groups.{number}
use Rattle.groups.specs.Writing.{item}
use Rattle.walks.specs.declared.walk.Walk.{Walk}
use Rattle.grouping.specs.Items.{bytes_in}
use Rattle.grouping.specs.Steps.{atom_in, list_in, ending}
use Rattle.walks.specs.Steps.{pass_at, open_at}
use Rattle.grouping.specs.Laws.ItemLaws.{bytes_one}
use Rattle.pool.specs.Pool.{Cell}

-- the number v of an element, which ends at `end`
module _ (cs : List Cell) (w r : Walk) (v end : ℕ) (n : end ≡ ending w v) where
  pub pass_told : v ≡ atom_in cs w.at → r ≡ pass_at cs w end → r ≡ pass_at cs w (ending w (atom_in cs w.at))
  pass_told e q = q ∙ ap (pass_at cs w) (n ∙ ap (ending w) e)

  pub open_told : v ≡ list_in cs w.at → r ≡ open_at cs w end → r ≡ open_at cs w (ending w (list_in cs w.at))
  open_told e q = q ∙ ap (open_at cs w) (n ∙ ap (ending w) e)

-- what is put: nothing, or the number
pub puts_none : (xs : List ℕ) (at : ℕ) → xs ≡ paste xs at (bytes_in []) (length (bytes_in []))
unfolding bytes_in
puts_none xs at = paste-zero xs at []

pub puts_one : (xs ys : List ℕ) (at v u d : ℕ) → v ≡ u → ys ≡ paste xs at (number v) (length (number v))
    → ys ≡ paste xs at (bytes_in (item u d ∷ [])) (length (bytes_in (item u d ∷ [])))
puts_one xs ys at v u d e q = q ∙ ap (λ (bs : List ℕ). paste xs at bs (length bs)) (ap number e ∙ sym (bytes_one (item u d)))
