-- One turn of the walk through a list, as the code makes it: ")", an atom or "(" with what follows it, and where the
-- walk then stands.
use Rattle.std.specs.Prelude.{ℕ, zero, suc, ◌+◌, ◌-◌, ◌≤◌, ◌<◌, ◌≡◌, ◌≢◌, List, [], ◌∷◌, ◌++◌, length, get_or}
use Rattle.pool.specs.Pool.{Cell, kind_of, elem_of, next_of}
use Rattle.table.specs.declared.Shape.{Shape}
use Rattle.table.specs.View.{IsCell}
use Rattle.text.specs.Limits.{levels, text_most}
use Rattle.walks.specs.declared.walk.Walk.{Walk}
use Rattle.walks.specs.Steps.{walk, kept_at}
use Rattle.octal.specs.Numeral.{numeral}

-- before a further element, which is the cell x if there is one
abbrev pub comma : ℕ → List ℕ
comma zero = []
comma (suc i) = 44 ∷ []

-- behind the outermost "("
abbrev pub started : ℕ → Walk
started x = walk x 1 1

abbrev pub shut_at : List ℕ → Walk → Walk
shut_at after w = let x = get_or after (w.depth - 1) 0 in walk x (w.depth - 1) (w.size + 1 + length (comma x))

abbrev pub pass_at : List Cell → Walk → Walk
pass_at cs w =
    let x = next_of cs w.at in
    walk x w.depth (w.size + length (numeral (elem_of cs w.at)) + length (comma x))

abbrev pub open_at : List Cell → Walk → Walk
open_at cs w = walk (elem_of cs w.at) (w.depth + 1) (w.size + 1)

-- a turn from w to r, by its characters
pub data Turn (cs : List Cell) (after : List ℕ) (w : Walk) (next : List ℕ) (r : Walk) : List ℕ → Type 0 where
  shuts : w.at ≡ 0 → r ≡ shut_at after w → next ≡ after → Turn cs after w next r (41 ∷ comma r.at)
  passes : w.at ≢ 0 → kind_of cs w.at ≡ 0 → r ≡ pass_at cs w → next ≡ after
      → Turn cs after w next r (numeral (elem_of cs w.at) ++ comma r.at)
  opens : w.at ≢ 0 → kind_of cs w.at ≢ 0 → r ≡ open_at cs w → next ≡ kept_at cs after w
      → Turn cs after w next r (40 ∷ [])

abbrev pub Turns : List Cell → List ℕ → Walk → List ℕ → Walk → Type 0
Turns cs after w next r = (bs : List ℕ) × Turn cs after w next r bs

-- what a turn asks
pub record MayTurn (s : Shape) (cs : List Cell) (w : Walk) : Type 0 where
  pub some : 1 ≤ w.depth
  pub low : w.depth ≤ levels
  pub short : w.size ≤ text_most
  pub cell : w.at ≢ 0 → IsCell s w.at
  pub room : w.at ≢ 0 → kind_of cs w.at ≢ 0 → w.depth < levels
