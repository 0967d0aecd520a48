-- Where the walk through a list stands: the text that is still to come, from the list at hand and those with which the
-- open levels go on.
-- A turn takes its characters off the front of that text.
use Rattle.std.specs.Prelude.{ℕ, ◌+◌, ◌-◌, ◌≤◌, ◌≡◌, false, cond, List, [], ◌∷◌, ◌++◌, leb, length, drop}
use Rattle.answers.specs.Answers.{OUTPUT}
use Rattle.lists.specs.Lst.{Lst}
use Rattle.pool.specs.Pool.{Cell}
use Rattle.text.specs.ListText.{items}
use Rattle.text.specs.Laws.OpenLists.{body}
use Rattle.text.specs.Writing.{judged}
use Rattle.walks.specs.Levels.{Levels}
use Rattle.walks.specs.declared.walk.Walk.{Walk}

abbrev pub above : List Lst → List ℕ
above [] = []
above (l ∷ ls) = items false l ++ above ls

abbrev pub rest : List Lst → List ℕ
rest [] = []
rest (l ∷ ls) = body l ++ above ls

-- in the text t, of which u characters may be written
pub record Walking (cs : List Cell) (t : List ℕ) (u : ℕ) (after : List ℕ) (w : Walk) : Type 0 where
  pub opened : List Lst
  pub stands : Levels cs after w.at w.depth opened
  pub is : drop w.size t ≡ rest opened
  pub within : w.size ≤ length t
  pub short : w.size ≤ u
  pub judges : judged u 0 t ≡ judged (u - w.size) w.depth (rest opened)

-- the judgement over the characters of a turn, from d open levels to e: all of them fit, or OUTPUT
abbrev pub Judges : ℕ → ℕ → List ℕ → List ℕ → Type 0
Judges d e bs t =
    (left : ℕ) → judged left d (bs ++ t) ≡ cond (leb (length bs) left) (judged (left - length bs) e t) OUTPUT

-- a turn in the text t
pub record Turned (cs : List Cell) (t : List ℕ) (next : List ℕ) (w r : Walk) (bs : List ℕ) : Type 0 where
  pub opened : List Lst
  pub stands : Levels cs next r.at r.depth opened
  pub more : 1 ≤ length bs
  pub size : r.size ≡ w.size + length bs
  pub text : drop w.size t ≡ bs ++ rest opened
  pub judges : Judges w.depth r.depth bs (rest opened)
