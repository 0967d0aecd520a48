-- Bytes put into a text that will end at a known place: what stands before them stays, and what stands behind that end.
use Rattle.std.specs.Prelude.{ℕ, ◌+◌, ◌≤◌, ◌<◌, ◌≡◌, ◌≢◌, List, ◌∷◌, ◌++◌, length, take, drop}
use Rattle.pool.specs.Pool.{Cell, kind_of, elem_of}
use Rattle.walks.specs.declared.walk.Walk.{Walk}
use Rattle.octal.specs.Numeral.{numeral}
use Rattle.writing.specs.Steps.{comma, shut_at, pass_at, Turn}

pub record Put (old new : List ℕ) (at end : ℕ) (bs : List ℕ) : Type 0 where
  pub text : take (at + length bs) new ≡ take at old ++ bs
  pub behind : drop end new ≡ drop end old
  pub room : length new ≡ length old

-- ")" with what follows it, an atom likewise, and a turn, put into a text
abbrev pub PutShut : List ℕ → Walk → List ℕ → List ℕ → ℕ → Walk → Type 0
PutShut after w old new end r = (r ≡ shut_at after w) × Put old new w.size end (41 ∷ comma r.at)

abbrev pub PutPass : List Cell → Walk → List ℕ → List ℕ → ℕ → Walk → Type 0
PutPass cs w old new end r =
    (r ≡ pass_at cs w) × Put old new w.size end (numeral (elem_of cs w.at) ++ comma r.at)

abbrev pub PutTurn : List Cell → List ℕ → Walk → List ℕ → Walk → List ℕ → List ℕ → ℕ → Type 0
PutTurn cs after w next r old new end = (bs : List ℕ) × Turn cs after w next r bs × Put old new w.size end bs

-- the characters of a turn end in time
pub record Roomy (cs : List Cell) (after : List ℕ) (w : Walk) (end : ℕ) : Type 0 where
  pub shuts : w.at ≡ 0 → (shut_at after w).size ≤ end
  pub passes : w.at ≢ 0 → kind_of cs w.at ≡ 0 → (pass_at cs w).size ≤ end
  pub opens : w.at ≢ 0 → kind_of cs w.at ≢ 0 → w.size < end
