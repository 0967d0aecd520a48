-- One turn of the writing: ")", an atom or "(", with "," where a further element follows, and where it then stands.
use Rattle.std.specs.Prelude.{ℕ, ◌+◌, ◌-◌, ◌/◌, ◌≤◌, ◌≡◌, List, ◌∷◌, length, get_or, take, drop, set}
use Rattle.numbers.specs.declared.Number.{Number}
use Rattle.octal.specs.Numeral.{numeral}
use Rattle.writing.specs.Put.{Put}
use Rattle.writing.specs.Steps.{comma}
use Rattle.totext.specs.declared.put.Walk.{Walk}
use Rattle.totext.specs.Standing.{Standing}

abbrev pub walk : ℕ → ℕ → ℕ → ℕ → Walk
walk i k d n = record { from = i; to = k; depth = d; left = n }

-- "," behind an element
abbrev pub parted : Walk → Walk
parted w = walk w.from (w.to + length (comma w.left)) w.depth w.left

pub record Parts (w r : Walk) (old new : List ℕ) (end : ℕ) : Type 0 where
  pub is : r ≡ parted w
  pub put : Put old new w.to end (comma w.left)

-- the end of a list
abbrev pub behind_list : List ℕ → Walk → Walk
behind_list kept w = walk w.from w.to (w.depth - 1) (get_or kept (w.depth - 1) 0)

-- where the writing stands behind ")", behind the atom of a number and behind "(", before "," is put
abbrev pub behind_shut : List ℕ → Walk → Walk
behind_shut kept w = walk w.from (w.to + 1) (w.depth - 1) (get_or kept (w.depth - 1) 0)

abbrev pub behind_atom : Number → Walk → Walk
behind_atom n w = walk n.end (w.to + length (numeral (n.value / 2))) w.depth (w.left - 1)

abbrev pub behind_open : Number → Walk → Walk
behind_open n w = walk n.end (w.to + 1) (w.depth + 1) (n.value / 2)

abbrev pub kept_at : List ℕ → Walk → List ℕ
kept_at kept w = set kept w.depth (w.left - 1)

-- ")" put, with what follows it
abbrev pub PutShut : List ℕ → Walk → Walk → List ℕ → List ℕ → ℕ → Type 0
PutShut kept w r old new end =
    (r ≡ parted (behind_shut kept w)) × Put old new w.to end (41 ∷ comma (get_or kept (w.depth - 1) 0))

-- a turn by the characters bs, in the groups s and the text t
pub record Turned (s t next : List ℕ) (w r : Walk) (bs : List ℕ) : Type 0 where
  pub stands : Standing s t next r
  pub more : 1 ≤ length bs
  pub size : r.to ≡ w.to + length bs
  pub text : take (length bs) (drop w.to t) ≡ bs

abbrev pub PutTurn : List ℕ → List ℕ → List ℕ → Walk → Walk → List ℕ → List ℕ → ℕ → Type 0
PutTurn s t next w r old new end = (bs : List ℕ) × Turned s t next w r bs × Put old new w.to end bs
