-- Where the writing stands in the output: as many characters of the text t as it has passed are in their places.
use Rattle.std.specs.Prelude.{ℕ, ◌≤◌, ◌≡◌, List, length, take, drop}
use Rattle.totext.specs.declared.put.Walk.{Walk}
use Rattle.totext.specs.Standing.{Standing}

pub record Putting (s t old : List ℕ) (end : ℕ) (out kept : List ℕ) (w : Walk) : Type 0 where
  pub stands : Standing s t kept w
  pub front : take w.to out ≡ take w.to t
  pub behind : drop end out ≡ drop end old
  pub room : length out ≡ length old

-- A run of turns on one level, from w to r, which makes the output ys of xs and leaves the last element.
pub record Ran (s t : List ℕ) (end : ℕ) (kept xs ys : List ℕ) (w r : Walk) : Type 0 where
  pub stands : Standing s t kept r
  pub level : r.depth ≡ w.depth
  pub last : 1 ≤ w.left → 1 ≤ r.left
  pub on : w.to ≤ r.to
  pub room : length ys ≡ length xs
  pub puts : (old : List ℕ) → Putting s t old end xs kept w → Putting s t old end ys kept r
