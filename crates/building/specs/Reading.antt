-- A pool while a list is read into holder h: what is still to come, and the pool that all of it will make.
use Rattle.std.specs.Prelude.{◌≡◌, List, [], ◌∷◌, ℕ, ◌≤◌, ◌<◌, length}
use Rattle.lists.specs.Lst.{Lst}
use Rattle.pool.specs.Pool.{Cell, Pool, Chain}
use Rattle.pool.specs.Setters.{cell, new_cell}
use Rattle.pool.specs.Tally.{occ}
use Rattle.building.specs.Build.{link, Open, completed, wanted, Link, in_holder, in_next, in_elem, hung, held_by}

-- the pool with c named where the link says
abbrev pub hang : Link → ℕ → ℕ → Pool → Pool
hang k h c p = record { free = p.free; holders = held_by k h c p.holders; cells = hung k c p.cells }

-- an element begins: the head of the free chain is named where the link says, and becomes a cell whose list and
-- successor are not known yet
abbrev pub hang_new : ℕ → ℕ → Link → ℕ → Pool → Pool
hang_new t e k h p = new_cell p.free (cell t e 1 0) (hang k h p.free p)

-- the pool when l, the rest of the innermost list, and the rests of the open ones are read
abbrev pub aimed : Pool → ℕ → Link → Lst → List Open → Pool
aimed p h k l os =
    let c = link l p.free in
    let b = completed p.free (hung k c p.cells) l os in
    record { free = b.free; holders = held_by k h c p.holders; cells = b.cells }

-- the free chain has enough cells, none twice
pub record Supply (cs : List Cell) (f : ℕ) (fs : List ℕ) (n : ℕ) : Type 0 where
  pub chain : Chain cs f fs
  pub once : (v : ℕ) → occ fs v ≤ 1
  pub enough : n ≤ length fs

-- a cell that is not on it
pub record Off (cs : List Cell) (fs : List ℕ) (c : ℕ) : Type 0 where
  pub low : 0 < c
  pub high : c ≤ length cs
  pub apart : occ fs c ≡ 0

abbrev pub LinkOff : List Cell → List ℕ → Link → Type 0
LinkOff cs fs in_holder = Unit {0}
LinkOff cs fs (in_next x) = Off cs fs x
LinkOff cs fs (in_elem x) = Off cs fs x

unfoldable pub OpenOff : List Cell → List ℕ → List Open → Type 0
OpenOff cs fs [] = Unit {0}
OpenOff cs fs (o ∷ os) = Off cs fs o.cell × OpenOff cs fs os

pub record Reading (p : Pool) (h : ℕ) (k : Link) (l : Lst) (os : List Open) (q : Pool) : Type 0 where
  pub chain : List ℕ
  pub supply : Supply p.cells p.free chain (wanted l os)
  pub range : (v : ℕ) → 0 < occ chain v → v ≤ length p.cells
  pub hook : LinkOff p.cells chain k
  pub opens : OpenOff p.cells chain os
  pub aim : aimed p h k l os ≡ q
