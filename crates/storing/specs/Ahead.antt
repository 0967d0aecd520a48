-- Elements that lie ahead at a place of the bytes, and what the number there says of them.
use Rattle.std.specs.Prelude.{◌≡◌, List, ◌++◌, ℕ, ◌+◌, ◌*◌, ◌^◌, ◌<◌, length, drop}
use Rattle.groups.specs.Groups.{elements, Fit}
use Rattle.lists.specs.Lst.{Lst, nil, atom, list, len}
use Rattle.numbers.specs.declared.Number.{Number}

-- the elements of l, and what comes behind them
pub record Ahead (s : List ℕ) (at : ℕ) (l : Lst) (later : List ℕ) : Type 0 where
  pub fit : Fit l
  pub bytes : drop at s ≡ elements l ++ later

-- the elements behind the first
abbrev pub after : Lst → Lst
after nil = nil
after (atom v l) = l
after (list e l) = l

-- the number n is that of an atom
pub record AtomAhead (s : List ℕ) (at : ℕ) (l : Lst) (later : List ℕ) (n : Number) : Type 0 where
  pub atom-value : ℕ
  pub rest : Lst
  pub is : l ≡ atom atom-value rest
  pub number : n.value ≡ 2 * atom-value
  pub small : atom-value < 2 ^ 32
  pub on : at < n.end
  pub ahead : Ahead s n.end rest later

-- that of a list
pub record ListAhead (s : List ℕ) (at : ℕ) (l : Lst) (later : List ℕ) (n : Number) : Type 0 where
  pub inside : Lst
  pub rest : Lst
  pub is : l ≡ list inside rest
  pub number : n.value ≡ 2 * len inside + 1
  pub on : at < n.end
  pub within : at < length s
  pub ahead : Ahead s n.end inside (elements rest ++ later)
  pub behind : (i : ℕ) → drop i s ≡ elements rest ++ later → Ahead s i rest later
