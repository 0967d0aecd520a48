-- When each answer about groups is given, by the lists whose groups the bytes are, with no word of how they are read.
-- The kinds of fault that document 02 names are rows of `groups/Cases`.
use Rattle.std.specs.Prelude.{◌≡◌, List, [], ◌∷◌, ℕ, suc, ◌+◌, ◌≤◌, ◌<◌, length, take}
use Rattle.answers.specs.Answers.{TEXT_SIZE, END, DEEP, GROUPS}
use Rattle.lists.specs.Lst.{Lst}
use Rattle.text.specs.Limits.{levels, text_most}
use Rattle.groups.specs.Groups.{number, groups_of, Fits}
use Rattle.groups.specs.Depth.{OpensIn}
use Rattle.promises.specs.Rows.{Row, row}

-- the first m bytes are the groups of the list l, each of its numbers in as few groups as it needs and below 2^33;
-- what stands behind them does not matter
abbrev pub Spells : List ℕ → ℕ → Lst → Type 0
Spells xs m l = (m ≤ length xs) × (take m xs ≡ groups_of l) × Fits l

-- up to the number that opens level 201, and with it, the bytes are those of a list
abbrev pub OpensTooMany : List ℕ → Type 0
OpensTooMany xs = (l : Lst) × (k : ℕ) × (v : ℕ) × Fits l × OpensIn l (suc levels) k v
    × (let n = k + length (number v) in take n xs ≡ take n (groups_of l))

-- no list's groups begin the bytes: they run out, a number is in more groups than it needs or too large, or the first
-- is an atom
abbrev pub NoList : List ℕ → Type 0
NoList xs = (m : ℕ) (l : Lst) → Spells xs m l → ⊥

-- level 201 opened before anything else is wrong; else no list at all
abbrev pub fault_rows : List ℕ → List Row
fault_rows xs = row DEEP (OpensTooMany xs) ∷ row GROUPS (NoList xs) ∷ []

abbrev pub size_rows : List ℕ → List Row
size_rows xs = row TEXT_SIZE (text_most < length xs) ∷ row END (length xs ≡ 0) ∷ []

-- in writing: a number that opens level 201, no later than just behind the usable output
abbrev pub TooDeep : ℕ → Lst → Type 0
TooDeep u l = (k : ℕ) × (v : ℕ) × OpensIn l (suc levels) k v × (k ≤ u)
