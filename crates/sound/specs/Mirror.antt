-- How the work space shows the state of the test, and what each function of the check needs and gives.
use Rattle.std.specs.Prelude.{◌≡◌, ◌≢◌, List, [], ◌∷◌, ℕ, zero, suc, ◌+◌, ◌≤◌, ◌<◌, eqb, length, get_or, drop}
use Rattle.pool.specs.Tally.{occ}
use Rattle.pool.specs.Pool.{Cell, Pool, at, count_of, frees}
use Rattle.pool.specs.Check.{Peeling, meet, arrow, taken, turns, after_holders}
use Rattle.sound.specs.declared.Peel.{Peel}

-- the k words from n, the last on top
unfoldable pub below : ℕ → List ℕ → ℕ → List ℕ
below n ws zero = []
below n ws (suc k) = get_or ws (n + k) 0 ∷ below n ws k

-- the cell at hand, if there is one, is the top of the stack
unfoldable pub on_top : ℕ → List ℕ → List ℕ
on_top zero xs = xs
on_top (suc i) xs = suc i ∷ xs

-- the first words hold the counts of the cells
abbrev pub Counted : ℕ → List ℕ → List Cell → Type 0
Counted n ws cs = (i : ℕ) → i < n → get_or ws i 0 ≡ count_of cs (suc i)

pub record Mirrors (n : ℕ) (ws : List ℕ) (e : Peel) (st : Peeling) : Type 0 where
  pub ok : eqb e.ok 1 ≡ st.ok
  pub gone : e.gone ≡ st.gone
  pub stack : on_top e.at (below n ws e.top) ≡ st.stack
  pub size : length st.cells ≡ n
  pub counts : Counted n ws st.cells

-- what is past the work words stays
pub record Within (n : ℕ) (ws us : List ℕ) : Type 0 where
  pub size : length us ≡ length ws
  pub rest : drop (n + n) us ≡ drop (n + n) ws

pub record Shown (n : ℕ) (ws us : List ℕ) (e : Peel) (st : Peeling) : Type 0 where
  pub within : Within n ws us
  pub shows : Mirrors n us e st

-- no cell is at hand only where none waits
pub record Refilled (n : ℕ) (ws : List ℕ) (e : Peel) (st : Peeling) : Type 0 where
  pub shows : Mirrors n ws e st
  pub rests : e.at ≡ 0 → st.stack ≡ []

pub record Reached (n : ℕ) (ws us : List ℕ) (e : Peel) (st : Peeling) : Type 0 where
  pub within : Within n ws us
  pub refilled : Refilled n us e st

-- the words that wait have room for the cell at hand
pub record Room (n : ℕ) (ws : List ℕ) (e : Peel) : Type 0 where
  pub few : n < 65536
  pub long : n + n ≤ length ws
  pub low : e.at ≤ n
  pub high : e.top ≤ n
  pub more : e.at ≢ 0 → e.top < n

pub record ArrowMet (n x : ℕ) (ws : List ℕ) (e : Peel) (us : List ℕ) (f : Peel) : Type 0 where
  pub within : Within n ws us
  pub shows : (st : Peeling) → Mirrors n ws e st → Mirrors n us f (meet x st)

pub record Stows (n : ℕ) (ws : List ℕ) (e : Peel) (us : List ℕ) (f : Peel) : Type 0 where
  pub within : Within n ws us
  pub none : f.at ≡ 0
  pub shows : (st : Peeling) → Mirrors n ws e st → Mirrors n us f st

abbrev pub Refills : ℕ → List ℕ → Peel → Peel → Type 0
Refills n ws e f = (st : Peeling) → Mirrors n ws e st → occ st.stack 0 ≡ 0 → Refilled n ws f st

pub record Copied (n : ℕ) (cs : List Cell) (ws us : List ℕ) (r : ℕ) : Type 0 where
  pub within : Within n ws us
  pub counts : Counted n us cs
  pub number : r ≡ frees cs

-- the state after k turns
abbrev pub state_at : Pool → ℕ → Peeling
state_at p k = turns k p.cells (after_holders p)

-- a cell is at hand, after as many turns as cells are done
pub record Taking (p : Pool) (n : ℕ) (ws : List ℕ) (e : Peel) : Type 0 where
  pub sized : length p.cells ≡ n
  pub few : n < 65536
  pub long : n + n ≤ length ws
  pub shows : Mirrors n ws e (state_at p e.gone)
  pub some : e.at ≢ 0

-- that cell taken off the stack, and its element met
abbrev pub element_met : Pool → ℕ → List ℕ → Peel → Peeling
element_met p n ws e =
    meet (arrow (at p.cells e.at)) (taken p.cells (state_at p e.gone) e.at (below n ws e.top))

pub record ElementMet (p : Pool) (n : ℕ) (ws : List ℕ) (e : Peel) (us : List ℕ) (r : Peel) : Type 0 where
  pub within : Within n ws us
  pub none : r.at ≡ 0
  pub shows : Mirrors n us r (element_met p n ws e)

pub record Peeled (n : ℕ) (p : Pool) (ws us : List ℕ) (e : Peel) : Type 0 where
  pub shown : Shown n ws us e (state_at p e.gone)
  pub ended : (state_at p e.gone).stack ≡ []
