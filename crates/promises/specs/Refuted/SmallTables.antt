-- The small tables, scripts and texts on which wrong engines are tried.
use Rattle.std.specs.Prelude.{◌≡◌, refl, List, [], ◌∷◌, ◌++◌, ℕ, get_or, replicate}
use Rattle.std.proofs.Common.{ap, ◌∙◌}
use Rattle.lists.specs.Lst.{nil}
use Rattle.pool.specs.Laws.Fresh.{zero-at}
use Rattle.pool.specs.Pool.{Pool, holder, ListAt}
use Rattle.pool.specs.Script.{PFA, Operation}
use Rattle.calls.specs.Chars.{blanks}
use Rattle.calls.specs.SetUp.{set_up}
use Rattle.calls.specs.Entry.{shown}
use Rattle.promises.specs.Engine.{Engine}
use Rattle.promises.specs.Demand2.{Holds}
use Rattle.promises.specs.Refuted.Computed.{computed}
use Rattle.table.specs.declared.Form.TheVariants.{Four}

abbrev pub zeros : ℕ → List ℕ
zeros n = replicate n 0

-- PFA of v to holder a
abbrev pub prefix : ℕ → ℕ → List ℕ
prefix a v = PFA ∷ a ∷ 0 ∷ v ∷ []

abbrev pub prefixing : ℕ → ℕ → Operation
prefixing a v = record { code = PFA; a = a; b = 0; v = v }

-- equal runs of words have equal words
pub word : {us vs : List ℕ} (i : ℕ) → us ≡ vs → get_or us i 0 ≡ get_or vs i 0
word i e = ap (λ (us : List ℕ). get_or us i 0) e

-- new tables of one and of two cells
abbrev pub one : List ℕ
one = (set_up (zeros 70) 1).table

abbrev pub two : List ℕ
two = (set_up (zeros 74) 2).table

-- one cell, in holder 0: its type and its element
abbrev pub held : ℕ → ℕ → List ℕ
held t e = 1 ∷ 0 ∷ 1 ∷ (zeros 63 ++ (t ∷ e ∷ 1 ∷ 0 ∷ []))

-- the null list in a record of its own
abbrev pub null : List ℕ
null = 40 ∷ 41 ∷ blanks 70

-- holders that are all null have the null list
pub all-null : (p : Pool) (k : ℕ) → p.holders ≡ zeros k → (i : ℕ) → ListAt p.cells (holder p i) nil
unfolding ListAt
all-null p k e i = ap (λ (hs : List ℕ). get_or hs i 0) e ∙ zero-at k i 0 refl

pub one-null : Holds Four one (λ i. nil)
unfolding computed
one-null = all-null (shown Four one) 64 refl

pub two-null : Holds Four two (λ i. nil)
unfolding computed
two-null = all-null (shown Four two) 64 refl

-- a table that the engine itself has made: one cell, in use
abbrev pub full : Engine → List ℕ
full E = (E.run one (zeros 2) (prefix 0 5) (zeros 2)).table
