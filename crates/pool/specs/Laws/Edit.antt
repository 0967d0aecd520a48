-- One cell of a pool replaced, and what that changes.
use Rattle.std.specs.Prelude.{◌≡◌, refl, ◌≢◌, List, [], ◌∷◌, ℕ, zero, suc, ◌+◌, ◌-◌, ◌≤◌, ◌<◌, length}
use Rattle.std.proofs.Common.{ap, le_of_suc-le-suc, arith, length-set, get_or-set_same, get_or-set_other, set-set}
use Rattle.std.proofs.Math.Decide.{ℕ_discrete}
use Rattle.std.proofs.Math.ListN.{get_or-eq_default}
use Rattle.std.proofs.lemmas.List.{set_comm, set-get_or}
use Rattle.pool.specs.Tally.{same, tally}
use Rattle.pool.specs.Laws.TallyLaws.{tally-set, tally_ge, tally_find}
use Rattle.pool.specs.Pool.{Cell, blank, at, put, Live, InPool, mark}

pub put-length : (cs : List Cell) (c : ℕ) (y : Cell) → length (put cs c y) ≡ length cs
put-length cs zero y = refl
put-length cs (suc i) y = length-set cs i y

pub put_same : (cs : List Cell) (c : ℕ) (y : Cell) → 0 < c → c ≤ length cs → at (put cs c y) c ≡ y
put_same cs zero y h k = absurd (omega arith)
put_same cs (suc i) y h k = get_or-set_same cs i y blank k

pub put_other : (cs : List Cell) (c d : ℕ) (y : Cell) → d ≢ c → at (put cs c y) d ≡ at cs d
put_other cs zero d y n = refl
put_other cs (suc i) zero y n = refl
put_other cs (suc i) (suc j) y n = get_or-set_other cs i j y blank (λ e. n (ap suc e))

pub put-tally : (f : Cell → ℕ) (cs : List Cell) (c : ℕ) (y : Cell) → 0 < c → c ≤ length cs → tally f (put cs c y) + f (at cs c) ≡ tally f cs + f y
put-tally f cs zero y h k = absurd (omega arith)
put-tally f cs (suc i) y h k = tally-set f cs i y blank k

pub at-tally : (f : Cell → ℕ) (cs : List Cell) (c : ℕ) → f blank ≡ 0 → f (at cs c) ≤ tally f cs
at-tally f cs zero z = omega arith
at-tally f cs (suc i) z = tally_ge f cs i blank z

pub find_tally : (f : Cell → ℕ) (cs : List Cell) → 0 < tally f cs → (c : ℕ) × (0 < f (at cs c))
find_tally f cs h = let (i, b, q) = tally_find f cs blank h in (suc i, q)

-- what reads past the end is blank
pub at-past : (cs : List Cell) (c : ℕ) → length cs < c → at cs c ≡ blank
at-past cs zero h = refl
at-past cs (suc i) h = get_or-eq_default cs blank (le_of_suc-le-suc h)

pub live_cell : (cs : List Cell) (c : ℕ) → Live cs c → InPool cs c
live_cell cs zero h = absurd (omega arith)
live_cell cs (suc i) h = go (ℕ_discrete (suc i - length cs) 0)
  where
    go : Dec (suc i - length cs ≡ 0) → InPool cs (suc i)
    go (yes e) = (omega arith, omega arith)
    go (no n) = let e = at-past cs (suc i) (omega arith) in let z = ap (λ x. x.count) e in absurd (omega arith)

pub mark-cell : (cs : List Cell) (c : ℕ) → 0 < c → c ≤ length cs → mark cs c ≡ same (at cs c).count 0
unfolding mark
mark-cell cs zero h k = absurd (omega arith)
mark-cell [] (suc i) h k = absurd (omega arith)
mark-cell (x ∷ xs) (suc zero) h k = refl
mark-cell (x ∷ xs) (suc (suc i)) h k = mark-cell xs (suc i) (omega arith) (le_of_suc-le-suc k)

pub mark-past : (cs : List Cell) (c : ℕ) → 0 < mark cs c → (0 < c) × (c ≤ length cs)
unfolding mark
mark-past cs zero h = absurd (omega arith)
mark-past [] (suc i) h = absurd (omega arith)
mark-past (x ∷ xs) (suc zero) h = (omega arith, omega arith)
mark-past (x ∷ xs) (suc (suc i)) h = let r = mark-past xs (suc i) h in (omega arith, omega arith)

pub mark-other : (cs : List Cell) (c d : ℕ) (y : Cell) → d ≢ c → mark (put cs c y) d ≡ mark cs d
unfolding mark
mark-other cs zero d y n = refl
mark-other cs (suc i) zero y n = refl
mark-other [] (suc i) (suc j) y n = refl
mark-other (x ∷ xs) (suc zero) (suc zero) y n = absurd (n refl)
mark-other (x ∷ xs) (suc (suc i)) (suc zero) y n = refl
mark-other (x ∷ xs) (suc zero) (suc (suc j)) y n = refl
mark-other (x ∷ xs) (suc (suc i)) (suc (suc j)) y n = mark-other xs (suc i) (suc j) y (λ e. n (ap suc e))

pub put-put : (cs : List Cell) (c : ℕ) (y z : Cell) → put (put cs c y) c z ≡ put cs c z
put-put cs zero y z = refl
put-put cs (suc i) y z = set-set cs i y z

pub put_comm : (cs : List Cell) (c d : ℕ) (y z : Cell) → c ≢ d → put (put cs c y) d z ≡ put (put cs d z) c y
put_comm cs zero d y z n = refl
put_comm cs (suc i) zero y z n = refl
put_comm cs (suc i) (suc j) y z n = set_comm cs i j y z (λ e. n (ap suc e))

pub put-at : (cs : List Cell) (c : ℕ) → put cs c (at cs c) ≡ cs
put-at cs zero = refl
put-at cs (suc i) = set-get_or cs i blank
