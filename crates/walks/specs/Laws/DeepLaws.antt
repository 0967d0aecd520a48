-- What the test for a level too many says.
use Rattle.std.specs.Prelude.{ℕ, ◌≤◌, ◌<◌, ◌≡◌, ◌≢◌, Bool, true, false, ◌&&◌, List, eqb, leb}
use Rattle.std.proofs.Common.{sym, ne_eqb, leb-true, leb-false}
use Rattle.std.proofs.lemmas.Bool.{eqb-false, not-true}
use Rattle.pool.specs.Pool.{Cell, kind_of}
use Rattle.pool.specs.Laws.CheckInv.{and_both}
use Rattle.text.specs.Limits.{levels}
use Rattle.text.specs.Laws.TextLaws.{by_case, decide, no_yes}
use Rattle.walks.specs.Levels.{opens_at}

opens_told : (cs : List Cell) (x : ℕ) → opens_at cs x ≡ true → (x ≢ 0) × (kind_of cs x ≢ 0)
opens_told cs x =
    by_case (eqb x 0) (λ (b : Bool). b ≡ true → (x ≢ 0) × (kind_of cs x ≢ 0)) (λ e h. no_yes h)
    (λ e h. (eqb-false x 0 e, eqb-false (kind_of cs x) 0 (not-true (eqb (kind_of cs x) 0) h)))

pub full : (cs : List Cell) (d x : ℕ) → (leb levels d && opens_at cs x) ≡ true → (levels ≤ d) × (x ≢ 0) × (kind_of cs x ≢ 0)
full cs d x e =
    let both = and_both (leb levels d) (opens_at cs x) e in
    let told = opens_told cs x both.1 in
    (leb-true levels d both.0, told.0, told.1)

pub roomy : (cs : List Cell) (d x : ℕ) → (leb levels d && opens_at cs x) ≡ false → x ≢ 0 → kind_of cs x ≢ 0 → d < levels
roomy cs d x e n k =
    decide (leb levels d) (d < levels)
    (λ q. no_yes (sym (rw (q, ne_eqb x 0 n, ne_eqb (kind_of cs x) 0 k) at e)))
    (λ q. leb-false levels d q)
