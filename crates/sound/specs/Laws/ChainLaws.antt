-- The walk along the free chain: where it stops, what it goes on with, and its end.
use Rattle.std.specs.Prelude.{◌≡◌, refl, ◌≢◌, false, List, ℕ, zero, suc, ◌-◌, ◌≤◌, ◌<◌, eqb, length}
use Rattle.std.proofs.Common.{sym, ◌∙◌, subst, arith, ne_eqb}
use Rattle.std.proofs.Math.Decide.{ℕ_discrete}
use Rattle.pool.specs.Laws.TallyLaws.{same_of, same_ne}
use Rattle.pool.specs.Pool.{Cell, count_of, next_of, InPool, mark}
use Rattle.pool.specs.Check.{chained}
use Rattle.pool.specs.Laws.Edit.{mark-cell, mark-past}

stop : (left : ℕ) (cs : List Cell) (x : ℕ) → x ≢ 0 → mark cs x ≡ 0 → chained left cs x ≡ false
unfolding chained
stop zero cs x n e = ne_eqb x 0 n
stop (suc k) cs x n e = rw e

-- what is no cell is not free
no_mark : (cs : List Cell) (x : ℕ) → (InPool cs x → ⊥) → mark cs x ≡ 0
no_mark cs x f = go (ℕ_discrete (mark cs x) 0)
  where
    go : Dec (mark cs x ≡ 0) → mark cs x ≡ 0
    go (yes e) = e
    go (no n) = absurd (f (mark-past cs x (omega arith)))

pub stop_far : (left : ℕ) (cs : List Cell) (x : ℕ) → length cs < x → chained left cs x ≡ false
stop_far left cs x l = stop left cs x (omega arith) (no_mark cs x (λ i. omega (arith, i.1)))

pub stop_live : (left : ℕ) (cs : List Cell) (x r : ℕ) → x ≢ 0 → x ≤ length cs → r ≡ count_of cs x → r ≢ 0 → chained left cs x ≡ false
stop_live left cs x r n l e s = stop left cs x n (mark-cell cs x (omega arith) l ∙ same_ne (count_of cs x) 0 (λ q. s (e ∙ q)))

pub stop_long : (left : ℕ) (cs : List Cell) (x : ℕ) → x ≢ 0 → left ≡ 0 → chained left cs x ≡ false
unfolding chained
stop_long left cs x n e = rw e (ne_eqb x 0 n)

pub go_on : (left : ℕ) (cs : List Cell) (x r : ℕ) → x ≢ 0 → x ≤ length cs → r ≡ count_of cs x → r ≡ 0 → left ≢ 0
    → chained (left - 1) cs (next_of cs x) ≡ chained left cs x
unfolding chained
go_on zero cs x r n l e z s = absurd (s refl)
go_on (suc k) cs x r n l e z s =
    let q : suc k - 1 ≡ k = omega arith in
    let m : mark cs x ≡ 1 = mark-cell cs x (omega arith) l ∙ same_of (count_of cs x) 0 (sym e ∙ z) in
    rw (q, m)

no_chain : (left : ℕ) (cs : List Cell) → eqb left 0 ≡ chained left cs 0
unfolding chained
no_chain zero cs = refl
no_chain (suc k) cs =
    let q : chained (suc k) cs 0 ≡ false = rw (no_mark cs 0 (λ i. omega (arith, i.0))) in
    ne_eqb (suc k) 0 (omega arith) ∙ sym q

pub at_end_lem : (left : ℕ) (cs : List Cell) (x : ℕ) → x ≡ 0 → eqb left 0 ≡ chained left cs x
at_end_lem left cs x e = subst (λ u. eqb left 0 ≡ chained left cs u) (sym e) (no_chain left cs)
