-- Counting the free cells one by one: what a loop over the cells knows, and each turn.
use Rattle.std.specs.Prelude.{◌≡◌, refl, List, ℕ, suc, ◌+◌, ◌≤◌, length}
use Rattle.std.proofs.Common.{ap, sym, ◌∙◌, subst, add-one, arith}
use Rattle.pool.specs.Tally.{same}
use Rattle.pool.specs.Laws.TallyLaws.{same_le}
use Rattle.pool.specs.Pool.{Cell, count_of, frees}
use Rattle.pool.specs.Laws.Reach.{upto}
use Rattle.pool.specs.Laws.Number.{tally-upto}

-- i cells have been looked at, and n of them are free
pub record Counts (cs : List Cell) (i n : ℕ) : Type 0 where
  pub number : n ≡ upto i (λ c. same (count_of cs c) 0)
  pub few : n ≤ i

pub counts_none : (cs : List Cell) → Counts cs 0 0
unfolding upto
counts_none cs = record { number = refl; few = omega arith }

pub counts_one : (cs : List Cell) (i n r k : ℕ) → Counts cs i n → r ≡ count_of cs (i + 1) → k ≡ same r 0 → Counts cs (i + 1) (n + k)
unfolding upto
counts_one cs i n r k g e q =
    let e' : r ≡ count_of cs (suc i) = rw add-one at e in
    rw (add-one i) (record { number = omega (arith, g.number, ap (λ u. same u 0) e'); few = omega (arith, g.few, same_le r 0) })

pub counts_all : (cs : List Cell) (i n : ℕ) → i ≡ length cs → Counts cs i n → n ≡ frees cs
unfolding frees
counts_all cs i n e g = subst (λ u. n ≡ upto u (λ c. same (count_of cs c) 0)) e g.number ∙ sym (tally-upto (λ x. same x.count 0) cs)
