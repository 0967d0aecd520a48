-- The steps of erasing by what they find, and where a run of them comes to.
use Rattle.std.specs.Prelude.{◌≡◌, refl, ◌≢◌, List, ℕ, zero, suc, ◌+◌, ◌-◌, ◌≤◌}
use Rattle.std.proofs.Common.{sym, ap, ◌∙◌, zero-add, arith}
use Rattle.pool.specs.Tally.{same}
use Rattle.pool.specs.Pool.{Cell, kind_of, elem_of, count_of, next_of, set_count, set_next}
use Rattle.pool.specs.Erase.{Dropping, visit, step, dropping, total, dropped, stepped}
use Rattle.pool.specs.Laws.Held.{Held}
use Rattle.pool.specs.Laws.DropRun.{stopped, dropped-done, dropping-step, dropping-stop}

pub step-at : (f : ℕ) (cs : List Cell) (x b n : ℕ) → 1 ≤ x → step f cs x b n ≡ visit f cs x b n (count_of cs x - 1) (kind_of cs x)
unfolding step
step-at f cs zero b n l = absurd (omega arith)
step-at f cs (suc i) b n l = refl

pub step-pop : (f : ℕ) (cs : List Cell) (x b n : ℕ) → x ≡ 0 → 1 ≤ b
    → step f cs x b n ≡ record { free = b; cells = set_next cs b f; here = elem_of cs b; waiting = next_of cs b; freed = suc n }
unfolding step
step-pop f cs zero zero n e l = absurd (omega arith)
step-pop f cs zero (suc j) n e l = refl
step-pop f cs (suc i) b n e l = absurd (omega arith)

pub visit-shared : (f : ℕ) (cs : List Cell) (x b n k t : ℕ) → k ≢ 0
    → visit f cs x b n k t ≡ record { free = f; cells = set_count cs x k; here = 0; waiting = b; freed = n }
unfolding visit
visit-shared f cs x b n zero t m = absurd (m refl)
visit-shared f cs x b n (suc k) t m = refl

pub visit-atom : (f : ℕ) (cs : List Cell) (x b n k t : ℕ) → k ≡ 0 → t ≡ 0
    → visit f cs x b n k t ≡ record { free = x; cells = set_next (set_count cs x k) x f; here = next_of cs x; waiting = b; freed = suc n }
unfolding visit
visit-atom f cs x b n k t e g = rw (e, g) refl

pub visit_list : (f : ℕ) (cs : List Cell) (x b n k t : ℕ) → k ≡ 0 → t ≢ 0
    → visit f cs x b n k t ≡ record { free = f; cells = set_next (set_count cs x k) x b; here = next_of cs x; waiting = x; freed = n }
unfolding visit
visit_list f cs x b n (suc k) t e m = absurd (omega arith)
visit_list f cs x b n zero zero e m = absurd (m refl)
visit_list f cs x b n zero (suc t) e m = refl

pub dropping-path : {f f' x x' b b' n n' : ℕ} {cs cs' : List Cell} → f ≡ f' → cs ≡ cs' → x ≡ x' → b ≡ b' → n ≡ n'
    → ◌≡◌ {A = Dropping} (record { free = f; cells = cs; here = x; waiting = b; freed = n }) (record { free = f'; cells = cs'; here = x'; waiting = b'; freed = n' })
dropping-path pf pc px pb pn = λ i. record { free = pf i; cells = pc i; here = px i; waiting = pb i; freed = pn i }

-- some steps from w lead to v
pub record Leads (w v : Dropping) : Type 0 where
  pub steps : ℕ
  pub joins : (k : ℕ) → dropping (steps + k) w ≡ dropping k v

pub stay : (w : Dropping) → Leads w w
stay w = record { steps = 0; joins = λ k. ap (λ (j : ℕ). dropping j w) (zero-add k) }

pub once : (w v : Dropping) → stepped w ≡ v → Leads w v
once w v e =
    let one : (k : ℕ) → 1 + k ≡ suc k = λ k. omega arith in
    record { steps = 1; joins = λ k. ap (λ (j : ℕ). dropping j w) (one k) ∙ dropping-step k w ∙ ap (dropping k) e }

pub onward : {w v u : Dropping} → Leads w v → Leads v u → Leads w u
onward {w} l g =
    let joined : (k : ℕ) → l.steps + g.steps + k ≡ l.steps + (g.steps + k) = λ k. omega arith in
    record { steps = l.steps + g.steps; joins = λ k. ap (λ (j : ℕ). dropping j w) (joined k) ∙ l.joins (g.steps + k) ∙ g.joins k }

dropping-add : (j k : ℕ) (w : Dropping) → dropping (j + k) w ≡ dropping k (dropping j w)
unfolding dropping
dropping-add zero k w = ap (λ (j : ℕ). dropping j w) (zero-add k)
dropping-add (suc j) k w =
    let e : suc j + k ≡ suc (j + k) = omega arith in
    ap (λ (i : ℕ). dropping i w) e ∙ dropping-add j k (stepped w)

pub at_end_lem : (w : Dropping) → w.here ≡ 0 → w.waiting ≡ 0 → stopped w ≡ w
at_end_lem w e g = λ i. record { free = w.free; cells = w.cells; here = sym e i; waiting = sym g i; freed = w.freed }

-- what erasing leaves is any end that steps lead to
pub dropped_is : (r : ℕ → ℕ) (f : ℕ) (cs : List Cell) (x : ℕ) (v : Dropping) → Held f cs (λ c. same x c + r c) (λ c. 0)
    → Leads (record { free = f; cells = cs; here = x; waiting = 0; freed = 0 }) v → v.here ≡ 0 → v.waiting ≡ 0 → dropped f cs x ≡ v
unfolding dropped
dropped_is r f cs x v h l e g =
    let w : Dropping = record { free = f; cells = cs; here = x; waiting = 0; freed = 0 } in
    let n : ℕ = total cs + total cs in
    let d = dropped-done r f cs x h in
    let swap : l.steps + n ≡ n + l.steps = omega arith in
    sym (at_end_lem (dropping n w) d.1 d.2) ∙ sym (dropping-stop l.steps (dropping n w) d.1 d.2) ∙ sym (dropping-add n l.steps w)
    ∙ ap (λ (j : ℕ). dropping j w) (sym swap) ∙ l.joins n ∙ dropping-stop n v e g ∙ at_end_lem v e g
