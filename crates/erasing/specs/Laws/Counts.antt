-- No step of erasing raises a count, and one that drops an arrow takes from their sum.
use Rattle.std.specs.Prelude.{List, [], ◌∷◌, ℕ, zero, suc, ◌-◌, ◌≤◌, ◌<◌}
use Rattle.std.proofs.Common.{arith}
use Rattle.pool.specs.Laws.Drop.{put-total}
use Rattle.pool.specs.Laws.Edit.{put-length}
use Rattle.pool.specs.Erase.{Dropping, visit, step, total, stepped}
use Rattle.pool.specs.Pool.{Cell, at, put, kind_of, count_of, counted, followed, set_count, set_next, InPool}
use Rattle.erasing.specs.Erasing.{Fine}

put_low : (cs : List Cell) (x : ℕ) (y : Cell) (c : ℕ) → y.count ≤ count_of cs x → count_of (put cs x y) c ≤ count_of cs c
put_low cs zero y c h = omega arith
put_low [] (suc i) y c h = omega arith
put_low (z ∷ zs) (suc zero) y zero h = omega arith
put_low (z ∷ zs) (suc zero) y (suc zero) h = h
put_low (z ∷ zs) (suc zero) y (suc (suc j)) h = omega arith
put_low (z ∷ zs) (suc (suc i)) y zero h = omega arith
put_low (z ∷ zs) (suc (suc i)) y (suc zero) h = omega arith
put_low (z ∷ zs) (suc (suc i)) y (suc (suc j)) h = put_low zs (suc i) y (suc j) h

next_low : (cs : List Cell) (x v c : ℕ) → count_of (set_next cs x v) c ≤ count_of cs c
next_low cs x v c = put_low cs x (followed (at cs x) v) c (omega arith)

count_low : (cs : List Cell) (x k c : ℕ) → k ≤ count_of cs x → count_of (set_count cs x k) c ≤ count_of cs c
count_low cs x k c h = put_low cs x (counted (at cs x) k) c h

visit_low : (f : ℕ) (cs : List Cell) (x b n k t c : ℕ) → k ≤ count_of cs x → count_of (visit f cs x b n k t).cells c ≤ count_of cs c
unfolding visit
visit_low f cs x b n (suc k) t c h = count_low cs x (suc k) c h
visit_low f cs x b n zero zero c h = omega (arith, next_low (set_count cs x 0) x f c, count_low cs x 0 c (omega arith))
visit_low f cs x b n zero (suc t) c h = omega (arith, next_low (set_count cs x 0) x b c, count_low cs x 0 c (omega arith))

pub step_low : (f : ℕ) (cs : List Cell) (x b n c : ℕ) → count_of (step f cs x b n).cells c ≤ count_of cs c
unfolding step
step_low f cs zero zero n c = omega arith
step_low f cs zero (suc j) n c = next_low cs (suc j) f c
step_low f cs (suc i) b n c = visit_low f cs (suc i) b n (count_of cs (suc i) - 1) (kind_of cs (suc i)) c (omega arith)

next-total : (cs : List Cell) (x v : ℕ) → InPool cs x → total (set_next cs x v) ≤ total cs
next-total cs x v l = omega (arith, put-total cs x (followed (at cs x) v) l)

freed_total : (cs : List Cell) (x v : ℕ) → InPool cs x → 0 < count_of cs x → total (set_next (set_count cs x 0) x v) < total cs
freed_total cs x v l h =
    let y : Cell = counted (at cs x) 0 in
    omega (arith, put-total cs x y l, next-total (put cs x y) x v (l.0, rw (put-length cs x y) l.1))

visit-total : (f : ℕ) (cs : List Cell) (x b n k t : ℕ) → InPool cs x → k < count_of cs x → total (visit f cs x b n k t).cells < total cs
unfolding visit
visit-total f cs x b n (suc k) t l h = omega (arith, put-total cs x (counted (at cs x) (suc k)) l)
visit-total f cs x b n zero zero l h = freed_total cs x f l h
visit-total f cs x b n zero (suc t) l h = freed_total cs x b l h

pub step-total : (m : ℕ) (w : Dropping) → Fine m w → 1 ≤ w.here → total (stepped w).cells < total w.cells
unfolding step
step-total m w h l = go w.here (l, h.here_high) (h.counted l)
  where
    go : (x : ℕ) → InPool w.cells x → 1 ≤ count_of w.cells x → total (step w.free w.cells x w.waiting w.freed).cells < total w.cells
    go zero i c = absurd (omega (arith, i.0))
    go (suc i) k c =
        visit-total w.free w.cells (suc i) w.waiting w.freed (count_of w.cells (suc i) - 1) (kind_of w.cells (suc i)) k (omega arith)
