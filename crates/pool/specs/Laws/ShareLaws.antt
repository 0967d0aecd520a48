-- One more arrow to a cell, and one cell replaced: what they leave of each other.
use Rattle.std.specs.Prelude.{◌≡◌, refl, ◌≢◌, List, ℕ, zero, suc, length}
use Rattle.std.proofs.Common.{sym, ap, ◌∙◌, subst, inl, inr, arith}
use Rattle.std.proofs.Math.Decide.{ℕ_discrete}
use Rattle.pool.specs.Pool.{Cell, at, put, count_of, counted, Live, NullOrLive}
use Rattle.pool.specs.Operations.{share}
use Rattle.pool.specs.Laws.Edit.{put-length, put_same, put_other, live_cell, put_comm}

pub share_other : (cs : List Cell) (c d : ℕ) → d ≢ c → at (share cs c) d ≡ at cs d
unfolding share
share_other cs zero d n = refl
share_other cs (suc i) d n = put_other cs (suc i) d (counted (at cs (suc i)) (suc (count_of cs (suc i)))) n

pub share-length : (cs : List Cell) (c : ℕ) → length (share cs c) ≡ length cs
unfolding share
share-length cs zero = refl
share-length cs (suc i) = put-length cs (suc i) (counted (at cs (suc i)) (suc (count_of cs (suc i))))

pub share-put : (cs : List Cell) (c x : ℕ) (y : Cell) → c ≢ x → put (share cs c) x y ≡ share (put cs x y) c
unfolding share
share-put cs zero x y n = refl
share-put cs (suc i) x y n =
    put_comm cs (suc i) x (counted (at cs (suc i)) (suc (count_of cs (suc i)))) y n
    ∙ ap (λ (z : Cell). put (put cs x y) (suc i) (counted z (suc z.count))) (sym (put_other cs x (suc i) y n))

pub share_live : (cs : List Cell) (c d : ℕ) → NullOrLive cs c → NullOrLive cs d → NullOrLive (share cs c) d
unfolding share
share_live cs zero d o l = l
share_live cs (suc i) d o (inl e) = inl e
share_live cs (suc i) d (inl e) (inr l) = absurd (omega arith)
share_live cs (suc i) d (inr k) (inr l) = inr (go (ℕ_discrete d (suc i)))
  where
    y : Cell
    y = counted (at cs (suc i)) (suc (count_of cs (suc i)))

    go : Dec (d ≡ suc i) → Live (put cs (suc i) y) d
    go (yes e) =
        let inside = live_cell cs (suc i) k in
        subst (Live (put cs (suc i) y)) (sym e) (omega (arith, ap (λ (z : Cell). z.count) (put_same cs (suc i) y inside.0 inside.1)))
    go (no n) = omega (arith, ap (λ (z : Cell). z.count) (put_other cs (suc i) d y n))

pub put_live : (cs : List Cell) (x c : ℕ) (y : Cell) → c ≢ x → NullOrLive cs c → NullOrLive (put cs x y) c
put_live cs x c y n (inl e) = inl e
put_live cs x c y n (inr l) = inr (omega (arith, ap (λ (z : Cell). z.count) (put_other cs x c y n)))
