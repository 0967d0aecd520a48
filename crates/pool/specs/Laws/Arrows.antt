-- Chains and walks in other cells that are alike where it counts, and the arrows that a cell sends, by its count and its type.
use Rattle.std.specs.Prelude.{◌≡◌, refl, ◌⊎◌, cond, List, [], ◌∷◌, ℕ, zero, suc, ◌+◌, ◌≤◌, ◌<◌, eqb}
use Rattle.std.proofs.Common.{subst, inl, inr, arith}
use Rattle.pool.specs.Tally.{same, tally, occ}
use Rattle.pool.specs.Laws.TallyLaws.{same_eq, same_of}
use Rattle.pool.specs.Pool.{Cell, blank, at, next_of, counted, if_live, gives, sends, into, StepOf, Step, Walk, Chain}
use Rattle.pool.specs.Laws.Edit.{at-tally}

pub Chain_frame : (cs ds : List Cell) (c : ℕ) (fs : List ℕ) → ((f : ℕ) → 0 < occ fs f → next_of ds f ≡ next_of cs f) → Chain cs c fs → Chain ds c fs
unfolding Chain tally
Chain_frame cs ds c [] s h = h
Chain_frame cs ds c (f ∷ fs) s h =
    let e = s f (omega (arith, same_eq f)) in
    (h.0, h.1, rw e (Chain_frame cs ds (next_of cs f) fs (λ g k. s g (omega arith)) h.2))

pub Walk-map : (cs ds : List Cell) → ((c d : ℕ) → Step cs c d → Step ds c d) → (n c d : ℕ) → Walk cs n c d → Walk ds n c d
unfolding Walk
Walk-map cs ds f zero c d w = w
Walk-map cs ds f (suc n) c d w = (w.0, f c w.0 w.1, Walk-map cs ds f n w.0 d w.2)

pub Walk_snoc : (cs : List Cell) (n c d e : ℕ) → Walk cs n c d → Step cs d e → Walk cs (suc n) c e
unfolding Walk
Walk_snoc cs zero c d e w s = (e, rw w s, refl)
Walk_snoc cs (suc n) c d e w s = (w.0, w.1, Walk_snoc cs n w.0 d e w.2 s)

-- the last step
pub Walk-last : (cs : List Cell) (n c d : ℕ) → Walk cs (suc n) c d → (b : ℕ) × Step cs b d
unfolding Walk
Walk-last cs zero c d w = (c, subst (Step cs c) w.2 w.1)
Walk-last cs (suc n) c d w = Walk-last cs n w.0 d w.2

pub if_live_pos : (k n : ℕ) → 0 < k → if_live k n ≡ n
unfolding if_live
if_live_pos zero n h = absurd (omega arith)
if_live_pos (suc k) n h = refl

pub if_live-zero : (k n : ℕ) → k ≡ 0 → if_live k n ≡ 0
unfolding if_live
if_live-zero zero n h = refl
if_live-zero (suc k) n h = absurd (omega arith)

pub sends_live : (d : ℕ) (x : Cell) → 0 < x.count → sends d x ≡ gives d x
unfolding sends
sends_live d x h = if_live_pos x.count (gives d x) h

pub sends-free : (d : ℕ) (x : Cell) → x.count ≡ 0 → sends d x ≡ 0
unfolding sends
sends-free d x h = if_live-zero x.count (gives d x) h

pub gives-counted : (d : ℕ) (x : Cell) (k : ℕ) → gives d (counted x k) ≡ gives d x
unfolding gives
gives-counted d x k = refl

cond-one : (k n : ℕ) → k ≡ 1 → cond (eqb k 1) n 0 ≡ n
cond-one k n e = rw e refl

cond-zero : (k n : ℕ) → k ≡ 0 → cond (eqb k 1) n 0 ≡ 0
cond-zero k n e = rw e refl

pub gives-atom : (d : ℕ) (x : Cell) → x.kind ≡ 0 → gives d x ≡ same x.next d
unfolding gives
gives-atom d x e = omega (arith, cond-zero x.kind (same x.elem d) e)

pub gives_list : (d : ℕ) (x : Cell) → x.kind ≡ 1 → gives d x ≡ same x.next d + same x.elem d
unfolding gives
gives_list d x e = omega (arith, cond-one x.kind (same x.elem d) e)

pub step_gives : (d : ℕ) (x : Cell) → StepOf x d → 0 < gives d x
unfolding gives
step_gives d x s = go s.1
  where
    go : (x.next ≡ d) ⊎ ((x.kind ≡ 1) × (x.elem ≡ d)) → 0 < gives d x
    go (inl e) = omega (arith, same_of x.next d e)
    go (inr e) = omega (arith, same_of x.elem d e.1, cond-one x.kind (same x.elem d) e.0)

pub sends-into : (cs : List Cell) (b d : ℕ) → sends d (at cs b) ≤ into cs d
sends-into cs b d = at-tally (sends d) cs b (sends-free d blank refl)

pub step-into : (cs : List Cell) (b d : ℕ) → Step cs b d → 0 < into cs d
step-into cs b d s = omega (arith, sends-into cs b d, sends_live d (at cs b) s.0, step_gives d (at cs b) s)
