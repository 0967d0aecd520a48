-- The loop of INV ends on a list whose cells are its own, and makes what the operation is defined to make.
-- By induction on the list, with the step of the pool's own proof.
use Rattle.std.specs.Prelude.{◌≡◌, refl, ◌≢◌, ◌⊎◌, false}
use Rattle.std.proofs.Common.{sym, ap, ◌∙◌, inr, arith, eq-eqb, ne_eqb, get_or-set_same}
use Rattle.std.proofs.Math.Path.{subst}
use mathlib.Core.List.{List}
use Prim.Native.Nat.{ℕ, zero, suc, ◌+◌, ◌≤◌, ◌<◌}
use Rattle.std.proofs.Math.Decide.{ℕ_discrete}
use Rattle.std.proofs.Math.ListN.{length}
use Rattle.cells.specs.Laws.RangeLaws.{null_or_high}
use Rattle.lists.specs.Lst.{Lst, nil, atom, list, len}
use Rattle.loops.specs.Loop.{run, Runs, stop, more}
use Rattle.loops.specs.Laws.LoopLaws.{run_halt, run_go}
use Rattle.pool.specs.Laws.Edit.{live_cell}
use Rattle.pool.specs.Laws.Held.{Held, reroot, root_live}
use Rattle.pool.specs.Laws.Holders.{but, occ-take}
use Rattle.pool.specs.Laws.Inverse.{Alone, Alone_like, turn, without, list_after, flip_end, flip-next, inv-does}
use Rattle.pool.specs.Laws.Level.{alone}
use Rattle.pool.specs.Operations.{flip, inv, shared_at}
use Rattle.pool.specs.Pool.{Cell, Pool, at, count_of, next_of, set_count, set_next, holder, Live, ListAt, gives, Sound}
use Rattle.pool.specs.Laws.Reach.{len_le}
use Rattle.pool.specs.Laws.SoundLaws.{none_aside, sound_held, denoted}
use Rattle.pool.specs.Tally.{same, occ}
use Rattle.pool.specs.Laws.TallyLaws.{same_eq, same_ne}
use Rattle.pool.specs.Setters.{celled, put_holder}
use Rattle.levels.specs.Turning.{Turning, turning, over, moved, Sure, turned, Turns}

root_top : (f : ℕ) (cs : List Cell) (r : ℕ → ℕ) (c : ℕ) → Held f cs r none_aside → (c ≢ 0 → 0 < r c) → c ≤ length cs
root_top f cs r c h l = go (ℕ_discrete c 0)
  where
    go : Dec (c ≡ 0) → c ≤ length cs
    go (yes e) = omega arith
    go (no n) = (live_cell cs c (root_live f cs r none_aside c h n (l n))).1

-- one turn, whatever the element
turns-on : (f : ℕ) (r : ℕ → ℕ) (cs : List Cell) (x y : ℕ) (l : Lst) (n : ℕ) → Held f cs (λ d. same x d + same y d + r d) none_aside → Live cs x
    → count_of cs x ≡ 1 → ListAt cs (next_of cs x) l → Alone cs (next_of cs x) l
    → ((ds : List Cell) → Held f ds (λ d. same (next_of cs x) d + same x d + r d) none_aside → ListAt ds (next_of cs x) l → Alone ds (next_of cs x) l
    → Runs over moved Sure n (turning ds (next_of cs x) x))
    → Runs over moved Sure (suc n) (turning cs x y)
unfolding moved gives
turns-on f r cs x y l n h lx one ln on ih =
    let t = turn f cs x y r h one in
    let inside = live_cell cs x lx in
    let tail : (next_of cs x ≡ 0) ⊎ (0 < gives (next_of cs x) (at cs x) + same y (next_of cs x) + r (next_of cs x)) = inr (omega (arith, same_eq (next_of cs x))) in
    more (ne_eqb x 0 (omega arith))
    (record { here = inside; back = root_top f cs (λ d. same x d + same y d + r d) y h (λ _. omega (arith, same_eq y)) })
    (ih (set_next cs x y) t.held (list_after f cs x y r t l (next_of cs x) tail ln)
    (Alone_like (set_count cs x 0) cs (set_next cs x y) t.like l (next_of cs x) (without f cs x y r t l (next_of cs x) tail ln) on))

turns : (f : ℕ) (r : ℕ → ℕ) (l : Lst) (cs : List Cell) (x y : ℕ) → Held f cs (λ d. same x d + same y d + r d) none_aside → ListAt cs x l → Alone cs x l
    → Runs over moved Sure (len l) (turning cs x y)
unfolding len ListAt Alone
turns f r nil cs x y h w o = stop (eq-eqb x 0 w)
turns f r (atom v l) cs x y h w o = turns-on f r cs x y l (len l) h w.0 o.0 w.3 o.1 (λ ds h' w' o'. turns f r l ds (next_of cs x) x h' w' o')
turns f r (list e l) cs x y h w o = turns-on f r cs x y l (len l) h w.0 o.0 w.3 o.1 (λ ds h' w' o'. turns f r l ds (next_of cs x) x h' w' o')

-- the loop is the one that INV is defined by
pub is_flip : (k : ℕ) (cs : List Cell) (x y : ℕ) → (let w = run over moved k (turning cs x y) in flip k cs x y ≡ (w.cells, w.turned))
unfolding run flip moved
is_flip zero cs x y = refl
is_flip (suc k) cs x y = go (ℕ_discrete x 0) (is_flip k (set_next cs x y) (next_of cs x) x)
  where
    go : Dec (x ≡ 0) → (let w = run over moved k (turning (set_next cs x y) (next_of cs x) x) in flip k (set_next cs x y) (next_of cs x) x ≡ (w.cells, w.turned))
        → (let w = run over moved (suc k) (turning cs x y) in flip (suc k) cs x y ≡ (w.cells, w.turned))
    go (yes e) ih = flip_end (suc k) cs x y e ∙ ap (λ (w : Turning). (w.cells, w.turned)) (sym (run_halt over moved (suc k) (turning cs x y) (eq-eqb x 0 e)))
    go (no n) ih = flip-next k cs x y n ∙ ih ∙ ap (λ (w : Turning). (w.cells, w.turned)) (sym (run_go over moved k (turning cs x y) (ne_eqb x 0 n)))

module _ (p : Pool) (a : ℕ) (s : Sound p) (l : a < length p.holders) (o : shared_at p a ≡ false) where
  -- a holder's list that shares no cell of its main level can be turned
  pub own_turns : Turns p (holder p a)
  own_turns =
      let (m, w) = denoted p s a in
      let h = sound_held p s in
      record {
        turns = len m;
        runs = turns p.free (but p.holders a) m p.cells (holder p a) 0
            (reroot p.free p.cells (occ p.holders) none_aside (λ d. same (holder p a) d + same 0 d + but p.holders a d) none_aside h
            (λ d n. omega (arith, occ-take p.holders a d l n, same_ne 0 d (λ q. n (sym q)))) (λ d. refl))
            w (alone p a m s w o);
        short = len_le p.free p.cells (occ p.holders) none_aside h m (holder p a) w;
      }

  -- the new first cell is in range
  pub head_top : (turned p (holder p a)).1 ≤ length (turned p (holder p a)).0
  unfolding inv
  head_top =
      let (m, w) = denoted p s a in
      let f : List Cell × ℕ = turned p (holder p a) in
      subst (λ u. u ≤ length f.0) (get_or-set_same p.holders a f.1 0 l)
      (null_or_high f.0 (holder (inv p a) a) ((inv-does p a m s l w (alone p a m s w o)).sound.holds a))

pub is_inv : (p : Pool) (a : ℕ) → put_holder a (turned p (holder p a)).1 (celled (turned p (holder p a)).0 p) ≡ inv p a
unfolding inv
is_inv p a = refl
