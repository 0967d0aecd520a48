-- What BORROW does to a sound pool; the holder borrowed into is null.
use Rattle.std.specs.Prelude.{◌≡◌, ◌≢◌, ℕ, ◌<◌, length, set}
use Rattle.std.proofs.Common.{sym, ap, subst, arith, get_or-set_same, get_or-set_other}
use Rattle.lists.specs.Lst.{Lst}
use Rattle.pool.specs.Tally.{same, occ}
use Rattle.pool.specs.Laws.TallyLaws.{same_ne}
use Rattle.pool.specs.Pool.{Pool, holder, ListAt, Sound}
use Rattle.pool.specs.Operations.{share, borrow}
use Rattle.pool.specs.Laws.Frame.{ListAt_grown}
use Rattle.pool.specs.Laws.SoundLaws.{sound_held, held_sound}
use Rattle.pool.specs.Laws.Holders.{occ-take, occ_give}
use Rattle.pool.specs.Laws.Steps.{Shared, shared}
use Rattle.pool.specs.Laws.Prefix.{Stay}

pub record Borrow (p : Pool) (a b : ℕ) (q : Pool) : Type 0 where
  pub sound : Sound q
  pub gets : (l : Lst) → ListAt p.cells (holder p a) l → ListAt q.cells (holder q b) l
  pub others : Stay p q (λ i. i ≢ b)

pub borrow-does : (p : Pool) (a b : ℕ) → Sound p → b < length p.holders → holder p b ≡ 0 → Borrow p a b (borrow p a b)
unfolding borrow
borrow-does p a b s lb nb =
    let cs = p.cells in
    let hs = p.holders in
    let x = holder p a in
    let w : Shared p.free cs x (occ (set hs b x)) = shared p.free cs (occ hs) (occ (set hs b x)) x (sound_held p s) (s.holds a)
    (λ d n. omega (arith, occ_give hs b x d lb n, occ-take hs b d lb n, ap (λ u. same u d) nb, same_ne 0 d (λ q. n (sym q)))) in
    let stay : (l : Lst) (c : ℕ) → ListAt cs c l → ListAt (share cs x) c l = ListAt_grown cs (share cs x) w.grown in
    record {
      sound = held_sound (borrow p a b) w.held;
      gets = λ l h. subst (λ u. ListAt (share cs x) u l) (sym (get_or-set_same hs b x 0 lb)) (stay l x h);
      others = λ i l n h. subst (λ u. ListAt (share cs x) u l) (sym (get_or-set_other hs b i x 0 n)) (stay l (holder p i) h);
    }
