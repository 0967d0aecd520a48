-- What CONC does to a sound pool, where every main-level count of a is 1, or b is null.
use Rattle.std.specs.Prelude.{◌≡◌, ◌≢◌, ◌⊎◌, length}
use Rattle.std.proofs.Math.Path.{refl, sym, ap, subst}
use Rattle.std.proofs.Common.{◌∙◌, arith}
use mathlib.Core.List.{List}
use Prim.Native.Nat.{ℕ, zero, suc, ◌+◌, ◌<◌}
use Rattle.std.proofs.Math.ListN.{set}
use Rattle.lists.specs.Lst.{Lst, joined}
use Rattle.lists.specs.Laws.LstLaws.{joined-nil}
use Rattle.pool.specs.Tally.{same, occ}
use Rattle.pool.specs.Laws.TallyLaws.{same_ne}
use Rattle.pool.specs.Pool.{Cell, Pool, set_next, holder, ListAt, Sound}
use Rattle.pool.specs.Operations.{last_of, conc_at, conc}
use Rattle.pool.specs.Laws.Held.{reroot}
use Rattle.pool.specs.Laws.Reach.{len_le}
use Rattle.pool.specs.Laws.SoundLaws.{none_aside, sound_held, held_sound}
use Rattle.pool.specs.Laws.Holders.{root_of, occ-both, both_a, both-b, both-other}
use Rattle.pool.specs.Laws.Prefix.{Stay}
use Rattle.pool.specs.Laws.Inverse.{Alone}
use Rattle.pool.specs.Laws.LastCell.{last_is}
use Rattle.pool.specs.Laws.Join.{Joined, null_list_lem, joins}

pub record Conc (p : Pool) (a b : ℕ) (l m : Lst) (q : Pool) : Type 0 where
  pub sound : Sound q
  pub gets : ListAt q.cells (holder q a) (joined l m)
  pub null : holder q b ≡ 0
  pub others : Stay p q (λ i. (i ≢ a) × (i ≢ b))

module _ (p : Pool) (a b : ℕ) (l m : Lst) (s : Sound p) (la : a < length p.holders) (lb : b < length p.holders) (ab : a ≢ b)
    (wa : ListAt p.cells (holder p a) l) (wb : ListAt p.cells (holder p b) m) (o : holder p b ≢ 0 → Alone p.cells (holder p a) l) where
  conc-at : (x y : ℕ) → holder p a ≡ x → holder p b ≡ y → Conc p a b l m (conc_at p a b x y)
  unfolding conc_at joined
  conc-at x zero ex ey = record {
    sound = s;
    gets = subst (λ u. ListAt p.cells (holder p a) (joined l u)) (null_list_lem p.cells (holder p b) m ey wb)
        (subst (ListAt p.cells (holder p a)) (sym (joined-nil l)) wa);
    null = ey;
    others = λ i n q w. w;
  }
  conc-at zero (suc j) ex ey =
      let hs = p.holders in
      let q : Pool = record { free = p.free; holders = set (set hs a (suc j)) b 0; cells = p.cells } in
      record {
        sound = held_sound q (reroot p.free p.cells (occ hs) none_aside (occ (set (set hs a (suc j)) b 0)) none_aside (sound_held p s)
            (λ d n. omega (arith, occ-both hs a b (suc j) 0 la lb ab d, ap (λ u. same u d) ex, ap (λ u. same u d) ey, same_ne 0 d (λ q. n (sym q)))) (λ d. refl));
        gets = subst (λ u. ListAt p.cells (holder q a) (joined u m)) (null_list_lem p.cells (holder p a) l ex wa)
            (subst (λ u. ListAt p.cells u m) (ey ∙ sym (both_a hs a b (suc j) 0 la lb ab)) wb);
        null = both-b hs a b (suc j) 0 la lb ab;
        others = λ i n g w. subst (λ u. ListAt p.cells u n) (sym (both-other hs a b (suc j) 0 la lb ab i g.0 g.1)) w;
      }
  conc-at (suc i) (suc j) ex ey =
      let hs = p.holders in
      let cs = p.cells in
      let x = suc i in
      let y = suc j in
      let r : ℕ → ℕ = occ (set (set hs a 0) b 0) in
      let h = sound_held p s in
      let z = last_of (length cs) cs x in
      let ds : List Cell = set_next cs z y in
      let wa' : ListAt cs x l = subst (λ u. ListAt cs u l) ex wa in
      let hs' : List ℕ = set (set hs a x) b 0 in
      let q : Pool = record { free = p.free; holders = hs'; cells = ds } in
      let g : Joined p.free cs x l m r none_aside ds = joins p.free y z m l cs x r none_aside
      (reroot p.free cs (occ hs) none_aside (λ d. same x d + same y d + r d) none_aside h
      (λ d n. omega (arith, occ-both hs a b 0 0 la lb ab d, ap (λ u. same u d) ex, ap (λ u. same u d) ey, same_ne 0 d (λ q. n (sym q)))) (λ d. refl))
      wa' (subst (λ u. Alone cs u l) ex (o (omega arith)))
      (last_is l (length cs) cs x wa' (omega arith) (omega (arith, len_le p.free cs (occ hs) none_aside h l x wa')))
      (subst (λ u. ListAt cs u m) ey wb) in
      record {
        sound = held_sound q (reroot p.free ds (λ d. same x d + r d) none_aside (occ hs') none_aside g.held
            (λ d n. omega (arith, occ-both hs a b 0 0 la lb ab d, occ-both hs a b x 0 la lb ab d, same_ne 0 d (λ q. n (sym q)))) (λ d. refl));
        gets = subst (λ u. ListAt ds u (joined l m)) (sym (both_a hs a b x 0 la lb ab)) g.gets;
        null = both-b hs a b x 0 la lb ab;
        others = λ k n e w. subst (λ u. ListAt ds u n) (sym (both-other hs a b x 0 la lb ab k e.0 e.1))
            (g.others (holder p k) n (subst (λ u. (u ≡ 0) ⊎ (0 < r u)) (both-other hs a b 0 0 la lb ab k e.0 e.1) (root_of (set (set hs a 0) b 0) k)) w);
      }

  pub conc-does : Conc p a b l m (conc p a b)
  unfolding conc
  conc-does = conc-at (holder p a) (holder p b) refl refl
