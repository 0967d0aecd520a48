-- What DECAP does to a sound pool: the first cell has one arrow, and its arrows become those of the holders.
use Rattle.std.specs.Prelude.{◌≡◌, refl, ◌≢◌, List, ℕ, zero, suc, ◌+◌, ◌≤◌, ◌<◌, length, get_or}
use Rattle.std.proofs.Common.{sym, ap, ◌∙◌, subst, arith}
use Rattle.std.proofs.Math.Decide.{ℕ_discrete}
use Rattle.lists.specs.Lst.{Lst, atom, list}
use Rattle.pool.specs.Tally.{same, occ}
use Rattle.pool.specs.Laws.TallyLaws.{same_ne}
use Rattle.pool.specs.Pool.{Cell, Pool, at, kind_of, elem_of, count_of, next_of, set_count, set_next, holder, ListAt, gives, Sound}
use Rattle.pool.specs.Operations.{item_of, item, decap}
use Rattle.pool.specs.Laws.Arrows.{gives-atom, gives_list}
use Rattle.pool.specs.Laws.Frame.{ListAt-kept}
use Rattle.pool.specs.Laws.SoundLaws.{none_aside, sound_held, held_sound}
use Rattle.pool.specs.Laws.Holders.{both, occ-both, both_a, both-b, both-other}
use Rattle.pool.specs.Laws.Steps.{Freed, freed}
use Rattle.pool.specs.Laws.Prefix.{Stay}

pub record Decap (p : Pool) (a b : ℕ) (q : Pool) : Type 0 where
  pub sound : Sound q
  pub atoms : (v : ℕ) (l : Lst) → ListAt p.cells (holder p a) (atom v l)
      → (elem_of p.cells (holder p a) ≡ v) × ListAt q.cells (holder q a) l × (holder q b ≡ 0)
  pub lists : (e l : Lst) → ListAt p.cells (holder p a) (list e l) → ListAt q.cells (holder q a) l × ListAt q.cells (holder q b) e
  pub others : Stay p q (λ i. (i ≢ a) × (i ≢ b))

pub item-atom : (t e : ℕ) → t ≡ 0 → item_of t e ≡ 0
unfolding item_of
item-atom zero e q = refl
item-atom (suc t) e q = absurd (omega arith)

pub item_list : (t e : ℕ) → t ≡ 1 → item_of t e ≡ e
unfolding item_of
item_list zero e q = absurd (omega arith)
item_list (suc t) e q = refl

pub gives-item : (cs : List Cell) (x d : ℕ) → kind_of cs x ≤ 1 → d ≢ 0 → gives d (at cs x) ≡ same (next_of cs x) d + same (item cs x) d
gives-item cs x d k n = go (ℕ_discrete (kind_of cs x) 0)
  where
    go : Dec (kind_of cs x ≡ 0) → gives d (at cs x) ≡ same (next_of cs x) d + same (item cs x) d
    go (yes e) = omega (arith, gives-atom d (at cs x) e, ap (λ u. same u d) (item-atom (kind_of cs x) (elem_of cs x) e), same_ne 0 d (λ q. n (sym q)))
    go (no e) =
        let one : kind_of cs x ≡ 1 = omega arith in
        omega (arith, gives_list d (at cs x) one, ap (λ u. same u d) (item_list (kind_of cs x) (elem_of cs x) one))

pub decap-does : (p : Pool) (a b : ℕ) → Sound p → a < length p.holders → b < length p.holders → a ≢ b → holder p b ≡ 0
    → count_of p.cells (holder p a) ≡ 1 → Decap p a b (decap p a b)
unfolding decap ListAt
decap-does p a b s la lb ab nb one =
    let cs = p.cells in
    let hs = p.holders in
    let x = holder p a in
    let h = sound_held p s in
    let hs' : List ℕ = both hs a b (next_of cs x) (item cs x) la lb ab in
    let w : Freed p.free cs x (occ hs') = freed p.free cs (occ hs) (occ hs') x h one
    (λ d n. omega (arith, occ-both hs a b (next_of cs x) (item cs x) la lb ab d, gives-item cs x d (h.kinds x (omega arith)) n, ap (λ u. same u d) nb, same_ne 0 d (λ q. n (sym q)))) in
    let ds : List Cell = set_next (set_count cs x 0) x p.free in
    let t : Sound (decap p a b) = held_sound (decap p a b) w.held in
    let ea = both_a hs a b (next_of cs x) (item cs x) la lb ab in
    let eb = both-b hs a b (next_of cs x) (item cs x) la lb ab in
    let stay : (l : Lst) (i : ℕ) → ListAt cs (get_or hs' i 0) l → ListAt ds (get_or hs' i 0) l =
    λ l i k. ListAt-kept x cs ds (occ hs') none_aside w.kept w.held l (get_or hs' i 0) (t.holds i) k in
    record {
      sound = t;
      atoms = λ v l k. (k.2, stay l a (subst (λ u. ListAt cs u l) (sym ea) k.3), eb ∙ item-atom (kind_of cs x) (elem_of cs x) k.1);
      lists = λ e l k. (stay l a (subst (λ u. ListAt cs u l) (sym ea) k.3), stay e b (subst (λ u. ListAt cs u e) (sym (eb ∙ item_list (kind_of cs x) (elem_of cs x) k.1)) k.2));
      others = λ i l n k. stay l i (subst (λ u. ListAt cs u l) (sym (both-other hs a b (next_of cs x) (item cs x) la lb ab i n.0 n.1)) k);
    }
