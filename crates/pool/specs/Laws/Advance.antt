-- What ADV does to a sound pool: element and tail are borrowed, then the old list is erased.
use Rattle.std.specs.Prelude.{◌≡◌, refl, ◌≢◌, List, ℕ, ◌+◌, ◌≤◌, ◌<◌, length, get_or}
use Rattle.std.proofs.Common.{sym, ap, ◌∙◌, subst, inl, inr, arith}
use Rattle.std.proofs.Math.Decide.{ℕ_discrete}
use Rattle.lists.specs.Lst.{Lst, atom, list}
use Rattle.pool.specs.Tally.{same, occ}
use Rattle.pool.specs.Laws.TallyLaws.{same_ne}
use Rattle.pool.specs.Pool.{Cell, Pool, kind_of, elem_of, next_of, holder, Live, NullOrLive, ListAt, Sound}
use Rattle.pool.specs.Erase.{Dropping, dropped}
use Rattle.pool.specs.Operations.{share, item, adv}
use Rattle.pool.specs.Laws.Frame.{Kept, ListAt_grown, ListAt-kept}
use Rattle.pool.specs.Laws.DropRun.{Dropped, drops}
use Rattle.pool.specs.Laws.SoundLaws.{none_aside, sound_held, held_sound}
use Rattle.pool.specs.Laws.Holders.{both, occ-both, both_a, both-b, both-other}
use Rattle.pool.specs.Laws.Steps.{Shared, shared}
use Rattle.pool.specs.Laws.Prefix.{Stay}
use Rattle.pool.specs.Laws.Decap.{item-atom, item_list}

pub record Adv (p : Pool) (a b : ℕ) (q : Pool) : Type 0 where
  pub sound : Sound q
  pub atoms : (v : ℕ) (l : Lst) → ListAt p.cells (holder p a) (atom v l)
      → (elem_of p.cells (holder p a) ≡ v) × ListAt q.cells (holder q a) l × (holder q b ≡ 0)
  pub lists : (e l : Lst) → ListAt p.cells (holder p a) (list e l) → ListAt q.cells (holder q a) l × ListAt q.cells (holder q b) e
  pub others : Stay p q (λ i. (i ≢ a) × (i ≢ b))

pub null_or_item : (cs : List Cell) (x : ℕ) → kind_of cs x ≤ 1 → (kind_of cs x ≡ 1 → NullOrLive cs (elem_of cs x)) → NullOrLive cs (item cs x)
null_or_item cs x k f = go (ℕ_discrete (kind_of cs x) 0)
  where
    go : Dec (kind_of cs x ≡ 0) → NullOrLive cs (item cs x)
    go (yes e) = inl (item-atom (kind_of cs x) (elem_of cs x) e)
    go (no e) =
        let one : kind_of cs x ≡ 1 = omega arith in
        subst (NullOrLive cs) (sym (item_list (kind_of cs x) (elem_of cs x) one)) (f one)

pub grown_null : (cs ds : List Cell) (c : ℕ) → Kept ds cs → NullOrLive cs c → NullOrLive ds c
grown_null cs ds c k (inl e) = inl e
grown_null cs ds c k (inr l) = inr (k c l).0

-- element and tail are borrowed for b and a: the old list is one root more
pub lends : (p : Pool) (a b : ℕ) → Sound p → (la : a < length p.holders) (lb : b < length p.holders) (ab : a ≢ b) → holder p b ≡ 0
    → Live p.cells (holder p a)
    → let x = holder p a in
    let e = item p.cells x in
    let nx = next_of p.cells x in
    Shared p.free p.cells e (λ d. occ p.holders d + same e d)
    × Shared p.free (share p.cells e) nx (λ d. same x d + occ (both p.holders a b nx e la lb ab) d)
lends p a b s la lb ab nb lx =
    let f = p.free in
    let cs = p.cells in
    let hs = p.holders in
    let x = holder p a in
    let h = sound_held p s in
    let nx = next_of cs x in
    let e = item cs x in
    let r₁ : ℕ → ℕ = λ d. occ hs d + same e d in
    let cs₁ : List Cell = share cs e in
    let w₁ : Shared f cs e r₁ = shared f cs (occ hs) r₁ e h (null_or_item cs x (h.kinds x lx) (λ k. s.elems x lx k)) (λ d n. refl) in (
      w₁,
      shared f cs₁ r₁ (λ d. same x d + occ (both hs a b nx e la lb ab) d) nx w₁.held (grown_null cs cs₁ nx w₁.grown (s.nexts x lx))
          (λ d n. omega (arith, occ-both hs a b nx e la lb ab d, ap (λ u. same u d) nb, same_ne 0 d (λ q. n (sym q)))),
    )

-- a holder that is not null names a live cell
pub holder_live : (p : Pool) (a : ℕ) → Sound p → holder p a ≢ 0 → Live p.cells (holder p a)
holder_live p a s n = go (s.holds a)
  where
    go : NullOrLive p.cells (holder p a) → Live p.cells (holder p a)
    go (inl q) = absurd (n q)
    go (inr l) = l

pub adv-does : (p : Pool) (a b : ℕ) → Sound p → a < length p.holders → b < length p.holders → a ≢ b → holder p b ≡ 0 → holder p a ≢ 0
    → Adv p a b (adv p a b)
unfolding adv ListAt
adv-does p a b s la lb ab nb na =
    let f = p.free in
    let cs = p.cells in
    let hs = p.holders in
    let x = holder p a in
    let nx = next_of cs x in
    let e = item cs x in
    let hs' : List ℕ = both hs a b nx e la lb ab in
    let cs₁ : List Cell = share cs e in
    let cs₂ : List Cell = share cs₁ nx in
    let (w₁, w₂) = lends p a b s la lb ab nb (holder_live p a s na) in
    let z : Dropping = dropped f cs₂ x in
    let w : Dropped (occ hs') cs₂ z = drops (occ hs') f cs₂ x w₂.held in
    let t : Sound (adv p a b) = held_sound (adv p a b) w.held in
    let ea = both_a hs a b nx e la lb ab in
    let eb = both-b hs a b nx e la lb ab in
    let stay : (l : Lst) (i : ℕ) → ListAt cs (get_or hs' i 0) l → ListAt z.cells (get_or hs' i 0) l =
    λ l i k. ListAt-kept z.free cs₂ z.cells (occ hs') none_aside w.kept w.held l (get_or hs' i 0) (t.holds i)
    (ListAt_grown cs₁ cs₂ w₂.grown l (get_or hs' i 0) (ListAt_grown cs cs₁ w₁.grown l (get_or hs' i 0) k)) in
    record {
      sound = t;
      atoms = λ v l k. (k.2, stay l a (subst (λ u. ListAt cs u l) (sym ea) k.3), eb ∙ item-atom (kind_of cs x) (elem_of cs x) k.1);
      lists = λ g l k. (stay l a (subst (λ u. ListAt cs u l) (sym ea) k.3), stay g b (subst (λ u. ListAt cs u g) (sym (eb ∙ item_list (kind_of cs x) (elem_of cs x) k.1)) k.2));
      others = λ i l n k. stay l i (subst (λ u. ListAt cs u l) (sym (both-other hs a b nx e la lb ab i n.0 n.1)) k);
    }
