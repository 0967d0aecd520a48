-- ADV by the first count. Where it is 1, the pool is DECAP's; where it is over 1, one is taken off it and no cell is freed.
-- Each step of erasing is made by computation: an arrow lent before is given back.
use Rattle.std.specs.Prelude.{◌≡◌, ◌≢◌, ◌⊎◌, ℕ, zero, suc, ◌+◌, ◌*◌, ◌-◌, ◌<◌, length}
use Rattle.std.proofs.Math.Path.{refl, ap}
use Rattle.std.proofs.Common.{sym, ◌∙◌, subst, inl, inr, arith, length-set}
use mathlib.Core.List.{List}
use Rattle.std.proofs.Math.ListN.{set}
use Rattle.pool.specs.Tally.{same, occ}
use Rattle.pool.specs.Laws.TallyLaws.{same_eq, same_ne}
use Rattle.pool.specs.Pool.{Cell, Pool, at, put, kind_of, elem_of, count_of, next_of, counted, followed, set_count, set_next, holder, Live, NullOrLive, InPool, Walk, Sound}
use Rattle.pool.specs.Erase.{Dropping, visit, step}
use Rattle.pool.specs.Operations.{share, item, decap, adv}
use Rattle.pool.specs.Laws.Edit.{put_same, live_cell, put-put, put-at}
use Rattle.pool.specs.Laws.ShareLaws.{share_other, share-length, share-put, share_live, put_live}
use Rattle.pool.specs.Laws.Visit.{step-at, step-pop, visit-shared, visit-atom, visit_list, dropping-path, Leads, stay, once, onward, dropped_is}
use Rattle.pool.specs.Laws.SoundLaws.{none_aside, sound_held}
use Rattle.pool.specs.Laws.Holders.{occ-both}
use Rattle.pool.specs.Laws.Decap.{item-atom, item_list}
use Rattle.pool.specs.Laws.Advance.{null_or_item, lends}
use Rattle.pool.specs.Laws.Bound.{held_bound, occ_le}

-- an arrow lent to c is given back
give_back : (f : ℕ) (cs : List Cell) (c b n : ℕ) → NullOrLive cs c
    → Leads (record { free = f; cells = share cs c; here = c; waiting = b; freed = n }) (record { free = f; cells = cs; here = 0; waiting = b; freed = n })
unfolding share step
give_back f cs zero b n o = stay (record { free = f; cells = cs; here = 0; waiting = b; freed = n })
give_back f cs (suc i) b n (inl e) = absurd (omega arith)
give_back f cs (suc i) b n (inr l) =
    let c = suc i in
    let k = count_of cs c in
    let y : Cell = counted (at cs c) (suc k) in
    let inside = live_cell cs c l in
    let here : at (put cs c y) c ≡ y = put_same cs c y inside.0 inside.1 in
    let less : count_of (put cs c y) c - 1 ≡ k = omega (arith, ap (λ (z : Cell). z.count) here) in
    let back : set_count (put cs c y) c k ≡ cs = ap (λ (z : Cell). put (put cs c y) c (counted z k)) here ∙ put-put cs c y (counted y k) ∙ put-at cs c in
    once (record { free = f; cells = put cs c y; here = c; waiting = b; freed = n }) (record { free = f; cells = cs; here = 0; waiting = b; freed = n })
    (ap (λ (j : ℕ). visit f (put cs c y) c b n j (kind_of (put cs c y) c)) less ∙ visit-shared f (put cs c y) c b n k (kind_of (put cs c y) c) (omega arith)
    ∙ dropping-path refl back refl refl refl)

-- the first cell x, which is neither its own successor nor its own element, with element and tail lent
module _ (f : ℕ) (cs : List Cell) (x : ℕ) (live : Live cs x) (loose : next_of cs x ≢ x) (flat : item cs x ≢ x) where
  abbrev lent : List Cell
  lent = share (share cs (item cs x)) (next_of cs x)

  abbrev begun : Dropping
  begun = record { free = f; cells = lent; here = x; waiting = 0; freed = 0 }

  same-cell : at lent x ≡ at cs x
  same-cell = share_other (share cs (item cs x)) (next_of cs x) x (λ q. loose (sym q)) ∙ share_other cs (item cs x) x (λ q. flat (sym q))

  -- its step, where k is its count less one
  visits : (k : ℕ) → count_of cs x - 1 ≡ k → step f lent x 0 0 ≡ visit f lent x 0 0 k (kind_of cs x)
  visits k e =
      step-at f lent x 0 0 (live_cell cs x live).0
      ∙ ap (λ (z : Cell). visit f lent x 0 0 (z.count - 1) z.kind) same-cell
      ∙ ap (λ (j : ℕ). visit f lent x 0 0 j (kind_of cs x)) e

  abbrev lowered : Dropping
  lowered = record { free = f; cells = set_count lent x (count_of cs x - 1); here = 0; waiting = 0; freed = 0 }

  leads-lowered : 1 < count_of cs x → Leads begun lowered
  leads-lowered l = once begun lowered (visits (count_of cs x - 1) refl ∙ visit-shared f lent x 0 0 (count_of cs x - 1) (kind_of cs x) (omega arith))

  -- x with no arrow, followed by v
  abbrev spent : ℕ → Cell
  spent v = followed (counted (at cs x) 0) v

  abbrev without : ℕ → List Cell
  without v = put cs x (spent v)

  emptied : (ds : List Cell) (v : ℕ) → at ds x ≡ at cs x → InPool ds x → set_next (set_count ds x 0) x v ≡ put ds x (spent v)
  emptied ds v e i =
      let y : Cell = counted (at ds x) 0 in
      ap (λ (z : Cell). put (put ds x y) x (followed z v)) (put_same ds x y i.0 i.1) ∙ put-put ds x y (followed y v)
      ∙ ap (λ (z : Cell). put ds x (followed (counted z 0) v)) e

  lent-without : (v : ℕ) → set_next (set_count lent x 0) x v ≡ share (share (without v) (item cs x)) (next_of cs x)
  lent-without v =
      let i = live_cell lent x (omega (arith, ap (λ (z : Cell). z.count) same-cell)) in
      emptied lent v same-cell i ∙ share-put (share cs (item cs x)) (next_of cs x) x (spent v) loose
      ∙ ap (λ (ds : List Cell). share ds (next_of cs x)) (share-put cs (item cs x) x (spent v) flat)

  module _ (one : count_of cs x ≡ 1) (next-is : NullOrLive cs (next_of cs x)) (item_is : NullOrLive cs (item cs x)) where
    item-there : (v : ℕ) → NullOrLive (without v) (item cs x)
    item-there v = put_live cs x (item cs x) (spent v) flat item_is

    next-there : (v : ℕ) → NullOrLive (share (without v) (item cs x)) (next_of cs x)
    next-there v = share_live (without v) (item cs x) (next_of cs x) (item-there v) (put_live cs x (next_of cs x) (spent v) loose next-is)

    abbrev ended : Dropping
    ended = record { free = x; cells = without f; here = 0; waiting = 0; freed = 1 }

    first : step f lent x 0 0 ≡ visit f lent x 0 0 0 (kind_of cs x)
    first = visits 0 (omega arith)

    next-same : next_of lent x ≡ next_of cs x
    next-same = ap (λ (z : Cell). z.next) same-cell

    leads-atom : kind_of cs x ≡ 0 → Leads begun ended
    unfolding share
    leads-atom atom =
        let none : item cs x ≡ 0 = item-atom (kind_of cs x) (elem_of cs x) atom in
        onward
        (once begun (record { free = x; cells = share (share (without f) (item cs x)) (next_of cs x); here = next_of cs x; waiting = 0; freed = 1 })
        (first ∙ visit-atom f lent x 0 0 0 (kind_of cs x) refl atom ∙ dropping-path refl (lent-without f) next-same refl (omega arith)))
        (subst (λ (ds : List Cell). Leads
        (record {
          free = x;
          cells = share (share (without f) (item cs x))
              (next_of cs x);
          here = next_of cs x;
          waiting = 0;
          freed = 1;
        }) (record { free = x; cells = ds; here = 0; waiting = 0; freed = 1 }))
        (ap (share (without f)) none)
        (give_back x (share (without f) (item cs x)) (next_of cs x) 0 1 (next-there f)))

    leads_list : kind_of cs x ≡ 1 → Leads begun ended
    leads_list list =
        let e = item cs x in
        let i = live_cell cs x live in
        let ds : List Cell = share (without 0) e in
        let there : at ds x ≡ spent 0 = share_other (without 0) e x (λ q. flat (sym q)) ∙ put_same cs x (spent 0) i.0 i.1 in
        let turned : set_next ds x f ≡ share (without f) e =
        ap (λ (z : Cell). put ds x (followed z f)) there ∙ share-put (without 0) e x (spent f) flat
        ∙ ap (λ (us : List Cell). share us e) (put-put cs x (spent 0) (spent f)) in
        onward
        (once begun (record { free = f; cells = share ds (next_of cs x); here = next_of cs x; waiting = x; freed = 0 })
        (first ∙ visit_list f lent x 0 0 0 (kind_of cs x) refl (omega arith) ∙ dropping-path refl (lent-without 0) next-same refl refl))
        (onward (give_back f ds (next_of cs x) x 0 (next-there 0))
        (onward
        (once (record { free = f; cells = ds; here = 0; waiting = x; freed = 0 })
        (record { free = x; cells = share (without f) e; here = e; waiting = 0; freed = 1 })
        (step-pop f ds 0 x 0 refl i.0
        ∙ dropping-path refl turned (ap (λ (z : Cell). z.elem) there ∙ sym (item_list (kind_of cs x) (elem_of cs x) list))
        (ap (λ (z : Cell). z.next) there) (omega arith)))
        (give_back x (without f) e 0 1 (item-there f))))

-- nothing reaches itself
next_apart : (p : Pool) (x : ℕ) → Sound p → Live p.cells x → next_of p.cells x ≢ x
unfolding Walk
next_apart p x s l q = s.acyclic x 0 l (next_of p.cells x, (l, inl refl), q)

item_apart : (p : Pool) (x : ℕ) → Sound p → Live p.cells x → item p.cells x ≢ x
unfolding Walk
item_apart p x s l q = go (s.kinds x l)
  where
    go : (kind_of p.cells x ≡ 0) ⊎ (kind_of p.cells x ≡ 1) → ⊥
    go (inl e) = omega (arith, (live_cell p.cells x l).0, sym q ∙ item-atom (kind_of p.cells x) (elem_of p.cells x) e)
    go (inr e) = s.acyclic x 0 l (elem_of p.cells x, (l, inr (e, refl)), sym (item_list (kind_of p.cells x) (elem_of p.cells x) e) ∙ q)

module _ (p : Pool) (a b : ℕ) (s : Sound p) (la : a < length p.holders) (lb : b < length p.holders) (ab : a ≢ b) (nb : holder p b ≡ 0)
    (lx : Live p.cells (holder p a)) where
  abbrev x : ℕ
  x = holder p a

  loose : next_of p.cells x ≢ x
  loose = next_apart p x s lx

  flat : item p.cells x ≢ x
  flat = item_apart p x s lx

  -- the pool by what erasing the old list comes to
  adv_is : (v : Dropping) → Leads (begun p.free p.cells x lx loose flat) v → v.here ≡ 0 → v.waiting ≡ 0
      → adv p a b ≡ record { free = v.free; holders = set (set p.holders a (next_of p.cells x)) b (item p.cells x); cells = v.cells }
  unfolding adv
  adv_is v l e g =
      ap (λ (z : Dropping). record { free = z.free; holders = set (set p.holders a (next_of p.cells x)) b (item p.cells x); cells = z.cells })
      (dropped_is (occ (set (set p.holders a (next_of p.cells x)) b (item p.cells x))) p.free (lent p.free p.cells x lx loose flat) x v
      (lends p a b s la lb ab nb lx).1.held l e g)

  pub adv-shared : 1 < count_of p.cells x → adv p a b ≡ record {
    free = p.free;
    holders = set (set p.holders a (next_of p.cells x)) b (item p.cells x);
    cells = set_count (share (share p.cells (item p.cells x)) (next_of p.cells x)) x (count_of p.cells x - 1);
  }
  adv-shared more = adv_is (lowered p.free p.cells x lx loose flat) (leads-lowered p.free p.cells x lx loose flat more) refl refl

  pub adv-alone : count_of p.cells x ≡ 1 → adv p a b ≡ decap p a b
  unfolding decap
  adv-alone one =
      adv_is (ended p.free p.cells x lx loose flat one nexts elems) (go (s.kinds x lx)) refl refl
      ∙ ap (λ (cs : List Cell). record { free = x; holders = set (set p.holders a (next_of p.cells x)) b (item p.cells x); cells = cs })
      (sym (emptied p.free p.cells x lx loose flat p.cells p.free refl (live_cell p.cells x lx)))
    where
      nexts : NullOrLive p.cells (next_of p.cells x)
      nexts = s.nexts x lx

      elems : NullOrLive p.cells (item p.cells x)
      elems = null_or_item p.cells x ((sound_held p s).kinds x lx) (s.elems x lx)

      go : (kind_of p.cells x ≡ 0) ⊎ (kind_of p.cells x ≡ 1)
          → Leads (begun p.free p.cells x lx loose flat) (ended p.free p.cells x lx loose flat one nexts elems)
      go (inl e) = leads-atom p.free p.cells x lx loose flat one nexts elems e
      go (inr e) = leads_list p.free p.cells x lx loose flat one nexts elems e

  -- the tail can be borrowed after the element: a names x, and b nothing
  pub tail-less : next_of p.cells x ≢ 0 → count_of (share p.cells (item p.cells x)) (next_of p.cells x) < length p.holders + 2 * length p.cells
  tail-less n =
      let cs = p.cells in
      let hs = p.holders in
      let nx = next_of cs x in
      let e = item cs x in
      omega (
        arith,
        held_bound p.free (share cs e) (λ d. occ hs d + same e d) none_aside (lends p a b s la lb ab nb lx).0.held nx n,
        occ-both hs a b nx e la lb ab nx,
        ap (λ u. same u nx) nb,
        same_ne 0 nx (λ q. n (sym q)),
        same_eq nx,
        same_ne x nx (λ q. loose (sym q)),
        occ_le (set (set hs a nx) b e) nx,
        length-set (set hs a nx) b e,
        length-set hs a nx,
        share-length cs e,
      )
