-- What CINV does to a sound pool with room: a new reversed copy of a main level, its lists borrowed.
use Rattle.std.specs.Prelude.{◌≡◌, refl, ◌≢◌, List, [], ◌∷◌, ℕ, zero, suc, ◌+◌, ◌≤◌, ◌<◌, length, set}
use Rattle.std.proofs.Common.{sym, ap, ◌∙◌, subst, inl, inr, arith, get_or-set_same, get_or-set_other}
use Rattle.lists.specs.Lst.{Lst, nil, atom, list, len, onto, reversed}
use Rattle.pool.specs.Tally.{same, occ}
use Rattle.pool.specs.Laws.TallyLaws.{same_ne}
use Rattle.pool.specs.Pool.{Cell, Pool, at, put, elem_of, count_of, next_of, counted, holder, Live, NullOrLive, ListAt, lives, Sound}
use Rattle.pool.specs.Operations.{share, item, Made, twin, with_twin, copy, cinv}
use Rattle.pool.specs.Laws.Edit.{put-length, live_cell}
use Rattle.pool.specs.Laws.PoolLaws.{heads_atom, heads_list, ListAt_unique}
use Rattle.pool.specs.Laws.Held.{Held, reroot}
use Rattle.pool.specs.Laws.Arrows.{if_live_pos, if_live-zero}
use Rattle.pool.specs.Laws.Reach.{elem_ok, len_le}
use Rattle.pool.specs.Laws.Frame.{Kept, Kept_trans, put-lives, ListAt_grown}
use Rattle.pool.specs.Laws.SoundLaws.{none_aside, sound_held, held_sound}
use Rattle.pool.specs.Laws.Holders.{occ-take, occ_give}
use Rattle.pool.specs.Laws.Steps.{New, new, Shared, shared}
use Rattle.pool.specs.Laws.Prefix.{Stay}
use Rattle.pool.specs.Laws.Decap.{gives-item}
use Rattle.pool.specs.Laws.Advance.{null_or_item}
use Rattle.pool.specs.Laws.Room.{room}

-- CINV

pub copy_end : (k f : ℕ) (cs : List Cell) (x y : ℕ) → x ≡ 0 → copy k f cs x y ≡ record { free = f; cells = cs; head = y }
unfolding copy
copy_end zero f cs x y e = refl
copy_end (suc k) f cs zero y e = refl
copy_end (suc k) f cs (suc i) y e = absurd (omega arith)

pub copy-next : (k f : ℕ) (cs : List Cell) (x y : ℕ) → x ≢ 0
    → copy (suc k) f cs x y ≡ copy k (next_of (share cs (item cs x)) f) (with_twin f cs x y) (next_of cs x) f
unfolding copy
copy-next k f cs zero y n = absurd (n refl)
copy-next k f cs (suc i) y n = refl

share-lives : (cs : List Cell) (c : ℕ) → NullOrLive cs c → (lives (share cs c) ≡ lives cs) × (length (share cs c) ≡ length cs)
unfolding share
share-lives cs zero o = (refl, refl)
share-lives cs (suc i) (inl e) = absurd (omega arith)
share-lives cs (suc i) (inr l) =
    let y : Cell = counted (at cs (suc i)) (suc (count_of cs (suc i))) in
    (omega (arith, put-lives cs (suc i) y (live_cell cs (suc i) l), if_live_pos (count_of cs (suc i)) 1 l, if_live_pos (suc (count_of cs (suc i))) 1 (omega arith)), put-length cs (suc i) y)

-- a copy that stands for n has been made
record Copied (cs : List Cell) (n : Lst) (r : ℕ → ℕ) (z : Made) : Type 0 where
  held : Held z.free z.cells (λ d. same z.head d + r d) none_aside
  gets : ListAt z.cells z.head n
  grown : Kept z.cells cs

-- one cell of the copy
pub record One (f : ℕ) (cs : List Cell) (x y : ℕ) (r : ℕ → ℕ) : Type 0 where
  pub held : Held (next_of (share cs (item cs x)) f) (with_twin f cs x y) (λ d. same f d + r d) none_aside
  pub grown : Kept (with_twin f cs x y) cs
  pub here : at (with_twin f cs x y) f ≡ twin cs x y
  pub up : lives (with_twin f cs x y) ≡ suc (lives cs)
  pub long : length (with_twin f cs x y) ≡ length cs

pub one : (f : ℕ) (cs : List Cell) (x y : ℕ) (r : ℕ → ℕ) → Held f cs (λ d. same y d + r d) none_aside → Live cs x → lives cs < length cs → One f cs x y r
one f cs x y r h l lt =
    let e = item cs x in
    let ok = null_or_item cs x (h.kinds x l) (λ k. elem_ok f cs (λ d. same y d + r d) none_aside x h l k) in
    let r₁ : ℕ → ℕ = λ d. same y d + r d + same e d in
    let w : Shared f cs e r₁ = shared f cs (λ d. same y d + r d) r₁ e h ok (λ d n. refl) in
    let ds : List Cell = share cs e in
    let (sl, sz) = share-lives cs e ok in
    let c : Cell = twin cs x y in
    let nf : f ≢ 0 = room f ds r₁ w.held (omega arith) in
    let v : New f ds c (λ d. same f d + r d) = new f ds r₁ (λ d. same f d + r d) r c w.held nf refl (h.kinds x l)
    (λ d n. omega (arith, gives-item (c ∷ []) 1 d (h.kinds x l) n)) (λ d n. omega arith) in
    record {
      held = v.held;
      grown = Kept_trans (put ds f c) ds cs v.grown w.grown;
      here = v.here;
      up = omega (arith, put-lives ds f c v.inside, if_live-zero (count_of ds f) 1 v.was, if_live_pos 1 1 (omega arith), sl);
      long = put-length ds f c ∙ sz;
    }

-- the first cell copied, and then the rest
copied_first : (n : Lst) (r : ℕ → ℕ) (k f : ℕ) (cs : List Cell) (x y : ℕ) → Live cs x → Kept (with_twin f cs x y) cs
    → Copied (with_twin f cs x y) n r (copy k (next_of (share cs (item cs x)) f) (with_twin f cs x y) (next_of cs x) f)
    → Copied cs n r (copy (suc k) f cs x y)
copied_first n r k f cs x y live grown g =
    let z = copy k (next_of (share cs (item cs x)) f) (with_twin f cs x y) (next_of cs x) f in
    subst (Copied cs n r) (sym (copy-next k f cs x y (omega (arith, live_cell cs x live))))
    (record { held = g.held; gets = g.gets; grown = Kept_trans z.cells (with_twin f cs x y) cs g.grown grown })

copies : (r : ℕ → ℕ) (l : Lst) (k f : ℕ) (cs : List Cell) (x y : ℕ) (m : Lst) → len l ≤ k → len l + lives cs ≤ length cs
    → Held f cs (λ d. same y d + r d) none_aside
    → ListAt cs x l → ListAt cs y m → Copied cs (onto l m) r (copy k f cs x y)
unfolding len onto ListAt
copies r nil k f cs x y m s lt h lx ly =
    subst (Copied cs m r) (sym (copy_end k f cs x y lx)) (record { held = h; gets = ly; grown = λ c l. (l, refl) })
copies r (atom v l) zero f cs x y m s lt h lx ly = absurd (omega arith)
copies r (list e l) zero f cs x y m s lt h lx ly = absurd (omega arith)
copies r (atom v l) (suc k) f cs x y m s lt h lx ly =
    let t = one f cs x y r h lx.0 (omega arith) in
    let ds : List Cell = with_twin f cs x y in
    let on = ListAt_grown cs ds t.grown in
    let front = heads_atom ds f (twin cs x y) v m t.here (omega arith) lx.1 lx.2 (on m y ly) in
    copied_first (onto l (atom v m)) r k f cs x y lx.0 t.grown
    (copies r l k (next_of (share cs (item cs x)) f) ds (next_of cs x) f (atom v m) (omega arith) (omega (arith, t.up, t.long)) t.held
    (on l (next_of cs x) lx.3) front)
copies r (list e l) (suc k) f cs x y m s lt h lx ly =
    let t = one f cs x y r h lx.0 (omega arith) in
    let ds : List Cell = with_twin f cs x y in
    let on = ListAt_grown cs ds t.grown in
    let front = heads_list ds f (twin cs x y) e m t.here (omega arith) lx.1 (on e (elem_of cs x) lx.2) (on m y ly) in
    copied_first (onto l (list e m)) r k f cs x y lx.0 t.grown
    (copies r l k (next_of (share cs (item cs x)) f) ds (next_of cs x) f (list e m) (omega arith) (omega (arith, t.up, t.long)) t.held
    (on l (next_of cs x) lx.3) front)

pub record Cinv (p : Pool) (a b : ℕ) (q : Pool) : Type 0 where
  pub sound : Sound q
  pub gets : (l : Lst) → ListAt p.cells (holder p a) l → ListAt q.cells (holder q b) (reversed l)
  pub others : Stay p q (λ i. i ≢ b)

pub cinv-does : (p : Pool) (a b : ℕ) (l : Lst) → Sound p → b < length p.holders → holder p b ≡ 0 → ListAt p.cells (holder p a) l
    → len l + lives p.cells ≤ length p.cells → Cinv p a b (cinv p a b)
unfolding cinv reversed ListAt
cinv-does p a b l s lb nb w lt =
    let cs = p.cells in
    let hs = p.holders in
    let x = holder p a in
    let h = sound_held p s in
    let z : Made = copy (length cs) p.free cs x 0 in
    let g : Copied cs (onto l nil) (occ hs) z = copies (occ hs) l (length cs) p.free cs x 0 nil (len_le p.free cs (occ hs) none_aside h l x w) lt
    (reroot p.free cs (occ hs) none_aside (λ d. same 0 d + occ hs d) none_aside h (λ d n. omega (arith, same_ne 0 d (λ q. n (sym q)))) (λ d. refl))
    w refl in
    record {
      sound = held_sound (cinv p a b) (reroot z.free z.cells (λ d. same z.head d + occ hs d) none_aside (occ (set hs b z.head)) none_aside g.held
          (λ d n. omega (arith, occ_give hs b z.head d lb n, occ-take hs b d lb n, ap (λ u. same u d) nb, same_ne 0 d (λ q. n (sym q)))) (λ d. refl));
      gets = λ l' w'. subst (λ u. ListAt z.cells u (onto l' nil)) (sym (get_or-set_same hs b z.head 0 lb))
          (subst (λ u. ListAt z.cells z.head (onto u nil)) (ListAt_unique cs x l l' w w') g.gets);
      others = λ i l' n w'. subst (λ u. ListAt z.cells u l') (sym (get_or-set_other hs b i z.head 0 n))
          (ListAt_grown cs z.cells g.grown l' (holder p i) w');
    }
