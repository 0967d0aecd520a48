-- What reading does to a sound pool with room: each element takes the first free cell, in the order of the text.
use Rattle.std.specs.Prelude.{◌≡◌, refl, ◌≢◌, List, ℕ, zero, suc, ◌+◌, ◌≤◌, ◌<◌, length, set}
use Rattle.std.proofs.Common.{sym, ap, ◌∙◌, subst, arith, get_or-set_same, get_or-set_other}
use Rattle.lists.specs.Lst.{Lst, nil, atom, list, extent}
use Rattle.pool.specs.Tally.{same, occ}
use Rattle.pool.specs.Laws.PoolLaws.{heads_atom, heads_list}
use Rattle.pool.specs.Laws.TallyLaws.{same_eq, same_ne}
use Rattle.pool.specs.Pool.{Cell, Pool, at, put, count_of, next_of, counted, holder, Live, ListAt, gives, lives, Sound}
use Rattle.pool.specs.Operations.{Made, load, read}
use Rattle.pool.specs.Laws.Edit.{put-length, put_same}
use Rattle.pool.specs.Laws.Held.{Held, reroot}
use Rattle.pool.specs.Laws.Arrows.{if_live_pos, if_live-zero, gives-atom, gives_list}
use Rattle.pool.specs.Laws.HeldSteps.{aside_cell, take, fill}
use Rattle.pool.specs.Laws.Reach.{upto, upto_add, upto-same}
use Rattle.pool.specs.Laws.Frame.{Kept, Kept_trans, put-cases, put-lives, ListAt_grown}
use Rattle.pool.specs.Laws.SoundLaws.{none_aside, sound_held, held_sound}
use Rattle.pool.specs.Laws.Holders.{occ-take, occ_give}
use Rattle.pool.specs.Laws.Prefix.{Stay}
use Rattle.pool.specs.Laws.Room.{room, room_aside}

-- the cells of a list

pub record Loaded (cs : List Cell) (l : Lst) (r a : ℕ → ℕ) (z : Made) : Type 0 where
  pub held : Held z.free z.cells (λ d. same z.head d + r d) a
  pub gets : ListAt z.cells z.head l
  pub grown : Kept z.cells cs
  pub more : lives z.cells ≡ lives cs + extent l
  pub long : length z.cells ≡ length cs

-- the cell set aside at the start is filled at the end
record Filled (f : ℕ) (g : ℕ) (cs : List Cell) (y : Cell) (r a : ℕ → ℕ) : Type 0 where
  held : Held g (put cs f y) (λ d. same f d + r d) a
  here : at (put cs f y) f ≡ y
  grown : Kept (put cs f y) cs
  more : lives (put cs f y) ≡ suc (lives cs)
  long : length (put cs f y) ≡ length cs

filled : (f g : ℕ) (cs : List Cell) (y : Cell) (r₁ r a : ℕ → ℕ) → Held g cs r₁ (λ d. a d + same f d) → y.count ≡ 1 → y.kind ≤ 1
    → ((d : ℕ) → d ≢ 0 → r₁ d ≡ r d + gives d y) → Filled f g cs y r a
filled f g cs y r₁ r a h one k from =
    let (inside, z) = aside_cell g cs r₁ (λ d. a d + same f d) f h (omega (arith, same_eq f)) in
    record {
      held = fill g cs r₁ (λ d. a d + same f d) (λ d. same f d + r d) a r f y h (omega (arith, same_eq f)) one k from (λ d n. omega arith) (λ d. refl);
      here = put_same cs f y inside.0 inside.1;
      grown = put-cases cs f y inside (λ d x. Live cs d → (0 < x.count) × (counted (at cs d) 0 ≡ counted x 0)) (λ l. absurd (omega arith)) (λ d l. (l, refl));
      more = omega (arith, put-lives cs f y inside, if_live-zero (count_of cs f) 1 z, if_live_pos y.count 1 (omega arith));
      long = put-length cs f y;
    }

one_more : (f : ℕ) (cs : List Cell) (r a : ℕ → ℕ) → Held f cs r (λ d. a d) → (g : ℕ) → Held g cs r (λ d. a d + same f d)
    → upto (length cs) (λ d. a d + same f d) ≡ suc (upto (length cs) a)
one_more f cs r a _ g h =
    let (inside, z) = aside_cell g cs r (λ d. a d + same f d) f h (omega (arith, same_eq f)) in
    omega (arith, upto_add (length cs) a (same f), upto-same (length cs) f inside.0 inside.1)

loads : (l : Lst) (f : ℕ) (cs : List Cell) (r a : ℕ → ℕ) → Held f cs r a → upto (length cs) a + lives cs + extent l ≤ length cs → Loaded cs l r a (load l f cs)
unfolding load extent ListAt
loads nil f cs r a h room = record {
  held = reroot f cs r a (λ d. same 0 d + r d) a h (λ d n. omega (arith, same_ne 0 d (λ q. n (sym q)))) (λ d. refl);
  gets = refl;
  grown = λ c l. (l, refl);
  more = omega arith;
  long = refl;
}
loads (atom v l) f cs r a h room =
    let nf = room_aside f cs r a h (omega arith) in
    let a' : ℕ → ℕ = λ d. a d + same f d in
    let h' : Held (next_of cs f) cs r a' = take f cs r a a' h nf (λ d. refl) in
    let z = load l (next_of cs f) cs in
    let t : Loaded cs l r a' z = loads l (next_of cs f) cs r a' h' (omega (arith, one_more f cs r a h (next_of cs f) h')) in
    let y : Cell = record { kind = 0; elem = v; count = 1; next = z.head } in
    let w : Filled f z.free z.cells y r a = filled f z.free z.cells y (λ d. same z.head d + r d) r a t.held refl (omega arith)
    (λ d n. omega (arith, gives-atom d y refl)) in
    record {
      held = w.held;
      gets = heads_atom (put z.cells f y) f y v l w.here (omega arith) refl refl
          (ListAt_grown z.cells (put z.cells f y) w.grown l z.head t.gets);
      grown = Kept_trans (put z.cells f y) z.cells cs w.grown t.grown;
      more = omega (arith, w.more, t.more);
      long = w.long ∙ t.long;
    }
loads (list e l) f cs r a h room =
    let nf = room_aside f cs r a h (omega arith) in
    let a' : ℕ → ℕ = λ d. a d + same f d in
    let h' : Held (next_of cs f) cs r a' = take f cs r a a' h nf (λ d. refl) in
    let u = load e (next_of cs f) cs in
    let s : Loaded cs e r a' u = loads e (next_of cs f) cs r a' h' (omega (arith, one_more f cs r a h (next_of cs f) h')) in
    let z = load l u.free u.cells in
    let t : Loaded u.cells l (λ d. same u.head d + r d) a' z = loads l u.free u.cells (λ d. same u.head d + r d) a' s.held
    (omega (arith, one_more f cs r a h (next_of cs f) h', s.more, s.long, ap (λ n. upto n a') s.long)) in
    let y : Cell = record { kind = 1; elem = u.head; count = 1; next = z.head } in
    let ds : List Cell = put z.cells f y in
    let w : Filled f z.free z.cells y r a = filled f z.free z.cells y (λ d. same z.head d + (same u.head d + r d)) r a t.held refl
    (omega arith) (λ d n. omega (arith, gives_list d y refl)) in
    record {
      held = w.held;
      gets = heads_list ds f y e l w.here (omega arith) refl
          (ListAt_grown z.cells ds w.grown e u.head (ListAt_grown u.cells z.cells t.grown e u.head s.gets))
          (ListAt_grown z.cells ds w.grown l z.head t.gets);
      grown = Kept_trans ds z.cells cs w.grown (Kept_trans z.cells u.cells cs t.grown s.grown);
      more = omega (arith, w.more, t.more, s.more);
      long = w.long ∙ t.long ∙ s.long;
    }

-- READ into holder h (null)

pub record Read (p : Pool) (h : ℕ) (l : Lst) (q : Pool) : Type 0 where
  pub sound : Sound q
  pub gets : ListAt q.cells (holder q h) l
  pub others : Stay p q (λ i. i ≢ h)

upto-none : (n : ℕ) → upto n none_aside ≡ 0
unfolding upto
upto-none zero = refl
upto-none (suc n) = omega (arith, upto-none n)

pub read-does : (p : Pool) (h : ℕ) (l : Lst) → Sound p → h < length p.holders → holder p h ≡ 0 → lives p.cells + extent l ≤ length p.cells
    → Read p h l (read p h l)
unfolding read
read-does p h l s lh nh room =
    let cs = p.cells in
    let hs = p.holders in
    let z = load l p.free cs in
    let t : Loaded cs l (occ hs) none_aside z = loads l p.free cs (occ hs) none_aside (sound_held p s) (omega (arith, upto-none (length cs))) in
    record {
      sound = held_sound (read p h l) (reroot z.free z.cells (λ d. same z.head d + occ hs d) none_aside (occ (set hs h z.head)) none_aside t.held
          (λ d n. omega (arith, occ_give hs h z.head d lh n, occ-take hs h d lh n, ap (λ u. same u d) nh, same_ne 0 d (λ q. n (sym q)))) (λ d. refl));
      gets = subst (λ u. ListAt z.cells u l) (sym (get_or-set_same hs h z.head 0 lh)) t.gets;
      others = λ i m n w. subst (λ u. ListAt z.cells u m) (sym (get_or-set_other hs h i z.head 0 n))
          (ListAt_grown cs z.cells t.grown m (holder p i) w);
    }
