-- What INV does to a sound pool: a list whose main-level counts are 1 is reversed in its own cells.
use Rattle.std.specs.Prelude.{◌≡◌, refl, ◌≢◌, ◌⊎◌, List, ℕ, zero, suc, ◌+◌, ◌≤◌, ◌<◌, length, set}
use Rattle.std.proofs.Common.{sym, ap, ◌∙◌, subst, inl, arith, get_or-set_same, get_or-set_other}
use Rattle.std.proofs.Math.Logic.{inr}
use Rattle.std.proofs.Math.Decide.{ℕ_discrete}
use Rattle.lists.specs.Lst.{Lst, nil, atom, list, len, onto, reversed}
use Rattle.pool.specs.Tally.{same, occ}
use Rattle.pool.specs.Laws.TallyLaws.{same_eq, same_ne}
use Rattle.pool.specs.Pool.{Cell, Pool, at, put, elem_of, count_of, next_of, counted, followed, set_count, set_next, holder, Live, NullOrLive, InPool, ListAt, gives, Sound}
use Rattle.pool.specs.Operations.{flip, inv}
use Rattle.pool.specs.Laws.Edit.{put_same, put_other, live_cell, put-put}
use Rattle.pool.specs.Laws.PoolLaws.{heads_atom, heads_list, ListAt_unique}
use Rattle.pool.specs.Laws.Held.{Held, reroot, root_live}
use Rattle.pool.specs.Laws.Arrows.{gives_list}
use Rattle.pool.specs.Laws.HeldSteps.{unlock, fill}
use Rattle.pool.specs.Laws.Reach.{len_le}
use Rattle.pool.specs.Laws.Frame.{Kept, kept_free, ListAt_grown, ListAt-kept}
use Rattle.pool.specs.Laws.SoundLaws.{none_aside, sound_held, held_sound}
use Rattle.pool.specs.Laws.Holders.{but, occ-take, occ_give, other_root}
use Rattle.pool.specs.Laws.Prefix.{Stay}

-- every count of the main level is 1
unfoldable pub Alone : List Cell → ℕ → Lst → Type 0
Alone cs c nil = Unit {0}
Alone cs c (atom a l) = (count_of cs c ≡ 1) × Alone cs (next_of cs c) l
Alone cs c (list e l) = (count_of cs c ≡ 1) × Alone cs (next_of cs c) l

-- the cells but x, as they were
pub record Turned (f : ℕ) (cs : List Cell) (x y : ℕ) (r : ℕ → ℕ) : Type 0 where
  pub held : Held f (set_next cs x y) (λ d. same (next_of cs x) d + same x d + r d) none_aside
  pub here : at (set_next cs x y) x ≡ followed (at cs x) y
  -- the cells without x
  pub held₁ : Held f (set_count cs x 0) (λ d. gives d (at cs x) + same y d + r d) (same x)
  pub kept₁ : Kept cs (set_count cs x 0)
  pub like : (c : ℕ) → Live (set_count cs x 0) c → (at cs c ≡ at (set_count cs x 0) c) × (at (set_next cs x y) c ≡ at (set_count cs x 0) c)

pub turn : (f : ℕ) (cs : List Cell) (x y : ℕ) (r : ℕ → ℕ) → Held f cs (λ d. same x d + same y d + r d) none_aside → count_of cs x ≡ 1 → Turned f cs x y r
unfolding gives
turn f cs x y r h one =
    let inside = live_cell cs x (omega arith) in
    let o : Cell = counted (at cs x) 0 in
    let cs₁ : List Cell = put cs x o in
    let z : Cell = followed (at cs x) y in
    let r₁ : ℕ → ℕ = λ d. gives d (at cs x) + same y d + r d in
    let h₁ : Held f cs₁ r₁ (same x) = unlock f cs (λ d. same x d + same y d + r d) none_aside r₁ (same x) x h one (λ d n. omega arith) (λ d. omega arith) in
    let r₂ : ℕ → ℕ = λ d. same (next_of cs x) d + same x d + r d in
    let h₂ : Held f (put cs₁ x z) r₂ none_aside = fill f cs₁ r₁ (same x) r₂ none_aside (λ d. same (next_of cs x) d + r d) x z h₁
    (omega (arith, same_eq x)) one (h.kinds x (omega arith))
    (λ d n. omega arith) (λ d n. omega arith) (λ d. omega arith) in
    record {
      held = subst (λ u. Held f u r₂ none_aside) (put-put cs x o z) h₂;
      here = put_same cs x z inside.0 inside.1;
      held₁ = h₁;
      kept₁ = kept_free cs x o inside refl;
      like = λ c l. like inside c l (ℕ_discrete c x);
    }
  where
    like : InPool cs x → (c : ℕ) → Live (set_count cs x 0) c → Dec (c ≡ x)
        → (at cs c ≡ at (set_count cs x 0) c) × (at (set_next cs x y) c ≡ at (set_count cs x 0) c)
    like inside c l (yes e) =
        let l' : Live (set_count cs x 0) x = subst (Live (set_count cs x 0)) e l in
        absurd (omega (arith, l', ap (λ u. u.count) (put_same cs x (counted (at cs x) 0) inside.0 inside.1)))
    like inside c l (no n) =
        let e = put_other cs x c (counted (at cs x) 0) n in
        (sym e, put_other cs x c (followed (at cs x) y) n ∙ sym e)

-- by cells that are alike where bs is live
alone-first : (bs cs ds : List Cell) (l : Lst) (c : ℕ) → at cs c ≡ at bs c → at ds c ≡ at bs c → (Alone cs (next_of bs c) l → Alone ds (next_of bs c) l)
    → (count_of cs c ≡ 1) × Alone cs (next_of cs c) l → (count_of ds c ≡ 1) × Alone ds (next_of ds c) l
alone-first bs cs ds l c e g ih o =
    let nb : next_of cs c ≡ next_of bs c = ap (λ x. x.next) e in
    let nd : next_of ds c ≡ next_of bs c = ap (λ x. x.next) g in
    (ap (λ x. x.count) (g ∙ sym e) ∙ o.0, subst (λ u. Alone ds u l) (sym nd) (ih (subst (λ u. Alone cs u l) nb o.1)))

pub Alone_like : (bs cs ds : List Cell) → ((c : ℕ) → Live bs c → (at cs c ≡ at bs c) × (at ds c ≡ at bs c)) → (l : Lst) (c : ℕ) → ListAt bs c l
    → Alone cs c l → Alone ds c l
unfolding Alone ListAt
Alone_like bs cs ds k nil c h o = tt
Alone_like bs cs ds k (atom a l) c h o = let (e, g) = k c h.0 in alone-first bs cs ds l c e g (Alone_like bs cs ds k l (next_of bs c) h.3) o
Alone_like bs cs ds k (list q l) c h o = let (e, g) = k c h.0 in alone-first bs cs ds l c e g (Alone_like bs cs ds k l (next_of bs c) h.3) o

module _ (f : ℕ) (cs : List Cell) (x y : ℕ) (r : ℕ → ℕ) (t : Turned f cs x y r) where
  null_or_root : (c : ℕ) → (c ≡ 0) ⊎ (0 < gives c (at cs x) + same y c + r c) → NullOrLive (set_count cs x 0) c
  null_or_root c (inl e) = inl e
  null_or_root c (inr l) = go (ℕ_discrete c 0)
    where
      go : Dec (c ≡ 0) → NullOrLive (set_count cs x 0) c
      go (yes e) = inl e
      go (no n) = inr (root_live f (set_count cs x 0) (λ d. gives d (at cs x) + same y d + r d) (same x) c t.held₁ n l)

  -- the lists of roots other than x, without x and after the turn
  pub without : (l : Lst) (c : ℕ) → (c ≡ 0) ⊎ (0 < gives c (at cs x) + same y c + r c) → ListAt cs c l → ListAt (set_count cs x 0) c l
  without l c o h = ListAt-kept f cs (set_count cs x 0) (λ d. gives d (at cs x) + same y d + r d) (same x) t.kept₁ t.held₁ l c (null_or_root c o) h

  pub list_after : (l : Lst) (c : ℕ) → (c ≡ 0) ⊎ (0 < gives c (at cs x) + same y c + r c) → ListAt cs c l → ListAt (set_next cs x y) c l
  list_after l c o h =
      ListAt_grown (set_count cs x 0) (set_next cs x y)
      (λ d m. let e = (t.like d m).1 in (subst (λ u. 0 < u.count) (sym e) m, ap (λ u. counted u 0) (sym e))) l c (without l c o h)

-- the list from z is n, and other lists stay
record Flipped (f : ℕ) (cs : List Cell) (n : Lst) (r : ℕ → ℕ) (ds : List Cell) (z : ℕ) : Type 0 where
  held : Held f ds (λ d. same z d + r d) none_aside
  gets : ListAt ds z n
  others : (c : ℕ) (n : Lst) → (c ≡ 0) ⊎ (0 < r c) → ListAt cs c n → ListAt ds c n

pub flip_end : (k : ℕ) (cs : List Cell) (x y : ℕ) → x ≡ 0 → flip k cs x y ≡ (cs, y)
unfolding flip
flip_end zero cs x y e = refl
flip_end (suc k) cs zero y e = refl
flip_end (suc k) cs (suc i) y e = absurd (omega arith)

pub flip-next : (k : ℕ) (cs : List Cell) (x y : ℕ) → x ≢ 0 → flip (suc k) cs x y ≡ flip k (set_next cs x y) (next_of cs x) x
unfolding flip
flip-next k cs zero y n = absurd (n refl)
flip-next k cs (suc i) y n = refl

-- the first cell turned, and then the rest
module _ (f : ℕ) (r : ℕ → ℕ) (l n : Lst) (k : ℕ) (cs : List Cell) (x y : ℕ) (t : Turned f cs x y r) (live : Live cs x) where
  flipped_first : Flipped f (set_next cs x y) n r (flip k (set_next cs x y) (next_of cs x) x).0 (flip k (set_next cs x y) (next_of cs x) x).1
      → Flipped f cs n r (flip (suc k) cs x y).0 (flip (suc k) cs x y).1
  flipped_first g =
      subst (λ u. Flipped f cs n r u.0 u.1) (sym (flip-next k cs x y (omega (arith, live_cell cs x live))))
      (record { held = g.held; gets = g.gets; others = λ c m q w. g.others c m q (list_after f cs x y r t m c (or_more c q) w) })
    where
      or_more : (c : ℕ) → (c ≡ 0) ⊎ (0 < r c) → (c ≡ 0) ⊎ (0 < gives c (at cs x) + same y c + r c)
      or_more c (inl e) = inl e
      or_more c (inr p) = inr (omega arith)

  rest_root : (next_of cs x ≡ 0) ⊎ (0 < gives (next_of cs x) (at cs x) + same y (next_of cs x) + r (next_of cs x))
  unfolding gives
  rest_root = inr (omega (arith, same_eq (next_of cs x)))

  rest-alone : ListAt cs (next_of cs x) l → Alone cs (next_of cs x) l → Alone (set_next cs x y) (next_of cs x) l
  rest-alone w o = Alone_like (set_count cs x 0) cs (set_next cs x y) t.like l (next_of cs x) (without f cs x y r t l (next_of cs x) rest_root w) o

flips : (f : ℕ) (r : ℕ → ℕ) (l : Lst) (k : ℕ) (cs : List Cell) (x y : ℕ) (m : Lst) → len l ≤ k → Held f cs (λ d. same x d + same y d + r d) none_aside
    → ListAt cs x l → Alone cs x l → ListAt cs y m → Flipped f cs (onto l m) r (flip k cs x y).0 (flip k cs x y).1
unfolding len onto ListAt Alone
flips f r nil k cs x y m s h lx o ly =
    subst (λ u. Flipped f cs m r u.0 u.1) (sym (flip_end k cs x y lx)) (record {
      held = reroot f cs (λ d. same x d + same y d + r d) none_aside (λ d. same y d + r d) none_aside h
          (λ d n. omega (arith, same_ne x d (λ q. n (sym q ∙ lx)))) (λ d. refl);
      gets = ly;
      others = λ c n q w. w;
    })
flips f r (atom v l) zero cs x y m s h lx o ly = absurd (omega arith)
flips f r (list e l) zero cs x y m s h lx o ly = absurd (omega arith)
flips f r (atom v l) (suc k) cs x y m s h lx o ly =
    let t = turn f cs x y r h o.0 in
    let n = onto l (atom v m) in
    let on = list_after f cs x y r t in
    let done = heads_atom (set_next cs x y) x (followed (at cs x) y) v m t.here lx.0 lx.1 lx.2 (on m y (inr (omega (arith, same_eq y))) ly) in
    flipped_first f r l n k cs x y t lx.0 (flips f r l k (set_next cs x y) (next_of cs x) x (atom v m) (omega arith) t.held
    (on l (next_of cs x) (rest_root f r l n k cs x y t lx.0) lx.3) (rest-alone f r l n k cs x y t lx.0 lx.3 o.1) done)
flips f r (list e l) (suc k) cs x y m s h lx o ly =
    let t = turn f cs x y r h o.0 in
    let n = onto l (list e m) in
    let on = list_after f cs x y r t in
    let root : 0 < gives (elem_of cs x) (at cs x) + same y (elem_of cs x) + r (elem_of cs x) =
    omega (arith, same_eq (elem_of cs x), gives_list (elem_of cs x) (at cs x) lx.1) in
    let done = heads_list (set_next cs x y) x (followed (at cs x) y) e m t.here lx.0 lx.1 (on e (elem_of cs x) (inr root) lx.2)
    (on m y (inr (omega (arith, same_eq y))) ly) in
    flipped_first f r l n k cs x y t lx.0 (flips f r l k (set_next cs x y) (next_of cs x) x (list e m) (omega arith) t.held
    (on l (next_of cs x) (rest_root f r l n k cs x y t lx.0) lx.3) (rest-alone f r l n k cs x y t lx.0 lx.3 o.1) done)

-- INV

pub record Inv (p : Pool) (a : ℕ) (q : Pool) : Type 0 where
  pub sound : Sound q
  pub gets : (l : Lst) → ListAt p.cells (holder p a) l → ListAt q.cells (holder q a) (reversed l)
  pub others : Stay p q (λ i. i ≢ a)

pub inv-does : (p : Pool) (a : ℕ) (l : Lst) → Sound p → a < length p.holders → ListAt p.cells (holder p a) l → Alone p.cells (holder p a) l
    → Inv p a (inv p a)
unfolding inv reversed ListAt
inv-does p a l s la w o =
    let cs = p.cells in
    let hs = p.holders in
    let x = holder p a in
    let z : ℕ = (flip (length cs) cs x 0).1 in
    let ds : List Cell = (flip (length cs) cs x 0).0 in
    let h = sound_held p s in
    let g : Flipped p.free cs (onto l nil) (but hs a) ds z = flips p.free (but hs a) l (length cs) cs x 0 nil (len_le p.free cs (occ hs) none_aside h l x w)
    (reroot p.free cs (occ hs) none_aside (λ d. same x d + same 0 d + but hs a d) none_aside h
    (λ d n. omega (arith, occ-take hs a d la n, same_ne 0 d (λ q. n (sym q)))) (λ d. refl))
    w o refl in
    record {
      sound = held_sound (inv p a)
          (reroot p.free ds (λ d. same z d + but hs a d) none_aside (occ (set hs a z)) none_aside g.held
          (λ d n. omega (arith, occ_give hs a z d la n)) (λ d. refl));
      gets = λ l' w'. subst (λ u. ListAt ds u (onto l' nil)) (sym (get_or-set_same hs a z 0 la))
          (subst (λ u. ListAt ds z (onto u nil)) (ListAt_unique cs x l l' w w') g.gets);
      others = λ i l' n w'. subst (λ u. ListAt ds u l') (sym (get_or-set_other hs a i z 0 n)) (g.others (holder p i) l' (other_root hs a i n) w');
    }
