-- The last cell of a list, all of whose main-level counts are 1, gets another list for its successor. Idea: each cell before
-- the last is set aside, the rest is joined, and the cell is put back as it was.
use Rattle.std.specs.Prelude.{◌≡◌, refl, ◌≢◌, ◌⊎◌, cond, List, ℕ, ◌+◌, ◌≤◌, ◌<◌, eqb}
use Rattle.std.proofs.Common.{sym, ◌∙◌, arith}
use Rattle.std.proofs.Math.Path.{ap, subst}
use Rattle.std.proofs.Math.Logic.{inl, inr}
use Rattle.std.proofs.Math.Decide.{ℕ_discrete}
use Rattle.lists.specs.Lst.{Lst, nil, atom, list, joined}
use Rattle.pool.specs.Tally.{same}
use Rattle.pool.specs.Laws.TallyLaws.{same_eq, same_ne}
use Rattle.pool.specs.Pool.{Cell, at, put, kind_of, elem_of, count_of, next_of, counted, followed, set_count, set_next, Live, NullOrLive, InPool, ListAt, gives}
use Rattle.pool.specs.Laws.Edit.{put_same, put_other, live_cell, put-put, put_comm, put-at}
use Rattle.pool.specs.Laws.PoolLaws.{ListAt_unique}
use Rattle.pool.specs.Laws.Held.{Held, reroot, root_live}
use Rattle.pool.specs.Laws.Arrows.{gives_list}
use Rattle.pool.specs.Laws.HeldSteps.{unlock, aside_cell, fill}
use Rattle.pool.specs.Laws.Frame.{put-cases, kept_free, ListAt_grown, ListAt-kept}
use Rattle.pool.specs.Laws.Inverse.{Alone, Alone_like}
use Rattle.pool.specs.Laws.LastCell.{Last, Last_live, Last_like}

-- the element's arrow
abbrev side : ℕ → Cell → ℕ
side d x = cond (eqb x.kind 1) (same x.elem d) 0

pub record Joined (f : ℕ) (cs : List Cell) (x : ℕ) (l m : Lst) (r a : ℕ → ℕ) (ds : List Cell) : Type 0 where
  pub held : Held f ds (λ d. same x d + r d) a
  pub gets : ListAt ds x (joined l m)
  pub others : (c : ℕ) (n : Lst) → (c ≡ 0) ⊎ (0 < r c) → ListAt cs c n → ListAt ds c n

-- cell x out of the way, something done to the rest, and x put back with its next cell s
record Out (f : ℕ) (cs : List Cell) (x y : ℕ) (r a : ℕ → ℕ) : Type 0 where
  held : Held f (set_count cs x 0) (λ d. same (next_of cs x) d + same y d + (side d (at cs x) + r d)) (λ d. a d + same x d)
  like : (c : ℕ) → Live (set_count cs x 0) c → (c ≢ x) × (at cs c ≡ at (set_count cs x 0) c)
  stays : (c : ℕ) (n : Lst) → (c ≡ 0) ⊎ (0 < same (next_of cs x) c + same y c + (side c (at cs x) + r c)) → ListAt cs c n → ListAt (set_count cs x 0) c n

out : (f : ℕ) (cs : List Cell) (x y : ℕ) (r a : ℕ → ℕ) → Held f cs (λ d. same x d + same y d + r d) a → count_of cs x ≡ 1 → Out f cs x y r a
unfolding gives
out f cs x y r a h one =
    let inside = live_cell cs x (omega arith) in
    let r₁ : ℕ → ℕ = λ d. same (next_of cs x) d + same y d + (side d (at cs x) + r d) in
    let a₁ : ℕ → ℕ = λ d. a d + same x d in
    let h₁ : Held f (set_count cs x 0) r₁ a₁ = unlock f cs (λ d. same x d + same y d + r d) a r₁ a₁ x h one (λ d n. omega arith) (λ d. refl) in
    record {
      held = h₁;
      like = λ c l. like inside c l;
      stays = λ c n o w. ListAt-kept f cs (set_count cs x 0) r₁ a₁ (kept_free cs x (counted (at cs x) 0) inside refl) h₁ n c (ok h₁ c o) w;
    }
  where
    like : InPool cs x → (c : ℕ) → Live (set_count cs x 0) c → (c ≢ x) × (at cs c ≡ at (set_count cs x 0) c)
    like inside c l = (ne, sym (put_other cs x c (counted (at cs x) 0) ne))
      where
        ne : c ≢ x
        ne e =
            let l' : Live (set_count cs x 0) x = subst (Live (set_count cs x 0)) e l in
            omega (arith, l', ap (λ u. u.count) (put_same cs x (counted (at cs x) 0) inside.0 inside.1))

    ok : Held f (set_count cs x 0) (λ d. same (next_of cs x) d + same y d + (side d (at cs x) + r d)) (λ d. a d + same x d) → (c : ℕ)
        → (c ≡ 0) ⊎ (0 < same (next_of cs x) c + same y c + (side c (at cs x) + r c)) → NullOrLive (set_count cs x 0) c
    ok h₁ c (inl e) = inl e
    ok h₁ c (inr l) = go (ℕ_discrete c 0)
      where
        go : Dec (c ≡ 0) → NullOrLive (set_count cs x 0) c
        go (yes e) = inl e
        go (no n) = inr (root_live f (set_count cs x 0) (λ d. same (next_of cs x) d + same y d + (side d (at cs x) + r d)) (λ d. a d + same x d) c h₁ n l)

-- x back in, with the tail t
record Back (f : ℕ) (ds : List Cell) (x : ℕ) (z : Cell) (r a : ℕ → ℕ) : Type 0 where
  held : Held f (put ds x z) (λ d. same x d + r d) a
  here : at (put ds x z) x ≡ z
  grown : (c : ℕ) (n : Lst) → ListAt ds c n → ListAt (put ds x z) c n

back : (f : ℕ) (ds : List Cell) (x : ℕ) (z : Cell) (r a : ℕ → ℕ) → z.count ≡ 1 → z.kind ≤ 1
    → Held f ds (λ d. same z.next d + (side d z + r d)) (λ d. a d + same x d) → Back f ds x z r a
unfolding gives
back f ds x z r a one k h =
    let r₁ : ℕ → ℕ = λ d. same z.next d + (side d z + r d) in
    let a₁ : ℕ → ℕ = λ d. a d + same x d in
    let (inside, o) = aside_cell f ds r₁ a₁ x h (omega (arith, same_eq x)) in
    record {
      held = fill f ds r₁ a₁ (λ d. same x d + r d) a r x z h (omega (arith, same_eq x)) one k (λ d n. omega arith) (λ d n. omega arith) (λ d. refl);
      here = put_same ds x z inside.0 inside.1;
      grown = λ c n w. ListAt_grown ds (put ds x z)
          (put-cases ds x z inside (λ d u. Live ds d → (0 < u.count) × (counted (at ds d) 0 ≡ counted u 0)) (λ l. absurd (omega arith))
          (λ d l. (l, refl))) n c w;
    }

swap : (cs : List Cell) (x z y : ℕ) → z ≢ x → put (set_next (set_count cs x 0) z y) x (at cs x) ≡ set_next cs z y
swap cs x z y n =
    let o : Cell = counted (at cs x) 0 in
    let e : at (put cs x o) z ≡ at cs z = put_other cs x z o n in
    ap (λ u. put (put (put cs x o) z (followed u y)) x (at cs x)) e
    ∙ put_comm (put cs x o) z x (followed (at cs z) y) (at cs x) n
    ∙ ap (λ u. put u z (followed (at cs z) y)) (put-put cs x o (at cs x) ∙ put-at cs x)

-- the last cell gets its successor
record At (f : ℕ) (cs : List Cell) (x y : ℕ) (r a : ℕ → ℕ) : Type 0 where
  held : Held f (set_next cs x y) (λ d. same x d + r d) a
  here : at (set_next cs x y) x ≡ followed (at cs x) y
  stays : (c : ℕ) (n : Lst) → (c ≡ 0) ⊎ (0 < same y c + (side c (at cs x) + r c)) → ListAt cs c n → ListAt (set_next cs x y) c n

at_last : (f : ℕ) (cs : List Cell) (x y : ℕ) (r a : ℕ → ℕ) → Held f cs (λ d. same x d + same y d + r d) a → count_of cs x ≡ 1 → next_of cs x ≡ 0 → At f cs x y r a
at_last f cs x y r a h one e =
    let t = out f cs x y r a h one in
    let cs₁ : List Cell = set_count cs x 0 in
    let z : Cell = followed (at cs x) y in
    let h₁ : Held f cs₁ (λ d. same y d + (side d z + r d)) (λ d. a d + same x d) =
    reroot f cs₁ (λ d. same (next_of cs x) d + same y d + (side d (at cs x) + r d)) (λ d. a d + same x d) (λ d. same y d + (side d z + r d))
    (λ d. a d + same x d) t.held
    (λ d n. omega (arith, same_ne (next_of cs x) d (λ q. n (sym q ∙ e)))) (λ d. refl) in
    let b = back f cs₁ x z r a one (h.kinds x (omega arith)) h₁ in
    let p = put-put cs x (counted (at cs x) 0) z in
    record {
      held = subst (λ u. Held f u (λ d. same x d + r d) a) p b.held;
      here = subst (λ u. at u x ≡ z) p b.here;
      stays = λ c n o w. subst (λ u. ListAt u c n) p (b.grown c n (t.stays c n (more c o) w));
    }
  where
    more : (c : ℕ) → (c ≡ 0) ⊎ (0 < same y c + (side c (at cs x) + r c)) → (c ≡ 0) ⊎ (0 < same (next_of cs x) c + same y c + (side c (at cs x) + r c))
    more c (inl q) = inl q
    more c (inr l) = inr (omega arith)

pub null_list_lem : (cs : List Cell) (c : ℕ) (l : Lst) → c ≡ 0 → ListAt cs c l → nil ≡ l
unfolding ListAt
null_list_lem cs c l e h = ListAt_unique cs c nil l e h

side_list : (d : ℕ) (x : Cell) → x.kind ≡ 1 → side d x ≡ same x.elem d
unfolding gives
side_list d x e = omega (arith, gives_list d x e)

-- the first cell after joining, where l is the list behind it: what it holds, what follows it, and the lists that stay
record First (f : ℕ) (cs : List Cell) (x : ℕ) (l m : Lst) (r a : ℕ → ℕ) (ds : List Cell) : Type 0 where
  held : Held f ds (λ d. same x d + r d) a
  live : Live ds x
  kind : kind_of ds x ≡ kind_of cs x
  elem : elem_of ds x ≡ elem_of cs x
  rest : ListAt ds (next_of ds x) (joined l m)
  stays : (c : ℕ) (n : Lst) → (c ≡ 0) ⊎ (0 < side c (at cs x) + r c) → ListAt cs c n → ListAt ds c n

abbrev Joins : ℕ → ℕ → ℕ → Lst → Lst → Type 0
Joins f y z l m = (cs : List Cell) (x : ℕ) (r a : ℕ → ℕ) → Held f cs (λ d. same x d + same y d + r d) a → ListAt cs x l → Alone cs x l
    → Last cs x l z → ListAt cs y m → Joined f cs x l m r a (set_next cs z y)

module _ (f y z : ℕ) (l m : Lst) (cs : List Cell) (x : ℕ) (r a : ℕ → ℕ) (h : Held f cs (λ d. same x d + same y d + r d) a) (one : count_of cs x ≡ 1)
    (rest : ListAt cs (next_of cs x) l) (ly : ListAt cs y m) where
  -- it is the last
  first-last : next_of cs x ≡ 0 → x ≡ z → First f cs x l m r a (set_next cs z y)
  unfolding joined
  first-last e q =
      let t = at_last f cs x y r a h one e in
      let behind : ListAt (set_next cs x y) (next_of (set_next cs x y) x) m =
      subst (λ u. ListAt (set_next cs x y) u m) (sym (ap (λ u. u.next) t.here)) (t.stays y m (inr (omega (arith, same_eq y))) ly) in
      subst (λ u. First f cs x l m r a (set_next cs u y)) q (record {
        held = t.held;
        live = subst (λ u. 0 < u.count) (sym t.here) (omega arith);
        kind = ap (λ u. u.kind) t.here;
        elem = ap (λ u. u.elem) t.here;
        rest = subst (λ u. ListAt (set_next cs x y) (next_of (set_next cs x y) x) (joined u m)) (null_list_lem cs (next_of cs x) l e rest) behind;
        stays = λ c n o w. t.stays c n (more c o) w;
      })
    where
      more : (c : ℕ) → (c ≡ 0) ⊎ (0 < side c (at cs x) + r c) → (c ≡ 0) ⊎ (0 < same y c + (side c (at cs x) + r c))
      more c (inl e) = inl e
      more c (inr p) = inr (omega arith)

  -- the last is behind it
  first-before : Alone cs (next_of cs x) l → Last cs (next_of cs x) l z → Joins f y z l m → First f cs x l m r a (set_next cs z y)
  first-before lone k ih =
      let t = out f cs x y r a h one in
      let cs₁ : List Cell = set_count cs x 0 in
      let s = next_of cs x in
      let ls = t.stays s l (inr (omega (arith, same_eq s))) rest in
      let k₁ = Last_like cs₁ cs (λ c w. (t.like c w).1) l s z ls k in
      let zx = (t.like z (Last_live cs₁ l s z ls k₁)).0 in
      let g = ih cs₁ s (λ d. side d (at cs x) + r d) (λ d. a d + same x d) t.held ls
      (Alone_like cs₁ cs cs₁ (λ c w. ((t.like c w).1, refl)) l s ls lone) k₁ (t.stays y m (inr (omega (arith, same_eq y))) ly) in
      let b = back f (set_next cs₁ z y) x (at cs x) r a one (h.kinds x (omega arith)) g.held in
      subst (First f cs x l m r a) (swap cs x z y zx) (record {
        held = b.held;
        live = subst (λ u. 0 < u.count) (sym b.here) (omega arith);
        kind = ap (λ u. u.kind) b.here;
        elem = ap (λ u. u.elem) b.here;
        rest = subst (λ u. ListAt (put (set_next cs₁ z y) x (at cs x)) u (joined l m)) (sym (ap (λ u. u.next) b.here)) (b.grown s (joined l m) g.gets);
        stays = λ c n o w. b.grown c n (g.others c n o (t.stays c n (more c o) w));
      })
    where
      more : (c : ℕ) → (c ≡ 0) ⊎ (0 < side c (at cs x) + r c) → (c ≡ 0) ⊎ (0 < same (next_of cs x) c + same y c + (side c (at cs x) + r c))
      more c (inl e) = inl e
      more c (inr p) = inr (omega arith)

  first : Alone cs (next_of cs x) l → ((next_of cs x ≡ 0) × (x ≡ z)) ⊎ ((next_of cs x ≢ 0) × Last cs (next_of cs x) l z) → Joins f y z l m
      → First f cs x l m r a (set_next cs z y)
  first lone (inl (e, q)) ih = first-last e q
  first lone (inr (n, k)) ih = first-before lone k ih

-- a root beside x stays one beside the element of x
beside : (x : Cell) (r : ℕ → ℕ) (c : ℕ) → (c ≡ 0) ⊎ (0 < r c) → (c ≡ 0) ⊎ (0 < side c x + r c)
beside x r c (inl e) = inl e
beside x r c (inr p) = inr (omega arith)

pub joins : (f y z : ℕ) (m l : Lst) → Joins f y z l m
unfolding ListAt Alone Last joined
joins f y z m nil cs x r a h lx o k ly = absurd k
joins f y z m (atom v l) cs x r a h lx o k ly =
    let t = first f y z l m cs x r a h o.0 lx.3 ly o.1 k (joins f y z m l) in
    record { held = t.held; gets = (t.live, t.kind ∙ lx.1, t.elem ∙ lx.2, t.rest); others = λ c n p w. t.stays c n (beside (at cs x) r c p) w }
joins f y z m (list e l) cs x r a h lx o k ly =
    let t = first f y z l m cs x r a h o.0 lx.3 ly o.1 k (joins f y z m l) in
    let named : 0 < side (elem_of cs x) (at cs x) + r (elem_of cs x) = omega (arith, same_eq (elem_of cs x), side_list (elem_of cs x) (at cs x) lx.1) in
    record {
      held = t.held;
      gets = (t.live, t.kind ∙ lx.1, subst (λ u. ListAt (set_next cs z y) u e) (sym t.elem) (t.stays (elem_of cs x) e (inr named) lx.2), t.rest);
      others = λ c n p w. t.stays c n (beside (at cs x) r c p) w;
    }
