-- What keeps a list: live cells that keep their fields.
use Rattle.std.specs.Prelude.{◌≡◌, refl, ◌⊎◌, List, ℕ, zero, suc, ◌+◌, ◌<◌}
use Rattle.std.proofs.Common.{sym, ap, ◌∙◌, subst, inl, inr, arith}
use Rattle.std.proofs.Math.Decide.{ℕ_discrete}
use Rattle.lists.specs.Lst.{Lst, nil, atom, list}
use Rattle.pool.specs.Pool.{Cell, at, put, kind_of, elem_of, count_of, next_of, counted, Live, NullOrLive, InPool, ListAt, if_live, Step, Walk, lives}
use Rattle.pool.specs.Laws.Edit.{put_same, put_other, put-tally}
use Rattle.pool.specs.Laws.Held.{Held}
use Rattle.pool.specs.Laws.Reach.{next_ok, elem_ok}

-- ds has no live cell that cs has not, and those that it has are as in cs but for their count
abbrev pub Kept : List Cell → List Cell → Type 0
Kept cs ds = (c : ℕ) → Live ds c → Live cs c × (counted (at ds c) 0 ≡ counted (at cs c) 0)

pub Kept_trans : (bs cs ds : List Cell) → Kept bs cs → Kept cs ds → Kept bs ds
Kept_trans bs cs ds h k c l = let (l', e) = k c l in let (l'', f) = h c l' in (l'', e ∙ f)

module _ (cs : List Cell) (c : ℕ) (y : Cell) (inside : InPool cs c) where
  -- a property of what stands at d after the edit: of y, or of what stood there
  pub put-cases {ℓ} : (P : ℕ → Cell → Type ℓ) → P c y → ((d : ℕ) → P d (at cs d)) → (d : ℕ) → P d (at (put cs c y) d)
  put-cases P here there d = go (ℕ_discrete d c)
    where
      go : Dec (d ≡ c) → P d (at (put cs c y) d)
      go (no n) = subst (P d) (sym (put_other cs c d y n)) (there d)
      go (yes e) = subst (λ u. P u (at (put cs c y) u)) (sym e) (subst (P c) (sym (put_same cs c y inside.0 inside.1)) here)

  -- only the count has changed, of a live cell, or the cell is free now
  pub kept_count : counted y 0 ≡ counted (at cs c) 0 → (0 < y.count → Live cs c) → Kept cs (put cs c y)
  kept_count e old = put-cases (λ d x. 0 < x.count → Live cs d × (counted x 0 ≡ counted (at cs d) 0)) (λ l. (old l, e)) (λ d l. (l, refl))

  pub kept_free : y.count ≡ 0 → Kept cs (put cs c y)
  kept_free z = put-cases (λ d x. 0 < x.count → Live cs d × (counted x 0 ≡ counted (at cs d) 0)) (λ l. absurd (omega arith)) (λ d l. (l, refl))

  pub put-lives : lives (put cs c y) + if_live (count_of cs c) 1 ≡ lives cs + if_live y.count 1
  unfolding lives
  put-lives = put-tally (λ x. if_live x.count 1) cs c y inside.0 inside.1

-- cells become live, and none changes that was live (it is `Kept ds cs`): every list stays
pub ListAt_grown : (cs ds : List Cell) → Kept ds cs → (l : Lst) (c : ℕ) → ListAt cs c l → ListAt ds c l
unfolding ListAt
ListAt_grown cs ds k nil c h = h
ListAt_grown cs ds k (atom a l) c h =
    let (v, e) = k c h.0 in
    let nx : next_of cs c ≡ next_of ds c = ap (λ x. x.next) e in
    (v, sym (ap (λ x. x.kind) e) ∙ h.1, sym (ap (λ x. x.elem) e) ∙ h.2, ListAt_grown cs ds k l (next_of ds c) (subst (λ u. ListAt cs u l) nx h.3))
ListAt_grown cs ds k (list g l) c h =
    let (v, e) = k c h.0 in
    let nx : next_of cs c ≡ next_of ds c = ap (λ x. x.next) e in
    let el : elem_of cs c ≡ elem_of ds c = ap (λ x. x.elem) e in (
      v,
      sym (ap (λ x. x.kind) e) ∙ h.1,
      ListAt_grown cs ds k g (elem_of ds c) (subst (λ u. ListAt cs u g) el
          h.2),
      ListAt_grown cs ds k l (next_of ds c) (subst (λ u. ListAt cs u l) nx h.3),
    )

-- what stays when live cells keep their fields

pub ListAt-kept : (f : ℕ) (cs ds : List Cell) (r a : ℕ → ℕ) → Kept cs ds → Held f ds r a → (l : Lst) (c : ℕ) → NullOrLive ds c → ListAt cs c l → ListAt ds c l
unfolding ListAt
ListAt-kept f cs ds r a k s nil c o h = h
ListAt-kept f cs ds r a k s (atom v₀ l) c (inl e) h = absurd (let z : Live cs 0 = subst (Live cs) e h.0 in omega arith)
ListAt-kept f cs ds r a k s (atom v₀ l) c (inr v) h =
    let (_, e) = k c v in
    let nx : next_of ds c ≡ next_of cs c = ap (λ x. x.next) e in (
      v,
      ap (λ x. x.kind) e ∙ h.1,
      ap (λ x. x.elem) e ∙ h.2,
      ListAt-kept f cs ds r a k s l (next_of ds c) (next_ok f ds r a c s v) (subst (λ u. ListAt cs u l) (sym nx) h.3),
    )
ListAt-kept f cs ds r a k s (list g l) c (inl e) h = absurd (let z : Live cs 0 = subst (Live cs) e h.0 in omega arith)
ListAt-kept f cs ds r a k s (list g l) c (inr v) h =
    let (_, e) = k c v in
    let kd : kind_of ds c ≡ 1 = ap (λ x. x.kind) e ∙ h.1 in
    let nx : next_of ds c ≡ next_of cs c = ap (λ x. x.next) e in
    let el : elem_of ds c ≡ elem_of cs c = ap (λ x. x.elem) e in (
      v,
      kd,
      ListAt-kept f cs ds r a k s g (elem_of ds c) (elem_ok f ds r a c s v kd) (subst (λ u. ListAt cs u g) (sym el) h.2),
      ListAt-kept f cs ds r a k s l (next_of ds c) (next_ok f ds r a c s v) (subst (λ u. ListAt cs u l) (sym nx) h.3),
    )

pub step_kept : (cs ds : List Cell) → Kept cs ds → (c d : ℕ) → Step ds c d → Step cs c d
step_kept cs ds k c d s = let (l, e) = k c s.0 in (l, go e s.1)
  where
    go : counted (at ds c) 0 ≡ counted (at cs c) 0 → (next_of ds c ≡ d) ⊎ ((kind_of ds c ≡ 1) × (elem_of ds c ≡ d))
        → (next_of cs c ≡ d) ⊎ ((kind_of cs c ≡ 1) × (elem_of cs c ≡ d))
    go e (inl u) = inl (sym (ap (λ x. x.next) e) ∙ u)
    go e (inr u) = inr (sym (ap (λ x. x.kind) e) ∙ u.0, sym (ap (λ x. x.elem) e) ∙ u.1)

-- a walk in p from a cell that is live in q stays in q
pub walk_kept : (f : ℕ) (cs ds : List Cell) (r a : ℕ → ℕ) → Kept cs ds → Held f ds r a → (n b c : ℕ) → NullOrLive ds b → Walk cs n b c → NullOrLive ds c
unfolding Walk
walk_kept f cs ds r a k s zero b c o w = subst (NullOrLive ds) w o
walk_kept f cs ds r a k s (suc n) b c (inl e) w = absurd (let z : Live cs 0 = subst (Live cs) e w.1.0 in omega arith)
walk_kept f cs ds r a k s (suc n) b c (inr v) w = walk_kept f cs ds r a k s n w.0 c (go (k b v).1 w.1.1) w.2
  where
    go : counted (at ds b) 0 ≡ counted (at cs b) 0 → (next_of cs b ≡ w.0) ⊎ ((kind_of cs b ≡ 1) × (elem_of cs b ≡ w.0)) → NullOrLive ds w.0
    go e (inl u) = subst (NullOrLive ds) (ap (λ x. x.next) e ∙ u) (next_ok f ds r a b s v)
    go e (inr u) = subst (NullOrLive ds) (ap (λ x. x.elem) e ∙ u.1) (elem_ok f ds r a b s v (ap (λ x. x.kind) e ∙ u.0))
