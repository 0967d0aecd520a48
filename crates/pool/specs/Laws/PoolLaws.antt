-- A number stands for at most one list, by induction on the two lists; and for which, by what its cell is.
use Rattle.std.specs.Prelude.{◌≡◌, refl, List, ℕ, ◌<◌}
use Rattle.std.proofs.Common.{sym, ap, ◌∙◌, subst, arith}
use Rattle.lists.specs.Lst.{Lst, nil, atom, list}
use Rattle.pool.specs.Pool.{Cell, at, elem_of, next_of, Live, ListAt}

-- a number stands for at most one list
zero_not_live : (cs : List Cell) (c : ℕ) → c ≡ 0 → Live cs c → ⊥
zero_not_live cs c e h = let h' : Live cs 0 = rw e at h in omega arith

pub ListAt_unique : (cs : List Cell) (c : ℕ) (l m : Lst) → ListAt cs c l → ListAt cs c m → l ≡ m
unfolding ListAt
ListAt_unique cs c nil nil h k = refl
ListAt_unique cs c nil (atom a m) h k = absurd (zero_not_live cs c h k.0)
ListAt_unique cs c nil (list f m) h k = absurd (zero_not_live cs c h k.0)
ListAt_unique cs c (atom a l) nil h k = absurd (zero_not_live cs c k h.0)
ListAt_unique cs c (atom a l) (atom b m) h k = cc (ListAt_unique cs (next_of cs c) l m h.3 k.3, h.2, k.2)
ListAt_unique cs c (atom a l) (list f m) h k = absurd (omega (arith, h.1, k.1))
ListAt_unique cs c (list e l) nil h k = absurd (zero_not_live cs c k h.0)
ListAt_unique cs c (list e l) (atom b m) h k = absurd (omega (arith, h.1, k.1))
ListAt_unique cs c (list e l) (list f m) h k = cc (ListAt_unique cs (next_of cs c) l m h.3 k.3, ListAt_unique cs (elem_of cs c) e f h.2 k.2)

-- c stands for a list that begins with an atom, or with a list, where its cell is z
pub heads_atom : (cs : List Cell) (c : ℕ) (z : Cell) (v : ℕ) (l : Lst) → at cs c ≡ z → 0 < z.count → z.kind ≡ 0 → z.elem ≡ v
    → ListAt cs z.next l → ListAt cs c (atom v l)
unfolding ListAt
heads_atom cs c z v l e n k w h =
    (subst (λ u. 0 < u.count) (sym e) n, ap (λ u. u.kind) e ∙ k, ap (λ u. u.elem) e ∙ w, subst (λ u. ListAt cs u l) (sym (ap (λ u. u.next) e)) h)

pub heads_list : (cs : List Cell) (c : ℕ) (z : Cell) (g l : Lst) → at cs c ≡ z → 0 < z.count → z.kind ≡ 1 → ListAt cs z.elem g
    → ListAt cs z.next l → ListAt cs c (list g l)
unfolding ListAt
heads_list cs c z g l e n k w h = (
  subst (λ u. 0 < u.count) (sym e) n,
  ap (λ u. u.kind) e ∙ k,
  subst (λ u. ListAt cs u g) (sym (ap (λ u. u.elem) e)) w,
  subst (λ u. ListAt cs u l) (sym (ap (λ u. u.next) e)) h,
)
