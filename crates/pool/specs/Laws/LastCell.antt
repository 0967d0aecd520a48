-- The last cell of the main level, as a relation by the list that is there, and by `last_of`.
use Rattle.std.specs.Prelude.{◌≡◌, refl, ◌≢◌, ◌⊎◌, List, ℕ, zero, suc, ◌≤◌}
use Rattle.std.proofs.Common.{sym, ap, ◌∙◌, subst, inl, inr, arith}
use Rattle.std.proofs.Math.Decide.{ℕ_discrete}
use Rattle.lists.specs.Lst.{Lst, nil, atom, list, len}
use Rattle.pool.specs.Pool.{Cell, at, next_of, Live, ListAt}
use Rattle.pool.specs.Operations.{last_of}

-- z is the last cell of the list l from c
unfoldable pub Last : List Cell → ℕ → Lst → ℕ → Type 0
Last cs c nil z = ⊥
Last cs c (atom v l) z = ((next_of cs c ≡ 0) × (c ≡ z)) ⊎ ((next_of cs c ≢ 0) × Last cs (next_of cs c) l z)
Last cs c (list e l) z = ((next_of cs c ≡ 0) × (c ≡ z)) ⊎ ((next_of cs c ≢ 0) × Last cs (next_of cs c) l z)

pub Last_live : (cs : List Cell) (l : Lst) (c z : ℕ) → ListAt cs c l → Last cs c l z → Live cs z
unfolding ListAt Last
Last_live cs nil c z h k = absurd k
Last_live cs (atom v l) c z h (inl (e, q)) = subst (Live cs) q h.0
Last_live cs (atom v l) c z h (inr (n, k)) = Last_live cs l (next_of cs c) z h.3 k
Last_live cs (list e l) c z h (inl (_, q)) = subst (Live cs) q h.0
Last_live cs (list e l) c z h (inr (n, k)) = Last_live cs l (next_of cs c) z h.3 k

-- by cells that are alike where bs is live
like_first : (bs cs : List Cell) (l : Lst) (c z : ℕ) → at cs c ≡ at bs c → (Last cs (next_of bs c) l z → Last bs (next_of bs c) l z)
    → ((next_of cs c ≡ 0) × (c ≡ z)) ⊎ ((next_of cs c ≢ 0) × Last cs (next_of cs c) l z)
    → ((next_of bs c ≡ 0) × (c ≡ z)) ⊎ ((next_of bs c ≢ 0) × Last bs (next_of bs c) l z)
like_first bs cs l c z k ih (inl (e, q)) = inl (sym (ap (λ x. x.next) k) ∙ e, q)
like_first bs cs l c z k ih (inr (n, o)) =
    let e : next_of cs c ≡ next_of bs c = ap (λ x. x.next) k in
    inr ((λ q. n (e ∙ q)), ih (subst (λ u. Last cs u l z) e o))

pub Last_like : (bs cs : List Cell) → ((c : ℕ) → Live bs c → at cs c ≡ at bs c) → (l : Lst) (c z : ℕ) → ListAt bs c l → Last cs c l z → Last bs c l z
unfolding ListAt Last
Last_like bs cs k nil c z h o = o
Last_like bs cs k (atom v l) c z h o = like_first bs cs l c z (k c h.0) (Last_like bs cs k l (next_of bs c) z h.3) o
Last_like bs cs k (list g l) c z h o = like_first bs cs l c z (k c h.0) (Last_like bs cs k l (next_of bs c) z h.3) o

pub last_of_end : (k : ℕ) (cs : List Cell) (x : ℕ) → next_of cs x ≡ 0 → last_of k cs x ≡ x
unfolding last_of
last_of_end zero cs x e = refl
last_of_end (suc k) cs x e = rw (e, last_of)

pub last_of-next : (k : ℕ) (cs : List Cell) (x : ℕ) → next_of cs x ≢ 0 → last_of (suc k) cs x ≡ last_of k cs (next_of cs x)
unfolding last_of
last_of-next k cs x n = go (next_of cs x) refl
  where
    go : (s : ℕ) → next_of cs x ≡ s → last_of (suc k) cs x ≡ last_of k cs (next_of cs x)
    go zero e = absurd (n e)
    go (suc i) e = rw (e, last_of)

no_cells : (cs : List Cell) (c : ℕ) (l : Lst) → len l ≤ 0 → ListAt cs c l → c ≡ 0
unfolding len ListAt
no_cells cs c nil s h = h
no_cells cs c (atom v l) s h = absurd (omega arith)
no_cells cs c (list e l) s h = absurd (omega arith)

-- of a list that is not null; l is what is behind the first cell
last-first : (k : ℕ) (cs : List Cell) (x : ℕ) (l : Lst) → ListAt cs (next_of cs x) l → len l ≤ k
    → ((j : ℕ) → suc j ≡ k → next_of cs x ≢ 0 → Last cs (next_of cs x) l (last_of j cs (next_of cs x)))
    → ((next_of cs x ≡ 0) × (x ≡ last_of k cs x)) ⊎ ((next_of cs x ≢ 0) × Last cs (next_of cs x) l (last_of k cs x))
last-first zero cs x l h s ih =
    let e = no_cells cs (next_of cs x) l s h in
    inl (e, sym (last_of_end zero cs x e))
last-first (suc k) cs x l h s ih = go (ℕ_discrete (next_of cs x) 0)
  where
    go : Dec (next_of cs x ≡ 0)
        → ((next_of cs x ≡ 0) × (x ≡ last_of (suc k) cs x)) ⊎ ((next_of cs x ≢ 0) × Last cs (next_of cs x) l (last_of (suc k) cs x))
    go (yes e) = inl (e, sym (last_of_end (suc k) cs x e))
    go (no m) = inr (m, subst (Last cs (next_of cs x) l) (sym (last_of-next k cs x m)) (ih k refl m))

pub last_is : (l : Lst) (k : ℕ) (cs : List Cell) (x : ℕ) → ListAt cs x l → x ≢ 0 → len l ≤ suc k → Last cs x l (last_of k cs x)
unfolding Last ListAt len
last_is nil k cs x h n s = absurd (n h)
last_is (atom v l) k cs x h n s = last-first k cs x l h.3 (omega arith) (λ j e m. last_is l j cs (next_of cs x) h.3 m (omega arith))
last_is (list g l) k cs x h n s = last-first k cs x l h.3 (omega arith) (λ j e m. last_is l j cs (next_of cs x) h.3 m (omega arith))
