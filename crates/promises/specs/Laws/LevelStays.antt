-- INV and CONC change S only on the main level that they work on: whatever cell is met there is reached along S.
use Rattle.std.specs.Prelude.{◌≡◌, ◌⊎◌, List, length}
use Rattle.std.proofs.Math.Path.{refl, subst}
use Rattle.std.proofs.Common.{sym, ap, ◌∙◌, inl, arith}
use Rattle.std.proofs.Math.Logic.{inr}
use Prim.Native.Nat.{ℕ, zero, suc, ◌≤◌}
use Rattle.std.proofs.Math.Decide.{ℕ_discrete, dec_lt}
use Rattle.std.proofs.Math.Seq.{set_out}
use Rattle.pool.specs.Pool.{Cell, at, kind_of, elem_of, next_of, followed, set_next}
use Rattle.pool.specs.Laws.Edit.{put_same, put_other}
use Rattle.pool.specs.Operations.{flip, last_of}
use Rattle.pool.specs.Laws.LastCell.{last_of_end, last_of-next}
use Rattle.promises.specs.Grounds.{onward}

-- S of cell x set to y
pub next-set : (cs : List Cell) (x y c : ℕ) → (at (set_next cs x y) c ≡ at cs c) ⊎ ((c ≡ x) × (at (set_next cs x y) c ≡ followed (at cs c) y))
next-set cs zero y c = inl refl
next-set cs (suc i) y c = go (ℕ_discrete c (suc i)) (dec_lt i (length cs))
  where
    go : Dec (c ≡ suc i) → Dec (suc i ≤ length cs) → (at (set_next cs (suc i) y) c ≡ at cs c) ⊎ ((c ≡ suc i) × (at (set_next cs (suc i) y) c ≡ followed (at cs c) y))
    go (no n) d = inl (put_other cs (suc i) c (followed (at cs (suc i)) y) n)
    go (yes e) (yes l) = inr (e, rw e (put_same cs (suc i) (followed (at cs (suc i)) y) (omega arith) l))
    go (yes e) (no n) = inl (ap (λ (ds : List Cell). at ds c) (set_out cs i (followed (at cs (suc i)) y) (omega arith)))

module _ (bs : List Cell) (h : ℕ) where
  onward-next : (n x : ℕ) → onward bs (suc n) x ≡ next_of bs (onward bs n x)
  unfolding onward
  onward-next zero x = refl
  onward-next (suc n) x = onward-next n (next_of bs x)

  -- null, or met along S from h
  abbrev pub Met : ℕ → Type 0
  Met c = (c ≡ 0) ⊎ ((n : ℕ) × (onward bs n h ≡ c))

  pub met-first : Met h
  unfolding onward
  met-first = inr (0, refl)

  met_next : (c : ℕ) → Met c → Met (next_of bs c)
  met_next c (inl e) = inl (ap (next_of bs) e)
  met_next c (inr (n, e)) = inr (suc n, onward-next n h ∙ ap (next_of bs) e)

  -- T and E as in bs, and S too but on the level, where it leads to the level
  abbrev pub Turned : List Cell → ℕ → Type 0
  Turned cs c = (kind_of cs c ≡ kind_of bs c) × (elem_of cs c ≡ elem_of bs c) × ((next_of cs c ≡ next_of bs c) ⊎ (Met c × Met (next_of cs c)))

  leads : (cs : List Cell) (x : ℕ) → Met x → Turned cs x → Met (next_of cs x)
  leads cs x m (k, e, inl q) = subst Met (sym q) (met_next x m)
  leads cs x m (k, e, inr q) = q.1

  turned_set : (cs : List Cell) (x y : ℕ) → Met x → Met y → ((c : ℕ) → Turned cs c) → (c : ℕ) → Turned (set_next cs x y) c
  turned_set cs x y m n t c = go (next-set cs x y c)
    where
      go : (at (set_next cs x y) c ≡ at cs c) ⊎ ((c ≡ x) × (at (set_next cs x y) c ≡ followed (at cs c) y)) → Turned (set_next cs x y) c
      go (inl e) = subst (λ (z : Cell). (z.kind ≡ kind_of bs c) × (z.elem ≡ elem_of bs c) × ((z.next ≡ next_of bs c) ⊎ (Met c × Met z.next))) (sym e) (t c)
      go (inr (q, e)) = subst (λ (z : Cell). (z.kind ≡ kind_of bs c) × (z.elem ≡ elem_of bs c) × ((z.next ≡ next_of bs c) ⊎ (Met c × Met z.next))) (sym e) ((t c).0, (t c).1, inr (subst Met (sym q) m, n))

  pub flip-turned : (k : ℕ) (cs : List Cell) (x y : ℕ) → Met x → Met y → ((c : ℕ) → Turned cs c) → (c : ℕ) → Turned (flip k cs x y).0 c
  unfolding flip
  flip-turned zero cs x y m n t = t
  flip-turned (suc k) cs zero y m n t = t
  flip-turned (suc k) cs (suc i) y m n t = flip-turned k (set_next cs (suc i) y) (next_of cs (suc i)) (suc i) (leads cs (suc i) m (t (suc i))) m (turned_set cs (suc i) y m n t)

  pub last-met : (k x : ℕ) → Met x → Met (last_of k bs x)
  unfolding last_of
  last-met zero x m = m
  last-met (suc k) x m = go (ℕ_discrete (next_of bs x) 0) (last-met k (next_of bs x) (met_next x m))
    where
      go : Dec (next_of bs x ≡ 0) → Met (last_of k bs (next_of bs x)) → Met (last_of (suc k) bs x)
      go (yes e) r = subst Met (sym (last_of_end (suc k) bs x e)) m
      go (no n) r = subst Met (sym (last_of-next k bs x n)) r
