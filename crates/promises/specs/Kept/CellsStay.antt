-- No cell of ours moves: each operation puts new cells where none is live, and changes S only of cells that it frees or turns.
use Rattle.std.specs.Prelude.{◌≡◌, ◌≢◌, ◌⊎◌, length, set}
use Rattle.std.proofs.Math.Path.{refl}
use Rattle.std.proofs.Common.{sym, ap, ◌∙◌, subst, inr, arith}
use Rattle.std.proofs.Math.Logic.{inl}
use mathlib.Core.List.{List, [], ◌∷◌}
use Prim.Native.Nat.{ℕ, zero, suc, ◌+◌, ◌<◌}
use Rattle.std.proofs.Math.Decide.{ℕ_discrete}
use package.borrow.Author.Tests.{not-false, eqb-true, eqb-false, ltb-false}
use Rattle.pool.specs.Tally.{same, tally, occ}
use Rattle.pool.specs.Laws.TallyLaws.{same_of, same_ne}
use Rattle.pool.specs.Pool.{Cell, Pool, at, next_of, counted, followed, set_count, set_next, holder, Live, Chain, frees, Sound}
use Rattle.pool.specs.Laws.Edit.{put-length, put_same, put_other, live_cell}
use Rattle.pool.specs.Laws.Held.{reroot}
use Rattle.pool.specs.Laws.Holders.{occ-take, both}
use Rattle.pool.specs.Laws.Room.{frees-lives}
use Rattle.pool.specs.Laws.DropRun.{drops}
use Rattle.pool.specs.Laws.SoundLaws.{none_aside, sound_held, denoted}
use Rattle.pool.specs.Laws.Advance.{holder_live, lends}
use Rattle.pool.specs.Laws.Level.{length_is}
use Rattle.pool.specs.Operations.{share, item, pfa, pfl, decap, adv, borrow, erase, flip, inv, cinv, last_of, conc_at, conc, length_of}
use Rattle.pool.specs.Script.{ADV, INV, CINV, CONC, Operation, uses_b, effect}
use Rattle.pool.specs.Laws.ScriptLaws.{Allowed, a_holder, b-holder}
use Rattle.pool.specs.Laws.ByCode.{by_code}
use Rattle.promises.specs.Engine.{ours}
use Rattle.promises.specs.Rows.{OneOf}
use Rattle.promises.specs.Grounds.{MainLevel}
use Rattle.promises.specs.Cells.{turning, StaysBut, LiveCellsStay}
use Rattle.promises.specs.Laws.FreeCells.{live_not_free}
use Rattle.promises.specs.Kept.CellsDo.{makes}
use Rattle.promises.specs.Laws.CopyCells.{share-stays}
use Rattle.promises.specs.Laws.CopyStays.{copy_grows}
use Rattle.promises.specs.Laws.LevelStays.{next-set, Met, met-first, Turned, flip-turned, last-met}
use Rattle.table.specs.declared.Form.{Form}

-- the head of the free chain is not live
head-free : (p : Pool) → Sound p → (c : ℕ) → Live p.cells c → c ≢ p.free
unfolding Chain tally
head-free p s c l e = live_not_free p s c l (s.chain.0, s.chain.1, go s.chain.0 s.chain.1)
  where
    go : (fs : List ℕ) → Chain p.cells p.free fs → 0 < occ fs c
    go [] k = let z : Live p.cells 0 = subst (Live p.cells) (e ∙ k) l in absurd (omega arith)
    go (f ∷ fs) k = omega (arith, same_of f c (sym (e ∙ k.0)))

-- a cell that changes no more than its count
uncounted : {M : Type 0} (cs ds : List Cell) (c : ℕ) → counted (at ds c) 0 ≡ counted (at cs c) 0 → StaysBut M cs ds c
uncounted cs ds c e = (ap (λ (z : Cell). z.kind) e, ap (λ (z : Cell). z.elem) e, inl (ap (λ (z : Cell). z.next) e))

-- a cell that is freed
released : {M : Type 0} (cs : List Cell) (x f c : ℕ) → Live cs c → Live (set_next (set_count cs x 0) x f) c → StaysBut M cs (set_next (set_count cs x 0) x f) c
released {M} cs x f c l k = go (ℕ_discrete c x)
  where
    ds : List Cell
    ds = set_count cs x 0

    go : Dec (c ≡ x) → StaysBut M cs (set_next ds x f) c
    go (no n) = uncounted cs (set_next ds x f) c (ap (λ (z : Cell). counted z 0) (put_other ds x c (followed (at ds x) f) n ∙ put_other cs x c (counted (at cs x) 0) n))
    go (yes e) =
        let (a, b) = live_cell cs x (subst (Live cs) e l) in
        let one = put_same cs x (counted (at cs x) 0) a b in
        let two = put_same ds x (followed (at ds x) f) a (omega (arith, b, put-length cs x (counted (at cs x) 0))) in
        absurd (omega (arith, subst (Live (set_next ds x f)) e k, ap (λ (z : Cell). z.count) two, ap (λ (z : Cell). z.count) one))

coded : (p : Pool) (o : Operation) (c : ℕ) → o.code ≡ c → Allowed p o → Allowed p (record { code = c; a = o.a; b = o.b; v = o.v })
coded p o c e h = subst (λ (k : ℕ). Allowed p (record { code = k; a = o.a; b = o.b; v = o.v })) e h

module _ (p : Pool) (o : Operation) (s : Sound p) (h : Allowed p o) (c : ℕ) (l : Live p.cells c) where
  abbrev Keeps : Pool → Type 0
  Keeps q = Live q.cells c → StaysBut (OneOf o.code turning × MainLevel p o.a c) p.cells q.cells c

  kept-pfa : Keeps (pfa p o.a o.v)
  unfolding pfa
  kept-pfa k = uncounted p.cells _ c (ap (λ (z : Cell). counted z 0) (put_other p.cells p.free c _ (head-free p s c l)))

  kept-pfl : Keeps (pfl p o.a o.b)
  unfolding pfl
  kept-pfl k = uncounted p.cells _ c (ap (λ (z : Cell). counted z 0) (put_other p.cells p.free c _ (head-free p s c l)))

  kept-decap : Keeps (decap p o.a o.b)
  unfolding decap
  kept-decap k = released p.cells (holder p o.a) p.free c l k

  kept-adv : o.code ≡ ADV → Keeps (adv p o.a o.b)
  unfolding adv
  kept-adv e k =
      let (lb, ab) = b-holder p o h.opened (ap uses_b e) in
      let la = a_holder p o h.opened in
      let g = coded p o ADV e h in
      let x = holder p o.a in
      let i = item p.cells x in
      let (w, u) = lends p o.a o.b s la lb ab (eqb-true (holder p o.b) 0 (not-false _ g.vacant)) (holder_live p o.a s (eqb-false x 0 g.filled)) in
      let ds = share (share p.cells i) (next_of p.cells x) in
      let (l₂, e₂) = (drops (occ (both p.holders o.a o.b (next_of p.cells x) i la lb ab)) p.free ds x u.held).kept c k in
      let (l₁, e₁) = u.kept c l₂ in
      uncounted p.cells _ c (e₂ ∙ e₁ ∙ (w.kept c l₁).1)

  kept-borrow : Keeps (borrow p o.a o.b)
  unfolding borrow
  kept-borrow k = uncounted p.cells _ c (share-stays p.cells (holder p o.a) c (s.holds o.a))

  kept-erase : Keeps (erase p o.a).0
  unfolding erase
  kept-erase k =
      let r : ℕ → ℕ = occ (set p.holders o.a 0) in
      let x = holder p o.a in
      let d = drops r p.free p.cells x (reroot p.free p.cells (occ p.holders) none_aside (λ d. same x d + r d) none_aside (sound_held p s) (λ d n. omega (arith, occ-take p.holders o.a d (a_holder p o h.opened) n)) (λ d. refl)) in
      uncounted p.cells _ c (d.kept c k).1

  -- a live cell that is met along S from a is on its main level
  level : Met p.cells (holder p o.a) c → MainLevel p o.a c
  level (inl e) = absurd (omega (arith, subst (Live p.cells) e l))
  level (inr m) = ((λ z. omega (arith, subst (Live p.cells) z l)), m)

  kept-inv : o.code ≡ INV → Keeps (inv p o.a)
  unfolding inv
  kept-inv e k = go (flip-turned p.cells (holder p o.a) (length p.cells) p.cells (holder p o.a) 0 (met-first p.cells (holder p o.a)) (inl refl) (λ d. (refl, refl, inl refl)) c)
    where
      ds : List Cell
      ds = (flip (length p.cells) p.cells (holder p o.a) 0).0

      go : Turned p.cells (holder p o.a) ds c → StaysBut (OneOf o.code turning × MainLevel p o.a c) p.cells ds c
      go (x, y, inl z) = (x, y, inl z)
      go (x, y, inr z) = (x, y, inr (inl e, level z.0))

  kept-cinv : o.code ≡ CINV → Keeps (cinv p o.a o.b)
  unfolding cinv
  kept-cinv e k =
      let (m, w) = denoted p s o.a in
      let x = holder p o.a in
      let cs = p.cells in
      let n = sound_held p s in
      let g = copy_grows (occ p.holders) m (length cs) p.free cs x 0
      (omega (arith, length_is p o.a m s w, frees-lives cs, ltb-false (frees cs) (length_of p o.a) (coded p o CINV e h).room))
      (reroot p.free cs (occ p.holders) none_aside (λ d. same 0 d + occ p.holders d) none_aside n (λ d f. omega (arith, same_ne 0 d (λ q. f (sym q)))) (λ d. refl)) w in
      uncounted cs _ c (sym (g c l).1)

  kept-conc : o.code ≡ CONC → Keeps (conc p o.a o.b)
  unfolding conc conc_at
  kept-conc e = go (holder p o.a) (holder p o.b) refl
    where
      go : (x y : ℕ) → holder p o.a ≡ x → Keeps (conc_at p o.a o.b x y)
      go x zero q k = (refl, refl, inl refl)
      go zero (suc j) q k = (refl, refl, inl refl)
      go (suc i) (suc j) q k = set_at (next-set p.cells z (suc j) c)
        where
          z : ℕ
          z = last_of (length p.cells) p.cells (suc i)

          met : Met p.cells (holder p o.a) z
          met = last-met p.cells (holder p o.a) (length p.cells) (suc i) (subst (Met p.cells (holder p o.a)) q (met-first p.cells (holder p o.a)))

          set_at : (at (set_next p.cells z (suc j)) c ≡ at p.cells c) ⊎ ((c ≡ z) × (at (set_next p.cells z (suc j)) c ≡ followed (at p.cells c) (suc j)))
              → StaysBut (OneOf o.code turning × MainLevel p o.a c) p.cells (set_next p.cells z (suc j)) c
          set_at (inl f) = uncounted p.cells _ c (ap (λ (u : Cell). counted u 0) f)
          set_at (inr (f, g)) = (ap (λ (u : Cell). u.kind) g, ap (λ (u : Cell). u.elem) g, inr (inr (inl e), level (subst (Met p.cells (holder p o.a)) (sym f) met)))

  kept : Keeps (effect p o).pool
  kept = by_code Keeps p o (λ e. kept-pfa) (λ e. kept-pfl) (λ e. kept-decap) kept-adv (λ e. kept-borrow) (λ e. kept-erase) kept-inv kept-cinv kept-conc (λ k. (refl, refl, inl refl))

pub live_cells_stay : (form : Form) → LiveCellsStay form (ours form)
live_cells_stay form = makes form (λ o p q. (c : ℕ) → Live p.cells c → Live q.cells c → StaysBut (OneOf o.code turning × MainLevel p o.a c) p.cells q.cells c) (λ p o s h c l. kept p o s h c l)
