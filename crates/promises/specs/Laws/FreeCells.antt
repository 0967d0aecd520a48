-- Free cells and reached cells of a sound pool: a cell is on the free chain or reached, the reached ones are counted, and what ERASE frees.
use Rattle.std.specs.Prelude.{◌≡◌, refl, ◌≢◌, ◌⊎◌, ◌↔◌, List, ℕ, suc, length}
use Rattle.std.proofs.Common.{ap, ◌∙◌, inl, inr, arith}
use Rattle.std.proofs.Math.Decide.{ℕ_discrete}
use Rattle.pool.specs.Tally.{occ, Number, start, hit, miss}
use Rattle.pool.specs.Laws.TallyLaws.{same_of, same_pos}
use Rattle.pool.specs.Pool.{Pool, count_of, Live, InPool, mark, lives, Sound}
use Rattle.pool.specs.Operations.{erase}
use Rattle.pool.specs.Laws.EraseLaws.{erases}
use Rattle.pool.specs.Laws.Edit.{mark-cell, mark-past}
use Rattle.pool.specs.Laws.Chains.{Chain_unique}
use Rattle.pool.specs.Laws.Number.{Number-map, number_live}
use Rattle.pool.specs.Laws.SoundLaws.{live_reached, reached_live}
use Rattle.promises.specs.Demand3.{Free, Used, OnlyBy}

-- a cell is on the free chain exactly if its count is 0
module _ (p : Pool) (s : Sound p) where
  pub free-zero : (c : ℕ) → Free p c → InPool p.cells c × (count_of p.cells c ≡ 0)
  free-zero c (fs, k, o) =
      let e = Chain_unique p.cells p.free fs s.chain.0 k s.chain.1 in
      let m : occ fs c ≡ mark p.cells c = ap (λ (gs : List ℕ). occ gs c) e ∙ s.chain.2 c in
      let i = mark-past p.cells c (omega arith) in
      (i, same_pos (count_of p.cells c) 0 (omega (arith, mark-cell p.cells c i.0 i.1)))

  pub zero-free : (c : ℕ) → InPool p.cells c → count_of p.cells c ≡ 0 → Free p c
  zero-free c i z = (s.chain.0, s.chain.1, omega (arith, s.chain.2 c, mark-cell p.cells c i.0 i.1, same_of (count_of p.cells c) 0 z))

  pub live_not_free : (c : ℕ) → Live p.cells c → Free p c → ⊥
  live_not_free c l f = let z = (free-zero c f).1 in omega arith

  -- a cell is live exactly if a holder reaches it
  pub used_live : (c : ℕ) → c ≢ 0 → Used p c → Live p.cells c
  used_live c n (h, lt, w) = reached_live p s h c n w

  pub live_used : (c : ℕ) → Live p.cells c → Used p c
  live_used c l = let (h, lt, w) = live_reached p s c l in (h, lt, w)

  pub free_or_live : (c : ℕ) → InPool p.cells c → Free p c ⊎ Live p.cells c
  free_or_live c i = go (ℕ_discrete (count_of p.cells c) 0)
    where
      go : Dec (count_of p.cells c ≡ 0) → Free p c ⊎ Live p.cells c
      go (yes z) = inl (zero-free c i z)
      go (no z) = inr (omega arith)

  -- the cells reached are as many as the live ones
  pub number-used : Number (Used p) (length p.cells) (lives p.cells)
  number-used = Number-map (Live p.cells) (Used p) (λ c n. live_used c) used_live (number_live p.cells)

pub Number_unique : (P : ℕ → Type 0) {k n m : ℕ} → Number P k n → Number P k m → n ≡ m
Number_unique P start start = refl
Number_unique P (hit p r) (hit q s) = ap suc (Number_unique P r s)
Number_unique P (hit p r) (miss q s) = absurd (q p)
Number_unique P (miss p r) (hit q s) = absurd (p q)
Number_unique P (miss p r) (miss q s) = Number_unique P r s

-- ERASE

module _ (p : Pool) (s : Sound p) (a : ℕ) where
  pub erase-frees_cells : (c : ℕ) → InPool p.cells c → ((Free p c → ⊥) × Free (erase p a).0 c) ↔ OnlyBy p a c
  erase-frees_cells c i =
      let d = erases p a s in
      let n : c ≢ 0 = λ z. omega arith in
      let f = d.frees c n in (
        (λ (g, h). f.0 (live g (free_or_live p s c i), λ l. live_not_free (erase p a).0 d.sound c l h)),
        (λ o. let (l, m) = f.1 o in ((λ g. live_not_free p s c l g), dead m (free_or_live (erase p a).0 d.sound c (i.0, omega (arith, d.size, i.1))))),
      )
    where
      live : (Free p c → ⊥) → Free p c ⊎ Live p.cells c → Live p.cells c
      live g (inl f) = absurd (g f)
      live g (inr l) = l

      dead : (Live (erase p a).0.cells c → ⊥) → Free (erase p a).0 c ⊎ Live (erase p a).0.cells c → Free (erase p a).0 c
      dead m (inl f) = f
      dead m (inr l) = absurd (m l)
