-- Soundness is the one-equation invariant with the holders for roots; a cell is live exactly if some holder reaches it.
use Rattle.std.specs.Prelude.{◌≡◌, ◌≢◌, ◌⊎◌, cond, List, [], ◌∷◌, ℕ, zero, suc, ◌+◌, ◌≤◌, ◌<◌, eqb, length}
use Rattle.std.proofs.Common.{sym, subst, inl, inr, arith}
use Rattle.std.proofs.Math.Decide.{ℕ_discrete}
use Rattle.lists.specs.Lst.{Lst}
use Rattle.pool.specs.Tally.{same, tally, occ}
use Rattle.pool.specs.Laws.TallyLaws.{same_eq, same_ne, same_pos, tally_ge, tally_find}
use Rattle.pool.specs.Pool.{Cell, Pool, kind_of, elem_of, count_of, next_of, holder, Live, NullOrLive, ListAt, if_live, gives, sends, by_next, by_elem, Walk, Reaches, Sound, into}
use Rattle.pool.specs.Laws.Edit.{live_cell}
use Rattle.pool.specs.Laws.Held.{Held, root_live}
use Rattle.pool.specs.Laws.Arrows.{if_live_pos, if_live-zero}
use Rattle.pool.specs.Laws.Reach.{into-step, next_ok, elem_ok, rooted, list_of}

abbrev pub none_aside : ℕ → ℕ
none_aside c = 0

abbrev pub Held₀ : Pool → Type 0
Held₀ p = Held p.free p.cells (occ p.holders) none_aside

-- the two counts of document 01 are the arrows from cells
into_split : (cs : List Cell) (d : ℕ) → into cs d ≡ by_next cs d + by_elem cs d
unfolding by_next by_elem tally sends gives
into_split [] d = omega arith
into_split (x ∷ xs) d = omega (arith, into_split xs d, both x.count (same x.next d) (cond (eqb x.kind 1) (same x.elem d) 0))
  where
    both : (k m n : ℕ) → if_live k (m + n) ≡ if_live k m + if_live k n
    both k m n = go (ℕ_discrete k 0)
      where
        go : Dec (k ≡ 0) → if_live k (m + n) ≡ if_live k m + if_live k n
        go (yes e) = omega (arith, if_live-zero k (m + n) e, if_live-zero k m e, if_live-zero k n e)
        go (no e) = omega (arith, if_live_pos k (m + n) (omega arith), if_live_pos k m (omega arith), if_live_pos k n (omega arith))

-- soundness is the invariant with the holders for roots and no cell set aside

pub sound_held : (p : Pool) → Sound p → Held₀ p
unfolding Walk
sound_held p s = record {
  law = λ c n. law c n (ℕ_discrete (count_of p.cells c) 0);
  kinds = λ c l. kinds c (s.kinds c l);
  chain = (s.chain.0, s.chain.1, λ c. omega (arith, s.chain.2 c));
  acyclic = λ c n w. s.acyclic c n w.1.0 w;
}
  where
    kinds : (c : ℕ) → (kind_of p.cells c ≡ 0) ⊎ (kind_of p.cells c ≡ 1) → kind_of p.cells c ≤ 1
    kinds c (inl e) = omega arith
    kinds c (inr e) = omega arith

    not_live : (c : ℕ) → c ≢ 0 → count_of p.cells c ≡ 0 → NullOrLive p.cells c → ⊥
    not_live c n z (inl e) = n e
    not_live c n z (inr l) = omega arith

    none-held : (c : ℕ) → c ≢ 0 → count_of p.cells c ≡ 0 → Dec (occ p.holders c ≡ 0) → occ p.holders c ≡ 0
    none-held c n z (yes e) = e
    none-held c n z (no e) =
        let (i, b, k) = tally_find (λ h. same h c) p.holders 0 (omega arith) in
        absurd (not_live c n z (subst (NullOrLive p.cells) (same_pos (holder p i) c k) (s.holds i)))

    none_in : (c : ℕ) → c ≢ 0 → count_of p.cells c ≡ 0 → Dec (into p.cells c ≡ 0) → into p.cells c ≡ 0
    none_in c n z (yes e) = e
    none_in c n z (no e) = let (b, t) = into-step p.cells c (omega arith) in go b t.0 t.1
      where
        go : (b : ℕ) → Live p.cells b → (next_of p.cells b ≡ c) ⊎ ((kind_of p.cells b ≡ 1) × (elem_of p.cells b ≡ c)) → into p.cells c ≡ 0
        go b l (inl q) = absurd (not_live c n z (subst (NullOrLive p.cells) q (s.nexts b l)))
        go b l (inr q) = absurd (not_live c n z (subst (NullOrLive p.cells) q.1 (s.elems b l q.0)))

    law : (c : ℕ) → c ≢ 0 → Dec (count_of p.cells c ≡ 0) → count_of p.cells c ≡ occ p.holders c + into p.cells c
    law c n (no l) = omega (arith, s.counts c (omega arith), into_split p.cells c)
    law c n (yes z) = omega (arith, none-held c n z (ℕ_discrete (occ p.holders c) 0), none_in c n z (ℕ_discrete (into p.cells c) 0))

pub held_sound : (p : Pool) → Held₀ p → Sound p
held_sound p h = record {
  chain = (h.chain.0, h.chain.1, λ c. omega (arith, h.chain.2 c));
  kinds = λ c l. kinds c (h.kinds c l) (ℕ_discrete (kind_of p.cells c) 0);
  nexts = λ c l. next_ok p.free p.cells (occ p.holders) none_aside c h l;
  elems = λ c l k. elem_ok p.free p.cells (occ p.holders) none_aside c h l k;
  holds = λ i. holds i (ℕ_discrete (holder p i) 0);
  counts = λ c l. omega (arith, h.law c (omega (arith, live_cell p.cells c l)), into_split p.cells c);
  acyclic = λ c n l w. h.acyclic c n w;
}
  where
    kinds : (c : ℕ) → kind_of p.cells c ≤ 1 → Dec (kind_of p.cells c ≡ 0) → (kind_of p.cells c ≡ 0) ⊎ (kind_of p.cells c ≡ 1)
    kinds c k (yes e) = inl e
    kinds c k (no e) = inr (omega arith)

    holds : (i : ℕ) → Dec (holder p i ≡ 0) → NullOrLive p.cells (holder p i)
    holds i (yes e) = inl e
    holds i (no n) =
        let k = tally_ge (λ h. same h (holder p i)) p.holders i 0 (same_ne 0 (holder p i) (λ q. n (sym q))) in
        inr (root_live p.free p.cells (occ p.holders) none_aside (holder p i) h n (omega (arith, same_eq (holder p i))))

-- each holder of a sound pool has its list
pub denoted : (p : Pool) → Sound p → (h : ℕ) → (l : Lst) × ListAt p.cells (holder p h) l
denoted p s h = list_of p.free p.cells (occ p.holders) none_aside (sound_held p s) (holder p h) (s.holds h)

-- a cell is live exactly if some holder reaches it

pub live_reached : (p : Pool) → Sound p → (c : ℕ) → Live p.cells c → (h : ℕ) × (h < length p.holders) × Reaches p h c
live_reached p s c l =
    let (b, n, k, w) = rooted p.cells (occ p.holders) (sound_held p s).law (sound_held p s).acyclic c l in
    let (i, lt, q) = tally_find (λ h. same h b) p.holders 0 k in
    (i, lt, (w.0, subst (λ u. Walk p.cells w.0 u c) (sym (same_pos (holder p i) b q)) w.1))

walk_live : (p : Pool) → Sound p → (n b c : ℕ) → NullOrLive p.cells b → Walk p.cells n b c → NullOrLive p.cells c
unfolding Walk
walk_live p s zero b c o w = subst (NullOrLive p.cells) w o
walk_live p s (suc n) b c o w = walk_live p s n w.0 c (go w.1.1) w.2
  where
    go : (next_of p.cells b ≡ w.0) ⊎ ((kind_of p.cells b ≡ 1) × (elem_of p.cells b ≡ w.0)) → NullOrLive p.cells w.0
    go (inl q) = subst (NullOrLive p.cells) q (s.nexts b w.1.0)
    go (inr q) = subst (NullOrLive p.cells) q.1 (s.elems b w.1.0 q.0)

pub reached_live : (p : Pool) → Sound p → (h c : ℕ) → c ≢ 0 → Reaches p h c → Live p.cells c
reached_live p s h c n w = go (walk_live p s w.0 (holder p h) c (s.holds h) w.1)
  where
    go : NullOrLive p.cells c → Live p.cells c
    go (inl e) = absurd (n e)
    go (inr l) = l
