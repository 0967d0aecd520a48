-- What ERASE does: the cells that it frees, and counts, are those that are reached from its holder alone.
use Rattle.std.specs.Prelude.{◌≡◌, refl, ◌≢◌, ◌↔◌, List, ℕ, zero, suc, ◌+◌, ◌<◌, length, get_or, set}
use Rattle.std.proofs.Common.{sym, ap, ◌∙◌, subst, inl, inr, arith, get_or-set_same, get_or-set_other}
use Rattle.std.proofs.Math.Decide.{ℕ_discrete, dec_lt}
use Rattle.std.proofs.Math.ListN.{get_or-eq_default}
use Rattle.std.proofs.Math.Seq.{set_out}
use Rattle.lists.specs.Lst.{Lst}
use Rattle.pool.specs.Tally.{same, occ, Number}
use Rattle.pool.specs.Laws.TallyLaws.{same_ne, tally-set}
use Rattle.pool.specs.Pool.{Pool, holder, Live, NullOrLive, ListAt, Walk, Sound, Reaches}
use Rattle.pool.specs.Erase.{Dropping, dropped}
use Rattle.pool.specs.Operations.{erase}
use Rattle.pool.specs.Laws.Held.{reroot}
use Rattle.pool.specs.Laws.Arrows.{Walk-map}
use Rattle.pool.specs.Laws.Frame.{Kept, ListAt-kept, step_kept, walk_kept}
use Rattle.pool.specs.Laws.Number.{Number-map, number_freed}
use Rattle.pool.specs.Laws.DropRun.{Dropped, drops}
use Rattle.pool.specs.Laws.SoundLaws.{none_aside, sound_held, held_sound, live_reached, reached_live}

pub record Erases (p : Pool) (h : ℕ) (q : Pool) (n : ℕ) : Type 0 where
  pub sound : Sound q
  pub holders : q.holders ≡ set p.holders h 0
  -- every other holder's list stays
  pub others : (i : ℕ) (l : Lst) → i ≢ h → ListAt p.cells (holder p i) l → ListAt q.cells (holder q i) l
  -- no cell is new, and a cell is freed exactly if h reaches it and no other holder does
  pub kept : (c : ℕ) → Live q.cells c → Live p.cells c
  pub frees : (c : ℕ) → c ≢ 0 → (Live p.cells c × (Live q.cells c → ⊥)) ↔ (Reaches p h c × ((i : ℕ) → i ≢ h → Reaches p i c → ⊥))
  -- and the number given is the number of those cells
  pub number : Number (λ c. Reaches p h c × ((i : ℕ) → i ≢ h → Reaches p i c → ⊥)) (length p.cells) n
  pub size : length q.cells ≡ length p.cells

occ-cleared : (hs : List ℕ) (h c : ℕ) → c ≢ 0 → same (get_or hs h 0) c + occ (set hs h 0) c ≡ occ hs c
occ-cleared hs h c n = go (dec_lt h (length hs))
  where
    go : Dec (h < length hs) → same (get_or hs h 0) c + occ (set hs h 0) c ≡ occ hs c
    go (yes l) = omega (arith, tally-set (λ k. same k c) hs h 0 0 l, same_ne 0 c (λ q. n (sym q)))
    go (no m) =
        let z : get_or hs h 0 ≡ 0 = get_or-eq_default hs 0 (omega arith) in
        let s : set hs h 0 ≡ hs = set_out hs h 0 (omega arith) in
        rw (z, s) (omega (arith, same_ne 0 c (λ q. n (sym q))))

-- nothing is reached from a null holder
null_reaches : (q : Pool) (n b c : ℕ) → b ≡ 0 → Live q.cells c → Walk q.cells n b c → ⊥
unfolding Walk
null_reaches q zero b c e l w = let z : Live q.cells 0 = subst (Live q.cells) (sym w ∙ e) l in omega arith
null_reaches q (suc n) b c e l w = let z : Live q.cells 0 = subst (Live q.cells) e w.1.0 in omega arith

module _ (p : Pool) (h : ℕ) (q : Pool) (s : Sound p) (t : Sound q) (k : Kept p.cells q.cells) (hs : q.holders ≡ set p.holders h 0) where
  other-holder : (i : ℕ) → i ≢ h → holder q i ≡ holder p i
  other-holder i n = ap (λ l. get_or l i 0) hs ∙ get_or-set_other p.holders h i 0 0 n

  own_holder : holder q h ≡ 0
  own_holder = ap (λ l. get_or l h 0) hs ∙ go (dec_lt h (length p.holders))
    where
      go : Dec (h < length p.holders) → get_or (set p.holders h 0) h 0 ≡ 0
      go (yes l) = get_or-set_same p.holders h 0 0 l
      go (no m) = rw (set_out p.holders h 0 (omega arith)) (get_or-eq_default p.holders 0 (omega arith))

  pub stays_reached : (c : ℕ) → Live q.cells c → (i : ℕ) × (i ≢ h) × Reaches p i c
  stays_reached c l = let (i, lt, (n, w)) = live_reached q t c l in go i n w (ℕ_discrete i h)
    where
      go : (i n : ℕ) → Walk q.cells n (holder q i) c → Dec (i ≡ h) → (i : ℕ) × (i ≢ h) × Reaches p i c
      go i n w (yes e) = absurd (null_reaches q n (holder q i) c (ap (holder q) e ∙ own_holder) l w)
      go i n w (no m) =
          (i, m, (n, subst (λ u. Walk p.cells n u c) (other-holder i m) (Walk-map q.cells p.cells (step_kept p.cells q.cells k) n (holder q i) c w)))

  pub reached_stays : (c i : ℕ) → c ≢ 0 → i ≢ h → Reaches p i c → Live q.cells c
  reached_stays c i n m (j, w) =
      go (walk_kept q.free p.cells q.cells (occ q.holders) none_aside k (sound_held q t) j (holder p i) c (subst (NullOrLive q.cells) (other-holder i m) (t.holds i)) w)
    where
      go : NullOrLive q.cells c → Live q.cells c
      go (inl e) = absurd (n e)
      go (inr l) = l

  freed_by : (c : ℕ) → c ≢ 0 → (Live p.cells c × (Live q.cells c → ⊥)) ↔ (Reaches p h c × ((i : ℕ) → i ≢ h → Reaches p i c → ⊥))
  freed_by c n = (λ f. to f.0 f.1, λ g. (reached_live p s h c n g.0, λ l. back g.1 (stays_reached c l)))
    where
      to : Live p.cells c → (Live q.cells c → ⊥) → Reaches p h c × ((i : ℕ) → i ≢ h → Reaches p i c → ⊥)
      to l f = (by (live_reached p s c l), λ i m w. f (reached_stays c i n m w))
        where
          by : (i : ℕ) × (i < length p.holders) × Reaches p i c → Reaches p h c
          by (i, lt, w) = at_i (ℕ_discrete i h)
            where
              at_i : Dec (i ≡ h) → Reaches p h c
              at_i (yes e) = subst (λ j. Reaches p j c) e w
              at_i (no m) = absurd (f (reached_stays c i n m w))

      back : ((i : ℕ) → i ≢ h → Reaches p i c → ⊥) → (i : ℕ) × (i ≢ h) × Reaches p i c → ⊥
      back g (i, m, w) = g i m w

  other-lists : (i : ℕ) (l : Lst) → i ≢ h → ListAt p.cells (holder p i) l → ListAt q.cells (holder q i) l
  other-lists i l m w =
      ListAt-kept q.free p.cells q.cells (occ q.holders) none_aside k (sound_held q t) l (holder q i) (t.holds i)
      (subst (λ u. ListAt p.cells u l) (sym (other-holder i m)) w)

pub erases : (p : Pool) (h : ℕ) → Sound p → let (q, n) = erase p h in Erases p h q n
unfolding erase
erases p h s =
    let r : ℕ → ℕ = occ (set p.holders h 0) in
    let z : Dropping = dropped p.free p.cells (holder p h) in
    let d : Dropped r p.cells z = drops r p.free p.cells (holder p h)
    (reroot p.free p.cells (occ p.holders) none_aside (λ c. same (holder p h) c + r c) none_aside (sound_held p s)
    (λ c n. occ-cleared p.holders h c n) (λ c. refl)) in
    let q : Pool = record { free = z.free; holders = set p.holders h 0; cells = z.cells } in
    let t : Sound q = held_sound q d.held in
    record {
      sound = t;
      holders = refl;
      others = other-lists p h q s t d.kept refl;
      kept = λ c l. (d.kept c l).0;
      frees = freed_by p h q s t d.kept refl;
      number = Number-map (λ c. Live p.cells c × (Live q.cells c → ⊥)) (λ c. Reaches p h c × ((i : ℕ) → i ≢ h → Reaches p i c → ⊥))
          (λ c m. (freed_by p h q s t d.kept refl c m).0) (λ c m. (freed_by p h q s t d.kept refl c m).1)
          (number_freed p.cells q.cells z.freed d.kept d.size d.number);
      size = d.size;
    }
