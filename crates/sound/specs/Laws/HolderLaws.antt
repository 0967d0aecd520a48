-- The loop that meets the arrows of the holders: its invariant, and each turn.
use Rattle.std.specs.Prelude.{◌≡◌, refl, List, ℕ, suc, ◌+◌, ◌≤◌, ◌<◌, length, get_or, drop}
use Rattle.std.proofs.Math.Path.{subst}
use Rattle.std.proofs.Common.{add-one, arith}
use Rattle.pool.specs.Tally.{occ}
use Rattle.pool.specs.Pool.{Pool}
use Rattle.pool.specs.Check.{meet, named, unmet, after_holders}
use Rattle.pool.specs.Laws.CheckInv.{named-inv}
use Rattle.sound.specs.declared.Peel.{Peel}
use Rattle.sound.specs.Mirror.{below, on_top, Counted, Mirrors, Shown, Room, ArrowMet, Stows}
use Rattle.sound.specs.Laws.MirrorLaws.{within_self, within_then}
use Rattle.sound.specs.Laws.RoomLaws.{room}

pub record Meeting (p : Pool) (n : ℕ) (ws us : List ℕ) (e : Peel) (h : ℕ) : Type 0 where
  pub shown : Shown n ws us e (named h p.holders (unmet p.cells))
  pub none : e.at ≡ 0
  pub low : h ≤ length p.holders

pub holders_start : (p : Pool) (n : ℕ) (ws : List ℕ) (e : Peel) → e ≡ record { ok = 1; at = 0; top = 0; gone = 0 } → length p.cells ≡ n
    → Counted n ws p.cells → Meeting p n ws ws e 0
unfolding named below on_top
holders_start p n ws e q len k = rw q (record {
  shown = record { within = within_self n ws; shows = record { ok = refl; gone = refl; stack = refl; size = len; counts = k } };
  none = refl;
  low = omega arith;
})

module _ (p : Pool) (n : ℕ) (ws us : List ℕ) (e : Peel) (h : ℕ) (len : length p.cells ≡ n) (few : n < 65536) (long : n + n ≤ length ws)
    (g : Meeting p n ws us e h) (l : h < length p.holders)
    (x : ℕ) (vs : List ℕ) (f : Peel) (xe : x ≡ get_or p.holders h 0) (d : ArrowMet n x us e vs f) where
  met : Mirrors n vs f (named (suc h) p.holders (unmet p.cells))
  unfolding named
  met = subst (λ u. Mirrors n vs f (meet u (named h p.holders (unmet p.cells)))) xe (d.shows (named h p.holders (unmet p.cells)) g.shown.shows)

  pub holders_room : Room n vs f
  holders_room =
      room p.cells (occ p.holders) (occ (drop (suc h) p.holders)) (named (suc h) p.holders (unmet p.cells)) n vs f
      (named-inv (suc h) p.cells p.holders l) met len few
      (omega (arith, d.within.size, g.shown.within.size))

  pub holders_step : (zs : List ℕ) (r : Peel) → Stows n vs f zs r → Meeting p n ws zs r (h + 1)
  holders_step zs r b = rw (add-one h) (record {
    shown = record {
      within = within_then g.shown.within (within_then d.within b.within);
      shows = b.shows (named (suc h) p.holders (unmet p.cells)) met;
    };
    none = b.none;
    low = l;
  })

pub holders_end : (p : Pool) (n : ℕ) (ws us : List ℕ) (e : Peel) (h : ℕ) → Meeting p n ws us e h → length p.holders ≤ h → Shown n ws us e (after_holders p)
holders_end p n ws us e h g l =
    let q : h ≡ length p.holders = omega (arith, g.low) in
    subst (λ u. Shown n ws us e (named u p.holders (unmet p.cells))) q g.shown
