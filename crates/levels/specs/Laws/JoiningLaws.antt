-- CONC by the tests that the code makes, and that the last cell of a main level is a cell.
use Rattle.std.specs.Prelude.{◌≡◌, ◌≢◌, length}
use Rattle.std.proofs.Math.Path.{refl}
use Rattle.std.proofs.Common.{sym, ap, ◌∙◌, arith}
use mathlib.Core.List.{List}
use Prim.Native.Nat.{ℕ, zero, suc}
use Rattle.std.proofs.Math.ListN.{set}
use Rattle.std.proofs.Math.Seq.{set-get_or}
use Rattle.levels.specs.Joining.{last_cell}
use Rattle.pool.specs.Laws.Edit.{live_cell}
use Rattle.pool.specs.Laws.LastCell.{Last_live, last_is}
use Rattle.pool.specs.Operations.{last_of, conc_at, conc}
use Rattle.pool.specs.Pool.{Pool, holder, InPool, Sound}
use Rattle.pool.specs.Laws.Reach.{len_le}
use Rattle.pool.specs.Laws.SoundLaws.{none_aside, sound_held, denoted}
use Rattle.pool.specs.Tally.{occ}
use Rattle.pool.specs.Setters.{put_next, put_holder}
use Rattle.table.specs.Laws.ViewLaws.{pool-path}

module _ (p : Pool) (a b : ℕ) where
  pub join_none : holder p b ≡ 0 → p ≡ conc p a b
  unfolding conc conc_at
  join_none e = go (holder p b) e
    where
      go : (y : ℕ) → y ≡ 0 → p ≡ conc_at p a b (holder p a) y
      go zero q = refl
      go (suc j) q = absurd (omega arith)

  pub join_null : holder p a ≡ 0 → holder p b ≢ 0 → put_holder b 0 (put_holder a (holder p b) p) ≡ conc p a b
  unfolding conc conc_at
  join_null e n = go (holder p a) (holder p b) e n
    where
      go : (x y : ℕ) → x ≡ 0 → y ≢ 0 → put_holder b 0 (put_holder a y p) ≡ conc_at p a b x y
      go x zero q m = absurd (m refl)
      go zero (suc j) q m = refl
      go (suc i) (suc j) q m = absurd (omega arith)

  pub join_last : holder p a ≢ 0 → holder p b ≢ 0 → put_holder b 0 (put_next (last_cell p a) (holder p b) p) ≡ conc p a b
  unfolding conc conc_at
  join_last n m = go (holder p a) (holder p b) refl n m
    where
      go : (x y : ℕ) → holder p a ≡ x → x ≢ 0 → y ≢ 0 → put_holder b 0 (put_next (last_of (length p.cells) p.cells x) y p) ≡ conc_at p a b x y
      go x zero e q r = absurd (r refl)
      go zero (suc j) e q r = absurd (q refl)
      go (suc i) (suc j) e q r = pool-path refl (ap (λ (hs : List ℕ). set hs b 0) (sym (ap (set p.holders a) (sym e) ∙ set-get_or p.holders a 0))) refl

pub last-cell : (p : Pool) (a : ℕ) → Sound p → holder p a ≢ 0 → InPool p.cells (last_cell p a)
last-cell p a s n =
    let (l, w) = denoted p s a in
    let z : ℕ = last_cell p a in
    let short = len_le p.free p.cells (occ p.holders) none_aside (sound_held p s) l (holder p a) w in
    live_cell p.cells z (Last_live p.cells l (holder p a) z w (last_is l (length p.cells) p.cells (holder p a) w n (omega (arith, short))))
