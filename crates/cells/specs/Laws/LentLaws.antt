-- A lent pool that is sound: cell numbers are in range. And what two functions leave, one after the other.
use Rattle.std.specs.Prelude.{◌≡◌, ◌≢◌, ℕ, ◌≤◌, ◌<◌}
use Rattle.std.proofs.Common.{ap, ◌∙◌, arith}
use Rattle.pool.specs.Laws.Advance.{null_or_item, holder_live}
use Rattle.pool.specs.Laws.Bound.{count_less}
use Rattle.pool.specs.Laws.Edit.{live_cell}
use Rattle.pool.specs.Laws.SoundLaws.{sound_held}
use Rattle.pool.specs.Operations as operations
use Rattle.pool.specs.Pool.{Pool, kind_of, count_of, holder, Live, Sound}
use Rattle.pool.specs.Setters.{put_free, celled}
use Rattle.table.specs.Laws.Fitting.{next_bound}
use Rattle.table.specs.View.{holder_count, greatest_count}
use Rattle.cells.specs.Lent.{Lent, on, Sized, Kept}
use Rattle.cells.specs.Range.{Spare}
use Rattle.cells.specs.Laws.RangeLaws.{null_or_high, ranged, Head}

module _ (v : Lent) (z : Sized v) (o : Sound v.pool) where
  pub spare : v.pool.free ≢ 0 → Spare v.shape v.pool
  spare n = record {
    cell = record { low = omega arith; high = omega (arith, (ranged v.pool o).free_top, z.measured) };
    next = omega (arith, next_bound v.pool o v.pool.free, z.measured);
  }

  pub free_high : v.pool.free ≤ v.shape.cells
  free_high = omega (arith, (ranged v.pool o).free_top, z.measured)

  pub holder_high : (h : ℕ) → holder v.pool h ≤ v.shape.cells
  holder_high h = omega (arith, (ranged v.pool o).holders_top h, z.measured)

  -- one more arrow fits where a holder is null
  pub count_high : (b c : ℕ) → b < holder_count v.shape → holder v.pool b ≡ 0 → c ≢ 0 → count_of v.pool.cells c < greatest_count v.shape
  count_high b c l e n = omega (arith, count_less v.pool o b c (omega (arith, z.held)) e n, z.measured, z.held)

  pub live_head : (x : ℕ) → Live v.pool.cells x → Head v.shape v.pool.cells x
  live_head x l =
      let cs = v.pool.cells in
      let kind : kind_of cs x ≤ 1 = (sound_held v.pool o).kinds x l in
      record {
        cell = record { low = (live_cell cs x l).0; high = omega (arith, (live_cell cs x l).1, z.measured) };
        next = omega (arith, next_bound v.pool o x, z.measured);
        item = omega (arith, null_or_high cs (operations.item cs x) (null_or_item cs x kind (o.elems x l)), z.measured);
        kind = kind;
      }

  pub holder-head : (h : ℕ) → holder v.pool h ≢ 0 → Head v.shape v.pool.cells (holder v.pool h)
  holder-head h n = live_head (holder v.pool h) (holder_live v.pool h o n)

pub kept_on : {v u w : Lent} → Kept v u → Kept u w → Kept v w
kept_on {w = w} g h = record { same = h.same ∙ ap (on (λ (p : Pool). put_free w.pool.free (celled w.pool.cells p))) g.same }
