-- Words of the right size that tell a shape are a table of it.
use Rattle.std.specs.Prelude.{◌≡◌, refl, ◌≢◌, Bool, true, false, cond, List, ℕ, ◌<◌, length}
use Rattle.std.proofs.Common.{arith}
use Rattle.table.specs.declared.Form.{Form}
use Rattle.table.specs.declared.Shape.{Shape}
use Rattle.table.specs.Limits.{cells_told, holders_told}
use Rattle.table.specs.View.{shape, Table}
use Rattle.table.specs.Sizes.{sizes_fit, cells_of, shape_of}
use Rattle.table.specs.Laws.SizesLaws.{Fits, fits_told, holds}
use Rattle.table.proofs.ViewLaws.{numbers, is_table}

-- words of that size that tell the shape are a table of it
pub fits_table : (s : Shape) (ts : List ℕ) → Fits s (length ts) → cells_told ts ≡ s.cells → holders_told s.form ts ≡ s.holders → Table s ts
fits_table s ts f a b =
    let w = holds s.form s.holders f.held in
    is_table s ts f.some f.few w.some w.wide f.long a b

-- a table has more than two words
pub some_words : (s : Shape) (k : ℕ) → Fits s k → 2 < k
some_words s k f = omega (arith, f.long, (numbers s.form s.cells f.few).low, (holds s.form s.holders f.held).some)

-- words that tell a number of cells are a table of that shape
pub cells_table : (f : Form) (ts : List ℕ) → cells_of f ts ≢ 0 → Table (shape_of f ts) ts
unfolding cells_of
cells_table f ts n = go (sizes_fit told (length ts)) refl n
  where
    told : Shape
    told = shape f (holders_told f ts) (cells_told ts)

    go : (b : Bool) → sizes_fit told (length ts) ≡ b → cond b (cells_told ts) 0 ≢ 0 → Table (shape f (holders_told f ts) (cond b (cells_told ts) 0)) ts
    go true e m = fits_table told ts (fits_told told (length ts) e) refl refl
    go false e m = absurd (m refl)
