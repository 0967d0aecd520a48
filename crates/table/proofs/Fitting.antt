-- The words of a sound pool show it.
use Rattle.std.specs.Prelude.{◌≡◌, List, ℕ, length}
use Rattle.std.proofs.Common.{◌∙◌, arith}
use Rattle.pool.specs.Pool.{Pool, Sound}
use Rattle.table.specs.declared.Shape.{Shape}
use Rattle.table.specs.Limits.{packs}
use Rattle.table.specs.View.{view, words, Table, Shows}
use Rattle.table.specs.Laws.SizesLaws.{Fits, fits_told, holds, table_fits}
use Rattle.table.specs.Laws.WordsLaws.{view-words}
use Rattle.table.specs.Laws.Fitting.{sound_fits}
use Rattle.table.proofs.ViewLaws.{numbers}
use Rattle.table.proofs.WordsLaws.{words_table}

-- the words of a sound pool show it
pub sound_shows : {k : ℕ} (s : Shape) (p : Pool) → Fits s k → length p.holders ≡ s.holders → length p.cells ≡ s.cells → Sound p → Shows s (words s p) p
sound_shows s p f eh ec h =
    let n = (numbers s.form s.cells f.few).few in
    let w = (holds s.form s.holders f.held).wide in
    record {
      table = words_table s p eh ec f;
      is = view-words s p eh ec (λ i l. sound_fits (packs s.form) p h (omega (arith, ec, n)) (omega (arith, eh, w)) i);
    }

-- also where they take the place of a table that shows as many cells and holders
pub stored-shows : (s : Shape) (ws : List ℕ) (p : Pool) → Table s ws → length p.holders ≡ length (view s ws).holders → length p.cells ≡ length (view s ws).cells → Sound p → Shows s (words s p) p
stored-shows s ws p t eh ec h = sound_shows s p (fits_told s (length ws) (table_fits s ws t)) (eh ∙ t.held) (ec ∙ t.measured) h
