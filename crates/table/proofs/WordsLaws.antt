-- Words and pools of one shape stand for each other: a table's words are those of the pool it shows.
use Rattle.std.specs.Prelude.{◌≡◌, refl, List, ℕ, length}
use Rattle.std.proofs.Common.{sym, ap, ◌∙◌}
use Rattle.pool.specs.Pool.{Pool}
use Rattle.table.specs.declared.Shape.{Shape}
use Rattle.table.specs.View.{holder_count, view, words, Table, Shows}
use Rattle.table.specs.Laws.FixedLaws.{view_fixes}
use Rattle.table.specs.Laws.SizesLaws.{Fits, fits_told, table_fits}
use Rattle.table.specs.Laws.WordsLaws.{rest, ws, words-length, telling-told, view-words, view_fits}
use Rattle.table.proofs.SizesLaws.{fits_table}

module _ (s : Shape) (p : Pool) (eh : length p.holders ≡ holder_count s) (ec : length p.cells ≡ s.cells) where
  pub words_table : {k : ℕ} → Fits s k → Table s (words s p)
  unfolding words
  words_table f =
      let g : Fits s (length (ws s p eh ec)) = record { some = f.some; few = f.few; held = f.held; long = words-length s p eh ec } in
      fits_table s (ws s p eh ec) g refl (telling-told s.form s.holders s.cells p.free (rest s p eh ec) f.held)

-- a table has the words of the pool that it shows
pub words-view : (s : Shape) (ws : List ℕ) → Table s ws → words s (view s ws) ≡ ws
words-view s ws t =
    let f = fits_told s (length ws) (table_fits s ws t) in
    view_fixes s (words s (view s ws)) ws (words_table s (view s ws) t.held t.measured f) t (view-words s (view s ws) t.held t.measured (view_fits s ws))

-- so what a table shows fixes every word
pub shown-words : {s : Shape} {ws : List ℕ} {p : Pool} → Shows s ws p → ws ≡ words s p
shown-words {s} {ws} h = sym (words-view s ws h.table) ∙ ap (words s) h.is
