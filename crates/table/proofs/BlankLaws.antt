-- Words of 0 that tell a shape are a table of it, and show a pool of zeros.
use Rattle.std.specs.Prelude.{◌≡◌, List, ℕ, length, replicate}
use Rattle.std.proofs.Common.{sym, ap, ◌∙◌, subst, arith}
use Rattle.std.proofs.lemmas.List.{length-replicate}
use Rattle.table.specs.declared.Shape.{Shape}
use Rattle.table.specs.View.{Table, Shows}
use Rattle.table.specs.Sizes.{cleared}
use Rattle.table.specs.Blank.{headed, blank_pool}
use Rattle.table.specs.Laws.SizesLaws.{Fits}
use Rattle.table.specs.Laws.BlankLaws.{headed-length, tells_cells, tells_holders, us, headed-view, cleared-all}
use Rattle.table.proofs.SizesLaws.{fits_table, some_words}

module _ (s : Shape) (k : ℕ) (f : Fits s k) where
  headed_table : Table s (us s k f)
  headed_table =
      let l : length (us s k f) ≡ k = headed-length s.form s.holders s.cells (replicate k 0) ∙ length-replicate k 0 in
      let w = some_words s k f in
      fits_table s (us s k f) (record { some = f.some; few = f.few; held = f.held; long = l ∙ f.long })
      (tells_cells s.holders s.cells k s.form (omega arith))
      (tells_holders s.holders s.cells k s.form w f.held)

pub lays_out : (s : Shape) (ts : List ℕ) {us vs : List ℕ} → Fits s (length ts) → us ≡ cleared (length ts) ts → vs ≡ headed s.form s.holders s.cells us
    → Shows s vs (blank_pool s.cells s.holders)
lays_out s ts {us} {vs} f e q =
    let z : vs ≡ headed s.form s.holders s.cells (replicate (length ts) 0) = q ∙ ap (headed s.form s.holders s.cells) (e ∙ cleared-all ts) in
    subst (λ (u : List ℕ). Shows s u (blank_pool s.cells s.holders)) (sym z) (record { table = headed_table s (length ts) f; is = headed-view s (length ts) f })
