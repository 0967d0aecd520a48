-- Words that are no table have no free cell, and the cells of a table are those of its view.
use Rattle.std.specs.Prelude.{◌≡◌, refl, Bool, true, false, cond, List, ℕ, eqb, length}
use Rattle.std.proofs.Common.{sym, ap, ◌∙◌, arith}
use mir.Val.{bool_byte}
use Rattle.pool.specs.Pool.{frees}
use Rattle.pool.specs.Tally.{same}
use Rattle.pool.specs.Laws.Room.{frees-lives}
use Rattle.table.specs.Sizes.{shape_of}
use Rattle.table.specs.View.{view}
use Rattle.table.specs.Laws.ViewLaws.{view_cells}
use Rattle.answering.specs.Session.{free_cells}
use Rattle.table.specs.declared.Form.TheVariants.{Four}
use Rattle.table.specs.declared.Shape.{Shape}

pub none_free : (ts : List ℕ) (s : Shape) → s ≡ shape_of Four ts → s.cells ≡ 0 → 0 ≡ free_cells ts
unfolding free_cells
none_free ts s e z =
    let q : length (view s ts).cells ≡ 0 = view_cells s ts ∙ z in
    let r : frees (view s ts).cells ≡ 0 = omega (arith, frees-lives (view s ts).cells) in
    sym r ∙ ap (λ (x : Shape). frees (view x ts).cells) e

pub some_free : (ts : List ℕ) (s : Shape) → s ≡ shape_of Four ts → frees (view s ts).cells ≡ free_cells ts
unfolding free_cells
some_free ts s e = ap (λ (x : Shape). frees (view x ts).cells) e

-- a test's number is what a free cell counts
pub one_if_free : (r n : ℕ) → n ≡ bool_byte (eqb r 0) → n ≡ same r 0
unfolding same
one_if_free r n e = e ∙ go (eqb r 0)
  where
    go : (b : Bool) → bool_byte b ≡ cond b 1 0
    go true = refl
    go false = refl
