-- Setting up leaves document 01's new pool: its words show a fresh pool, whose cells are laid in order.
use Rattle.std.specs.Prelude.{◌≡◌, refl, ℕ, zero, suc, ◌+◌, ◌≤◌, ◌<◌, length}
use Rattle.std.proofs.Common.{sym, ap, ◌∙◌, subst, arith}
use Rattle.answers.specs.Answers.{DONE}
use Rattle.pool.specs.Pool.{Cell, at, kind_of, elem_of, count_of, next_of}
use Rattle.pool.specs.Operations.{fresh}
use Rattle.pool.specs.Laws.Fresh.{fresh_holders, fresh_cells, fresh-null}
use Rattle.pool.specs.Setters.{cell}
use Rattle.table.specs.Laws.SizesLaws.{fits_told}
use Rattle.table.specs.View.{shape}
use Rattle.calls.specs.SetUp.{Given}
use Rattle.setup.specs.Laws.Linked.{following, following-on, following-off, laid-at}
use Rattle.setup.specs.Laws.SetUpLaws.{set_up_ways, new_shows}
use Rattle.promises.specs.Engine.{ours}
use Rattle.promises.specs.Demand2.{NewPool, NewTable, SetUpGives}
use Rattle.promises.specs.Laws.Tables.{shape-shown}
use Rattle.table.specs.declared.Form.{Form}

module _ (n h : ℕ) where
  -- cell i + 1
  cell_at : (i : ℕ) → i < n → at (fresh n h).cells (suc i) ≡ cell 0 0 0 (following n i)
  unfolding fresh
  cell_at i l = laid-at n i l

  next-at : (i : ℕ) → 1 ≤ i → i < n → next_of (fresh n h).cells i ≡ i + 1
  next-at zero a b = absurd (omega arith)
  next-at (suc i) a b = ap (λ (x : Cell). x.next) (cell_at i (omega arith)) ∙ following-on n i b ∙ omega arith

  last-at : (i : ℕ) → suc i ≡ n → next_of (fresh n h).cells (suc i) ≡ 0
  last-at i e = ap (λ (x : Cell). x.next) (cell_at i (omega arith)) ∙ following-off n i (omega arith)

  empty_at : (i : ℕ) → 1 ≤ i → i ≤ n → let cs = (fresh n h).cells in (kind_of cs i ≡ 0) × (elem_of cs i ≡ 0) × (count_of cs i ≡ 0)
  empty_at zero a b = absurd (omega arith)
  empty_at (suc i) a b = let e = cell_at i b in (ap (λ (x : Cell). x.kind) e, ap (λ (x : Cell). x.elem) e, ap (λ (x : Cell). x.count) e)

fresh_new : (n h : ℕ) → 1 ≤ n → NewPool n h (fresh n h)
unfolding fresh
fresh_new zero h l = absurd (omega arith)
fresh_new (suc m) h l = record {
  cells = fresh_cells (suc m) h;
  holders = fresh_holders (suc m) h;
  free = refl;
  next = next-at (suc m) h;
  last = last-at (suc m) h m refl;
  null = λ k b. fresh-null (suc m) h k;
  empty = empty_at (suc m) h;
}

pub set_up_gives : (form : Form) → SetUpGives form (ours form)
set_up_gives form ts n h = set_up_ways form ts n h (λ (g : Given). g.answer ≡ DONE → (length g.table ≡ length ts) × NewTable form n h g.table)
    (λ e _.
    let f = fits_told (shape form h n) (length ts) e in
    let w = new_shows (shape form h n) f in
    let q = (shape-shown form (shape form h n) _ refl w.table).1 ∙ w.is in
    (w.table.sized ∙ sym f.long, record { cells = w.table.told; holders = w.table.heads; pool = subst (NewPool n h) (sym q) (fresh_new n h f.some) }))
    (λ e z. absurd (omega arith))
