-- A hook stands for its link.
use Rattle.std.specs.Prelude.{◌≡◌, ◌≢◌, List, ℕ, ◌≤◌, eqb, length}
use Rattle.std.proofs.Common.{ap, ◌∙◌, arith, eqb-true, ne_eqb}
use Rattle.cells.specs.Range.{NewCell}
use Rattle.pool.specs.Pool.{Cell, Pool}
use Rattle.pool.specs.Setters.{cell, new_cell}
use Rattle.table.specs.View.{view, Shows}
use Rattle.table.specs.Laws.ViewLaws.{said}
use Rattle.table.specs.declared.Shape.{Shape}
use Rattle.text.specs.Laws.TextLaws.{by_case}
use Rattle.building.specs.Build.{Link, in_next}
use Rattle.building.specs.Hooks.{link_of, hook_cell, InTable, Hung}
use Rattle.building.specs.Reading.{hang, LinkOff}
use Rattle.building.specs.declared.hook.Hook.{Hook}
use Rattle.building.specs.declared.hook.Hook.TheVariants.{Next, Elem}

pub is_next : (c : ℕ) → c ≢ 0 → link_of (Next c) ≡ in_next c
is_next c n = simp (ne_eqb c 0 n)

-- a hook off the free chain is in the table
pub hook_in_table : (s : Shape) (k : Hook) (cs : List Cell) (fs : List ℕ) → length cs ≡ s.cells → LinkOff cs fs (link_of k) → InTable s k
hook_in_table s (Next c) cs fs n o =
    by_case (eqb c 0) (λ (l : Link). LinkOff cs fs l → c ≤ s.cells) (λ e o. omega (arith, eqb-true c 0 e)) (λ e o. omega (arith, n, o.high)) o
hook_in_table s (Elem c) cs fs n o = record { low = o.low; high = omega (arith, n, o.high) }

-- and so is its cell
pub cell_in : (s : Shape) (k : Hook) → InTable s k → hook_cell k ≤ s.cells
cell_in s (Next c) i = i
cell_in s (Elem c) i = i.high

-- a new cell, where what it is named by is stored before
pub new_hung : {s : Shape} (ts : List ℕ) {us vs : List ℕ} (k : Hook) (h kind elem : ℕ) {c f : ℕ} → f ≡ (view s ts).free
    → Shows s us (hang (link_of k) h f (view s ts)) → NewCell s vs (view s us) (cell kind elem 1 0) c → Hung s h ts k kind elem vs c
new_hung {s} ts {us} {vs} k h kind elem {c} {f} e a n =
    let q : view s us ≡ hang (link_of k) h (view s ts).free (view s ts) = a.is ∙ ap (λ (g : ℕ). hang (link_of k) h g (view s ts)) e in
    let i : c ≡ (view s ts).free = n.0 ∙ ap (λ (p : Pool). p.free) q in
    record {
      cell = i;
      shows = said n.1
          (ap (λ (x : ℕ). new_cell x (cell kind elem 1 0) (view s us)) i ∙ ap (new_cell (view s ts).free (cell kind elem 1 0)) q);
    }
