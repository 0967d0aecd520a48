-- `building::hook::hang_new` meets its contract.
use mathlib.Core.Path.{ap, sym, ◌∙◌, subst}
use Prim.Native.Nat.{ℕ}
use native.Mathlib.Omega.{arith}
use Rattle.cells.specs.Range.{Spare}
use Rattle.table.specs.View.{view}
use Rattle.building.specs.Hooks.{link_of}
use Rattle.building.specs.Reading.{hang}
use Rattle.building.specs.Laws.HookLaws.{new_hung}
use Rattle.building.proofs.hook.hang_new.Goals as goal

pub new_cell-requires : goal.new_cell-requires
new_cell-requires c =
    let a = c.args in
    let hung = c.hang.ensures in
    let shown = hung.is ∙ ap (λ (f : ℕ). hang (link_of a.k) a.h f (view a.s a.t.now)) c.free_head-f.ensures.0 in
    record {
      table = hung.table;
      spare = subst (Spare a.s) (sym shown) c.requires.hangs.spare;
      kind_bound = (c.requires.kind_bound, omega arith);
    }

pub returns : goal.returns
returns c =
    let a = c.args in
    new_hung a.t.now a.k a.h a.kind a.elem c.free_head-f.ensures.0 c.hang.ensures c.new_cell.ensures
