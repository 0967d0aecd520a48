-- `grouping::put::put_step` meets its contract.
use Rattle.std.proofs.Common.{ℕ, ◌+◌, ◌*◌, ◌≡◌, refl, ap, ◌∙◌}
use Rattle.groups.specs.Groups.{atom_number}
use Rattle.grouping.specs.Steps.{elements_at, atom_in, list_in, shuts, passes, opens}
use Rattle.grouping.specs.Laws.StepLaws.{pass_told, open_told, puts_none, puts_one}
use Rattle.cells.specs.Views.{pool_of}
use Rattle.grouping.proofs.put.put_step.Goals as goal

pub returns-in-End : goal.returns-in-End
returns-in-End c = let a = c.args in (_, shuts c.in-End.ensures c.shut.ensures refl, puts_none a.out.now a.w.size)

pub returns-in-Atom : goal.returns-in-Atom
returns-in-Atom c =
    let a = c.args in
    let cs = (pool_of a.t).cells in
    let e = c.in-Atom.ensures in
    let v = atom_number c.from.result in
    let is = ap atom_number (c.from.ensures ∙ e.2) in (
      _,
      passes e.0 e.1 (pass_told cs a.w c.pass.result v _ c.put-end.ensures.value is c.pass.ensures) refl,
      puts_one a.out.now _ a.w.size v (atom_in cs a.w.at) a.w.depth is c.put-end.ensures.out_after,
    )

pub returns-in-List : goal.returns-in-List
returns-in-List c =
    let a = c.args in
    let cs = (pool_of a.t).cells in
    let e = c.in-List.ensures in
    let v = 2 * c.length_at-n.result + 1 in
    let is : v ≡ list_in cs a.w.at = ap (λ (n : ℕ). 2 * n + 1) (c.length_at-n.ensures.0 ∙ ap (elements_at cs) e.2) in
    let put = c.put-end-in-List.ensures in (
      _,
      opens e.0 e.1 (open_told cs a.w c.«open».result v _ put.value is c.«open».ensures.0) c.«open».ensures.1,
      puts_one a.out.now _ a.w.size v (list_in cs a.w.at) a.w.depth is put.out_after,
    )
