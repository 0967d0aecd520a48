-- `grouping::walk::step` meets its contract.
use Rattle.std.proofs.Common.{ℕ, ◌+◌, refl, ap, arith}
use Rattle.groups.specs.Groups.{atom_number}
use Rattle.groups.specs.Laws.Sizes.{number_size}
use Rattle.grouping.specs.Steps.{list_number_at, shuts, passes, opens}
use Rattle.grouping.specs.Laws.StepLaws.{pass_told, open_told}
use Rattle.cells.specs.Views.{pool_of}
use Rattle.grouping.proofs.walk.step.Goals as goal

pub overflow_add-w : goal.overflow_add-w
overflow_add-w c = omega (arith, c.requires.short, c.of_atom.ensures, (number_size (atom_number c.in-Atom.v)).1)

pub overflow_add-w-in-List : goal.overflow_add-w-in-List
overflow_add-w-in-List c =
    let cs = (pool_of c.args.t).cells in
    omega (arith, c.requires.short, c.of_list.ensures, (number_size (list_number_at cs c.in-List.x)).1)

pub returns-in-End : goal.returns-in-End
returns-in-End c = (_, shuts c.in-End.ensures c.shut.ensures refl)

pub returns-in-Atom : goal.returns-in-Atom
returns-in-Atom c =
    let w = c.args.w in
    let e = c.in-Atom.ensures in
    (_, passes e.0 e.1 (pass_told _ w _ (atom_number c.in-Atom.v) _ (ap (λ (n : ℕ). w.size + n) c.of_atom.ensures) (ap atom_number e.2) c.pass.ensures) refl)

pub returns-in-List : goal.returns-in-List
returns-in-List c =
    let cs = (pool_of c.args.t).cells in
    let w = c.args.w in
    let e = c.in-List.ensures in
    let size = ap (λ (n : ℕ). w.size + n) c.of_list.ensures in
    (_, opens e.0 e.1 (open_told cs w _ (list_number_at cs c.in-List.x) _ size (ap (list_number_at cs) e.2) c.«open».ensures.0) c.«open».ensures.1)
