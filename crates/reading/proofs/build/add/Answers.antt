-- `reading::build::add` meets its contract.
use mathlib.Core.List.{[]}
use native.Mathlib.Omega.{arith}
use Rattle.building.specs.Laws.StepLaws.{begun_in}
use Rattle.reading.specs.Laws.AddLaws.{list_comes, list_added, atom_comes, ends_come, atom_added, ends_alone, ends_added}
use Rattle.reading.proofs.build.add.Goals as goal

pub begin_list-j-requires : goal.begin_list-j-requires
begin_list-j-requires c =
    let pre = c.requires in
    record { table = pre.table; h_bound = pre.holder; comes = list_comes pre c.if-q-p.true }

pub overflow_cast-lists : goal.overflow_cast-lists
overflow_cast-lists c =
    let pre = c.requires in
    omega (arith, begun_in (list_comes pre c.if-q-p.true) c.begin_list-j.ensures, pre.table.few)

pub returns-then-q-p : goal.returns-then-q-p
returns-then-q-p c =
    list_added c.requires c.if-q-p.true c.cell.ensures c.begin_list-j.ensures

pub add_atom-j-requires : goal.add_atom-j-requires
add_atom-j-requires c =
    let pre = c.requires in
    record { table = pre.table; h_bound = pre.holder; comes = atom_comes pre c.if-q-p.false c.if-q-p-2.true }

pub shut-requires : goal.shut-requires
shut-requires c =
    let pre = c.requires in
    let atom = c.add_atom-j.ensures in
    record {
      table = (atom []).table;
      h_bound = pre.holder;
      from_le_levels = (pre.levelled, c.if-q-p.false);
      coming = ends_come pre c.if-q-p.false c.if-q-p-2.true atom;
    }

pub returns-then-q-p-2 : goal.returns-then-q-p-2
returns-then-q-p-2 c =
    atom_added c.requires c.if-q-p.false c.if-q-p-2.true c.add_atom-j.ensures c.shut.ensures

pub shut-requires-2 : goal.shut-requires-2
shut-requires-2 c =
    let pre = c.requires in
    record {
      table = pre.table;
      h_bound = pre.holder;
      from_le_levels = (pre.levelled, c.if-q-p.false);
      coming = ends_alone pre c.if-q-p.false c.if-q-p-2.false;
    }

pub returns : goal.returns
returns c =
    ends_added c.requires c.if-q-p.false c.if-q-p-2.false c.shut-2.ensures
