use mathlib.Core.List.{[]}
use native.Mathlib.Omega.{arith}
use Rattle.storing.specs.Laws.ElementLaws.{due-number, atom_small, atom_comes, atom-read, list_on, list_comes, inside_due, list_read}
use Rattle.storing.specs.Laws.ListLaws.{all_left, left_table, left-on, next_due, one_less, shut_comes, list_ended}
use Rattle.storing.proofs.+element_list.Goals as goal

pub element-number_there-n-requires : goal.element-number_there-n-requires
element-number_there-n-requires t c = due-number c.requires.due_element

pub element-overflow_cast-n : goal.element-overflow_cast-n
element-overflow_cast-n t c = omega (arith, atom_small c.number_there-n.ensures c.if-n-eq0.true c.requires.due_element)

pub element-add_atom-hook-requires : goal.element-add_atom-hook-requires
element-add_atom-hook-requires t c = record {
  table = c.requires.table;
  h_bound = c.requires.h_bound;
  comes = atom_comes c.number_there-n.ensures c.if-n-eq0.true c.requires.due_element;
}

pub element-returns-then-n-eq0 : goal.element-returns-then-n-eq0
element-returns-then-n-eq0 t c = atom-read c.number_there-n.ensures c.if-n-eq0.true c.add_atom-hook.ensures

pub element-begin_list-inside-requires : goal.element-begin_list-inside-requires
element-begin_list-inside-requires t c = record {
  table = c.requires.table;
  h_bound = c.requires.h_bound;
  comes = list_comes c.number_there-n.ensures c.if-n-eq0.false c.requires.due_element;
}

pub element-list-at-requires : goal.element-list-at-requires
element-list-at-requires t c =
    let due = c.requires.due_element in
    let on = list_on c.number_there-n.ensures c.if-n-eq0.false due in
    let inside = inside_due c.number_there-n.ensures c.if-n-eq0.false c.begin_list-inside.ensures due in
    (omega (arith, on.0, on.1, c.decreases), ((c.begin_list-inside.ensures []).table, (c.requires.h_bound, inside)))

pub element-returns : goal.element-returns
element-returns t c = list_read c.number_there-n.ensures c.if-n-eq0.false c.begin_list-inside.ensures c.cell.ensures c.list-at.ensures

pub list-loop-init : goal.list-loop-init
list-loop-init t c = all_left c.requires.table

pub list-element-spot-requires : goal.list-element-spot-requires
list-element-spot-requires t c =
    let due = c.requires.due in
    let inv = c.loop.invariant in
    let next = next_due inv (omega (arith, c.loop-test.true)) due in
    (omega (arith, left-on inv due, c.decreases), (left_table inv due, (c.requires.h_bound, next)))

pub list-loop-preserved : goal.list-loop-preserved
list-loop-preserved t c = one_less c.loop.invariant (omega (arith, c.loop-test.true)) c.element-spot.ensures

pub list-shut_list-requires : goal.list-shut_list-requires
list-shut_list-requires t c =
    let inv = c.loop.invariant in record {
      table = left_table inv c.requires.due;
      h_bound = c.requires.h_bound;
      comes = shut_comes inv (omega (arith, c.loop-test.false)) c.requires.due;
    }

pub list-returns : goal.list-returns
list-returns t c =
    let said = c.shut_list.ensures in
    list_ended c.loop.invariant (omega (arith, c.loop-test.false)) c.cell.ensures said.shuts_list said.value
