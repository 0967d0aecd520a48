-- `sound::meet_element` meets its contract.
use Rattle.std.proofs.Common.{arith}
use Rattle.sound.specs.Laws.TakeLaws.{typed_yes, typed_no, hand_few, no_element, element-room, some_element, hand_cell}
use Rattle.sound.proofs.meet_element.Goals as goal

pub overflow_add-d : goal.overflow_add-d
overflow_add-d c = omega (arith, hand_few _ _ _ _ c.requires)

pub kind_of-k-requires : goal.kind_of-k-requires
kind_of-k-requires c = hand_cell _ _ _ _ c.requires

pub returns-then-k-eq0 : goal.returns-then-k-eq0
returns-then-k-eq0 c =
    let a = c.args in
    no_element _ _ _ _ c.requires c.kind_of-k.result a.e.ok c.kind_of-k.ensures
    (typed_yes c.kind_of-k.result a.e.ok (omega arith)) (omega arith)

pub returns-then-k-gt1 : goal.returns-then-k-gt1
returns-then-k-gt1 c =
    no_element _ _ _ _ c.requires c.kind_of-k.result 0 c.kind_of-k.ensures
    (typed_no c.kind_of-k.result c.args.e.ok (omega arith)) (omega arith)

pub stow-requires : goal.stow-requires
stow-requires c =
    let a = c.args in
    element-room _ _ _ _ c.requires _ a.e.ok c.kind_of-k.ensures (typed_yes c.kind_of-k.result a.e.ok (omega arith))
    c.elem_of-y.result _ c.follow-f.result (omega arith) c.elem_of-y.ensures
    c.follow-f.ensures

pub returns : goal.returns
returns c =
    some_element _ _ _ _ c.requires _ _ c.kind_of-k.ensures (typed_yes c.kind_of-k.result c.args.e.ok (omega arith))
    c.elem_of-y.result _ c.follow-f.result (omega arith) c.elem_of-y.ensures
    c.follow-f.ensures _ c.stow.result c.stow.ensures
