-- `erasing::drop_arrow` meets its contract.
use Rattle.std.proofs.Common.{refl}
use Rattle.erasing.specs.Laws.StepLaws.{drop-shared, drop-atom, drop_list}
use Rattle.erasing.proofs.drop_arrow.Goals as goal

pub returns-then-n-ne0 : goal.returns-then-n-ne0
returns-then-n-ne0 c =
    drop-shared _ _ c.requires.le_here _ _ _ c.count_of-n.ensures.0 c.next_of-next.ensures.0 c.kind_of-kind.ensures c.if-n-ne0.true
    c.set_count.ensures

pub returns-then-kind-eq0 : goal.returns-then-kind-eq0
returns-then-kind-eq0 c =
    drop-atom _ _ c.requires.le_here _ _ _ c.count_of-n.ensures.0 c.next_of-next.ensures.0 c.kind_of-kind.ensures c.if-n-ne0.false
    c.if-kind-eq0.true (rw (c.release.ensures, c.set_count.ensures) refl)

pub returns : goal.returns
returns c =
    drop_list _ _ c.requires.le_here _ _ _ c.count_of-n.ensures.0 c.next_of-next.ensures.0 c.kind_of-kind.ensures c.if-n-ne0.false
    c.if-kind-eq0.false (rw (c.set_next.ensures, c.set_count.ensures) refl)
