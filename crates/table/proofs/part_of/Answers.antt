-- `table::part_of` meets its contract.
use Rattle.table.specs.Pack.{part}
use Rattle.table.proofs.part_of.Goals as goal

pub returns-in-Kind : goal.returns-in-Kind
unfolding part
returns-in-Kind c = rw c.in-Kind.is

pub returns-in-Elem : goal.returns-in-Elem
unfolding part
returns-in-Elem c = rw c.in-Elem.is

pub returns-in-Count : goal.returns-in-Count
unfolding part
returns-in-Count c = rw c.in-Count.is

pub returns-in-Next : goal.returns-in-Next
unfolding part
returns-in-Next c = rw c.in-Next.is
