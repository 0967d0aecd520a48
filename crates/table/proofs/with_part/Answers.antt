-- `table::with_part` meets its contract.
use Rattle.table.specs.Pack.{with_part}
use Rattle.table.proofs.with_part.Goals as goal

pub returns-in-Kind : goal.returns-in-Kind
unfolding with_part
returns-in-Kind c = rw c.in-Kind.is

pub returns-in-Elem : goal.returns-in-Elem
unfolding with_part
returns-in-Elem c = rw c.in-Elem.is

pub returns-in-Count : goal.returns-in-Count
unfolding with_part
returns-in-Count c = rw c.in-Count.is

pub returns-in-Next : goal.returns-in-Next
unfolding with_part
returns-in-Next c = rw c.in-Next.is
