-- `erasing::erase` meets its contract.
use Rattle.std.proofs.Common.{ap, arith}
use Rattle.pool.specs.Pool.{Pool}
use Rattle.cells.specs.Lent.{on}
use Rattle.erasing.specs.Laws.Ends.{holder_rooted, is_erase}
use Rattle.erasing.proofs.erase.Goals as goal

pub drop_root-n-requires : goal.drop_root-n-requires
drop_root-n-requires c =
    rw c.holder_of-x.ensures.0 (holder_rooted _ _ _ c.requires.sound (omega arith) (omega arith))

pub returns : goal.returns
returns c =
    let v = c.args.p.now in
    let d = c.drop_root-n.ensures in
    rw (c.set_holder.ensures, d.0, d.1, c.holder_of-x.ensures.0)
    ((is_erase v.pool c.args.a).1, ap (λ (q : Pool). on (λ _. q) v) (is_erase v.pool c.args.a).0)
