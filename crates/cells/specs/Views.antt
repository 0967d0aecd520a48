-- What a pool that is only read is to a contract.
use Rattle.pool.specs.Pool.{Pool}
use Rattle.table.specs.View.{view}
use Rattle.cells.specs.declared.seen.Seen.{Seen}

-- the pool that its words show
abbrev pub pool_of : Seen → Pool
pool_of t = view t.shape t.words.now
