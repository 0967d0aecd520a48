-- ERASE frees no more cells than there are.
use Rattle.std.specs.Prelude.{ℕ, ◌+◌, ◌*◌, ◌≤◌, ◌<◌, length}
use Rattle.std.proofs.Common.{arith}
use Rattle.erasing.specs.Laws.Ends.{holder_rooted}
use Rattle.pool.specs.Laws.DropRun.{drops}
use Rattle.pool.specs.Operations.{erase}
use Rattle.pool.specs.Pool.{Pool, holder, Sound}
use Rattle.pool.specs.Laws.Room.{lives_le}

pub freed_few : (p : Pool) (h : ℕ) → Sound p → h < length p.holders → (erase p h).1 ≤ length p.cells
unfolding erase
freed_few p h s l =
    let k = holder_rooted (length p.holders + 2 * length p.cells) p h s l (omega arith) in
    omega (arith, (drops k.rest p.free p.cells (holder p h) k.held).number, lives_le p.cells)
