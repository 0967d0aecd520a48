-- Erasing on its way: one step more, and what the step to come may ask.
use Rattle.std.specs.Prelude.{◌≡◌, false, ℕ}
use Rattle.std.proofs.Common.{arith}
use Rattle.loops.specs.Loop.{Ends}
use Rattle.loops.specs.Laws.LoopLaws.{begin, before, again, less}
use Rattle.pool.specs.Erase.{Dropping, stepped}
use Rattle.erasing.specs.Erasing.{halted, Fine, Later}

pub one_more : {w v u : Dropping} → Later w v → halted v ≡ false → u ≡ stepped v → Later w u
one_more l h e = record {
  on = λ m k w₀ g. again halted stepped k (l.on m k w₀ g) h e;
  fewer = λ m k w₀ g. omega (arith, less halted stepped k (l.on m k w₀ g) h e, l.fewer m k w₀ g);
}

pub fine_there : {m : ℕ} {w v : Dropping} (k : ℕ) → Ends halted stepped (Fine m) k w → Later w v → halted v ≡ false → Fine m v
fine_there {m} {w} k e l h = before halted stepped k (l.on m k w (begin halted stepped e)) h
