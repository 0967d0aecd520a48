-- `ungrouping::size_fault` meets its contract: it tests as the definition does.
use Rattle.std.proofs.Common.{sym, arith, rules}
use Rattle.groups.specs.Laws.SizeLaws.{too_long, empty, no_fault}
use Rattle.ungrouping.proofs.size_fault.Goals as goal

pub returns-then-bytes-gt-TEXT : goal.returns-then-bytes-gt-TEXT
returns-then-bytes-gt-TEXT c = sym (too_long _ c.if-bytes-gt-TEXT.true)

pub returns-then-is_empty : goal.returns-then-is_empty
returns-then-is_empty c = sym (empty _ (search rules))

pub returns : goal.returns
returns c = sym (no_fault _ (search rules) c.if-bytes-gt-TEXT.false)
