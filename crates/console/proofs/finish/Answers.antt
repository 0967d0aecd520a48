-- `console::finish` meets its contract.
use Rattle.std.proofs.Common.{◌≡◌, ◌≢◌, length, rules}
use Rattle.console.proofs.Ends.{closes_none, closes_line}
use Rattle.console.proofs.finish.Goals as goal

pub returns-then-is_empty : goal.returns-then-is_empty
returns-then-is_empty c =
    let e : length c.args.line.now.kept ≡ 0 = search rules in
    closes_none c.args.line.now c.args.engine.now _ e

pub returns : goal.returns
returns c =
    let n : length c.args.line.now.kept ≢ 0 = search rules in
    closes_line c.args.line.now c.args.engine.now _ _ _ _ n c.bytes.ensures.line c.answer.ensures
