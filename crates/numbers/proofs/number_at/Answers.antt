-- `numbers::number_at` meets its contract.
use Rattle.std.proofs.Common.{rules, ◌≡◌, ◌∙◌, ◌<◌, ◌≤◌, length, get_or}
use Rattle.numbers.specs.Laws.RaisedLaws.{none_here, one-here}
use Rattle.numbers.proofs.number_at.Goals as goal

pub returns-in_err-group : goal.returns-in_err-group
returns-in_err-group c =
    let a = c.args in
    let out : length a.bytes.now ≤ a.at = search rules in
    c.from_residual.ensures ∙ none_here a.bytes.now a.at out

pub returns-then-group-lt128 : goal.returns-then-group-lt128
returns-then-group-lt128 c =
    let a = c.args in
    let group : get_or a.bytes.now a.at 0 ≡ c.in_ok-group.field-0.now = search rules in
    let inside : a.at < length a.bytes.now = search rules in
    rw (c.from.ensures, ← group) (one-here a.bytes.now a.at inside (search rules))
