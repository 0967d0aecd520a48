-- `lines::order::name` meets its contract.
use Rattle.std.proofs.Common.{sym, ◌∙◌}
use Rattle.lines.specs.Commands.{name_or}
use Rattle.lines.specs.Laws.CommandLaws.{starts-pointwise}
use Rattle.lines.proofs.order.name.Goals as goal

pub returns-in_err-strip_prefix : goal.returns-in_err-strip_prefix
unfolding name_or
returns-in_err-strip_prefix c =
    let e = sym (starts-pointwise c.args.name.now c.args.line.now) ∙ c.in_err-strip_prefix.ensures.cases in
    rw (c.from_residual.ensures, e)

pub returns : goal.returns
unfolding name_or
returns c =
    let k = c.in_ok-strip_prefix.ensures.cases in
    let e = sym (starts-pointwise c.args.name.now c.args.line.now) ∙ k.0 in
    rw (e, k.1)
