-- `reading::stored::size_fault` meets its contract in each form.
use mathlib.Core.Path.{sym, ap, ◌∙◌}
use Rattle.groups.specs.Stored.{size_fault}
use Rattle.reading.proofs.stored.size_fault.Goals as goal

pub returns-in-Text : goal.returns-in-Text
returns-in-Text c =
    c.size_fault.ensures ∙ sym (ap (λ x. size_fault x c.args.bytes.now) c.in-Text.is)

pub returns-in-Groups : goal.returns-in-Groups
returns-in-Groups c =
    c.size_fault-in-Groups.ensures ∙ sym (ap (λ x. size_fault x c.args.bytes.now) c.in-Groups.is)
