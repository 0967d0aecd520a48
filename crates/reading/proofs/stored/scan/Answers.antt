-- `reading::stored::scan` meets its contract in each form.
use mathlib.Core.Path.{◌≡◌, sym, subst}
use Rattle.answers.specs.Answers.{DONE}
use Rattle.groups.specs.Stored.{size_fault, scanned, list_in}
use Rattle.lists.specs.Lst.{extent}
use Rattle.scan.specs.Outcomes.{Says}
use Rattle.text.specs.Laws.SizeLaws.{its_size}
use Rattle.reading.proofs.stored.scan.Goals as goal

pub scan-requires : goal.scan-requires
scan-requires c =
    its_size _ (subst (λ x. size_fault x c.args.bytes.now ≡ DONE) c.in-Text.is c.requires)

pub scan-requires-in-Groups : goal.scan-requires-in-Groups
scan-requires-in-Groups c =
    subst (λ x. size_fault x c.args.bytes.now ≡ DONE) c.in-Groups.is c.requires

pub returns-in-Text : goal.returns-in-Text
returns-in-Text c =
    let s = c.args.bytes.now in
    subst (λ x. Says (scanned x s) (extent (list_in x s)) c.scan.result) (sym c.in-Text.is) c.scan.ensures

pub returns-in-Groups : goal.returns-in-Groups
returns-in-Groups c =
    let s = c.args.bytes.now in
    subst (λ x. Says (scanned x s) (extent (list_in x s)) c.scan-in-Groups.result) (sym c.in-Groups.is) c.scan-in-Groups.ensures
