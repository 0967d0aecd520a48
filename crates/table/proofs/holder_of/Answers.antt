-- `table::holder_of` meets its contract.
use Rattle.std.specs.Prelude.{ℕ, ◌+◌, get_or}
use Rattle.std.proofs.Common.{ap, ◌∙◌, arith}
use Rattle.table.specs.Laws.ViewLaws.{read-holder}
use Rattle.table.proofs.holder_of.Goals as goal

pub returns : goal.returns
returns c =
    let a = c.args in (
      ap (λ (x : ℕ). get_or a.t.now (x + a.h) 0) c.head.ensures.0 ∙ read-holder _ _ c.requires.table _ c.requires.h_bound,
      omega (arith, c.type_inv.t (c.head.result + a.h)),
    )
