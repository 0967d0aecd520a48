-- `erasing::pop_waiting` meets its contract.
use Rattle.erasing.specs.Laws.StepLaws.{pop-one}
use Rattle.erasing.proofs.pop_waiting.Goals as goal

pub returns : goal.returns
returns c =
    pop-one _ _ _ _ c.requires.here_value.0 c.requires.here_value.1 c.elem_of-item.ensures c.next_of-next.ensures.0 c.release.ensures
