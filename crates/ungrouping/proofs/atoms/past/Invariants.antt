-- `ungrouping::atoms::past` meets its contract. The invariant: atoms of one byte each come up to the place.
use Rattle.ungrouping.specs.Places.{Atoms}
use Rattle.ungrouping.proofs.atoms.past.Given as goal

abbrev pub invariant-loop-at : goal.invariant-loop-at
invariant-loop-at l = Atoms l.bytes l.from l.most l.at
