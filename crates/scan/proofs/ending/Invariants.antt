-- `ending` says what the automaton does of the fill. The invariant: the outlook at the byte is that of the start.
use Rattle.std.specs.Prelude.{◌≡◌, ◌+◌, drop}
use Rattle.scan.specs.Places.{outlook, over_at}
use Rattle.scan.proofs.ending.Given as goal

abbrev pub invariant-loop-b : goal.invariant-loop-b
invariant-loop-b l =
    outlook (l.elements + 1) (over_at l.from) (drop l.from l.text)
    ≡ outlook (l.elements + 1) (over_at (l.from + l.b-index)) (drop (l.from + l.b-index) l.text)
