-- What measuring a list says: the earliest of DEEP and OUTPUT, or the number of its bytes.
use Rattle.std.specs.Prelude.{ℕ, ◌≡◌, List, length, IfOk, Result}
use Rattle.answers.specs.Answers.{DONE}
use Rattle.answers.specs.Refusals.{answer_no}
use Rattle.answers.specs.declared.refusal.Refusal.{Refusal}
use Rattle.groups.specs.Groups.{groups_of}
use Rattle.groups.specs.Writing.{usable, items, judged}
use Rattle.lists.specs.Lst.{len}
use Rattle.pool.specs.Operations.{list_at}
use Rattle.pool.specs.Pool.{Cell}
use Rattle.grouping.specs.declared.walk.Measured.{Measured}

abbrev pub measured : ℕ → ℕ → Measured
measured k n = record { size = k; elements = n }

pub record Measures (cs : List Cell) (x u : ℕ) (m : Result Measured Refusal) : Type 0 where
  pub answer : answer_no m ≡ judged u (items (list_at cs x))
  pub size : IfOk m (λ g. g.size ≡ length (groups_of (list_at cs x)))
  pub elements : IfOk m (λ g. g.elements ≡ len (list_at cs x))

-- it can be written into so much room
abbrev pub Writable : List Cell → ℕ → ℕ → Type 0
Writable cs x room = judged (usable room) (items (list_at cs x)) ≡ DONE
