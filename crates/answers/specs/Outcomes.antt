-- What a call gives that was done, or refused.
use Rattle.std.specs.Prelude.{ℕ, Result, Ok, Err}
use Rattle.answers.specs.Answers.{outcome, refused, done, moved, not_moved, DONE}
use Rattle.answers.specs.Refusals.{refusal_no}
use Rattle.answers.specs.declared.Outcome.{Outcome}
use Rattle.answers.specs.declared.Moved.{Moved}
use Rattle.answers.specs.declared.Passed.{Passed}
use Rattle.answers.specs.declared.Stopped.{Stopped}
use Rattle.answers.specs.declared.refusal.Refusal.{Refusal}

abbrev pub outcome_of : Result ℕ Refusal → Outcome
outcome_of (Ok k) = done k
outcome_of (Err r) = refused (refusal_no r)

abbrev pub stopped_of : Result ℕ Stopped → Outcome
stopped_of (Ok k) = done k
stopped_of (Err s) = outcome (refusal_no s.refusal) s.count

abbrev pub moved_of : Result Passed Refusal → Moved
moved_of (Ok p) = moved DONE p.taken p.written
moved_of (Err r) = not_moved (refusal_no r)
