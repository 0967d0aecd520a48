-- What measuring answers at each return: a refusal, or the size where the walk has ended.
use Rattle.std.specs.Prelude.{ℕ, ◌≡◌, List, Ok, Err}
use Rattle.std.proofs.Common.{sym, ap, ◌∙◌, eq-eqb}
use Rattle.answers.specs.Answers.{OUTPUT}
use Rattle.answers.specs.Refusals.{refusal_no}
use Rattle.answers.specs.declared.refusal.Refusal.{Refusal}
use Rattle.pool.specs.Pool.{Cell}
use Rattle.text.specs.Laws.OpenLists.{opens_body}
use Rattle.text.specs.Writing.{judged}
use Rattle.walks.specs.declared.walk.Walk.{Walk}
use Rattle.pool.specs.Operations.{list_at}
use Rattle.writing.specs.Measures.{text_at, Measures}
use Rattle.writing.specs.Walking.{Walking}
use Rattle.writing.specs.Laws.WalkingLaws.{ended}

pub no_room : (cs : List Cell) (x u : ℕ) → u ≡ 0 → judged u 0 (text_at cs x) ≡ OUTPUT
no_room cs x u e = ap (judged u 0) (opens_body (list_at cs x)) ∙ rw (eq-eqb u 0 e)

pub refuses : (cs : List Cell) (x u : ℕ) (r : Refusal) → judged u 0 (text_at cs x) ≡ refusal_no r → Measures cs x u (Err r)
refuses cs x u r e = record { answer = sym e; size = tt }

pub sizes : (cs : List Cell) (x u : ℕ) (after : List ℕ) (w : Walk) → Walking cs (text_at cs x) u after w → w.depth ≡ 0 → Measures cs x u (Ok w.size)
sizes cs x u after w g e = let f = ended cs (text_at cs x) u after w g e in record { answer = sym f.1; size = f.0 }
