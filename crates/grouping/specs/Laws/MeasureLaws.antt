-- What measuring answers at each return: a refusal, or the size where the walk has ended. What was measured can be put.
use Rattle.std.specs.Prelude.{ℕ, suc, ◌-◌, ◌≤◌, ◌≡◌, List, [], ◌∷◌, Ok, Err}
use Rattle.std.proofs.Common.{sym, ap, ◌∙◌, arith}
use Rattle.answers.specs.Answers.{DONE}
use Rattle.answers.specs.Refusals.{refusal_no}
use Rattle.answers.specs.declared.refusal.Refusal.{Refusal}
use Rattle.groups.specs.Writing.{items, usable, judged}
use Rattle.grouping.specs.declared.walk.Measured.{Measured}
use Rattle.walks.specs.declared.walk.Walk.{Walk}
use Rattle.grouping.specs.Measures.{measured, Measures, Writable}
use Rattle.grouping.specs.Walking.{Walking, Measuring}
use Rattle.grouping.specs.Laws.ItemLaws.{groups_fit}
use Rattle.grouping.specs.Laws.WalkingLaws.{ended}
use Rattle.lists.specs.Lst.{Lst, len}
use Rattle.pool.specs.Operations.{list_at}
use Rattle.pool.specs.Pool.{Cell}
use Rattle.text.specs.Limits.{text_most}

pub refuses : (cs : List Cell) (x u : ℕ) (r : Refusal) → judged u (items (list_at cs x)) ≡ refusal_no r → Measures cs x u (Err r)
refuses cs x u r e = record { answer = sym e; size = tt; elements = tt }

pub begins_count : (cs : List Cell) (l : Lst) (u : ℕ) (after : List ℕ) (w : Walk) → Walking cs l u after w (l ∷ []) → Measuring cs l u after w 0
begins_count cs l u after w g = record { opened = l ∷ []; walks = g; count = omega arith }

-- the turn on the outermost level that ends it is the last
pub some_turns : (cs : List Cell) (l : Lst) (u : ℕ) (after : List ℕ) (w : Walk) (n : ℕ) → Measuring cs l u after w n → w.depth ≡ 0 → n ≡ suc (len l)
some_turns cs l u after w n g e = omega (arith, g.count, (ended cs l u after w g.opened g.walks e).2)

pub sizes : (cs : List Cell) (x u : ℕ) (after : List ℕ) (w : Walk) (n : ℕ) → Measuring cs (list_at cs x) u after w n → w.depth ≡ 0
    → Measures cs x u (Ok (measured w.size (n - 1)))
sizes cs x u after w n g e =
    let f = ended cs (list_at cs x) u after w g.opened g.walks e in
    let k = some_turns cs (list_at cs x) u after w n g e in
    record { answer = sym f.1; size = f.0; elements = omega arith }

pub fitting : (cs : List Cell) (x u room : ℕ) (m : Measured) → Measures cs x u (Ok m) → u ≡ usable room → Writable cs x room × (m.size ≤ text_most)
fitting cs x u room m g e =
    let j : judged u (items (list_at cs x)) ≡ DONE = sym g.answer in
    (ap (λ (k : ℕ). judged k (items (list_at cs x))) (sym e) ∙ j, omega (arith, g.size, groups_fit (list_at cs x) u j))
