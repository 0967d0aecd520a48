-- An operation on a sound pool is refused exactly as document 01's rows say.
use Rattle.std.specs.Prelude.{◌≡◌, refl, ◌↔◌, ℕ, drop}
use Rattle.std.proofs.Common.{arith}
use Rattle.answers.specs.Answers.{DONE, CODE, HOLDER, SAME, NULL, OCCUPIED, SHARED, NO_ROOM}
use Rattle.pool.specs.Pool.{Pool, Sound}
use Rattle.pool.specs.Script.{Operation, bad_code, bad_holder, same_holder, null_list, occupied, shared_cells, lacks_room, refusal}
use Rattle.promises.specs.Rows.{Answers, None}
use Rattle.promises.specs.Grounds.{NoRoom, before_room, operation_rows}
use Rattle.promises.specs.Laws.Tells.{first, passed_over, last_row}
use Rattle.promises.specs.Laws.TestsTell.{tells_code, tells_held, tells_same, tells_null, tells_occupied, tells_own, tells_room}

-- what the rows from the k-th on say
abbrev Later : Pool → Operation → ℕ → ℕ → Type 0
Later p o k = Answers (drop k (operation_rows p o))

pub operation_answers : (p : Pool) (o : Operation) → Sound p → Answers (operation_rows p o) (refusal p o)
unfolding refusal
operation_answers p o s =
    first (λ n. n) (Later p o 1) (bad_code o) CODE _ (tells_code o) refl (λ _.
    first (λ n. n) (Later p o 2) (bad_holder p o) HOLDER _ (tells_held p o s) refl (λ _.
    first (λ n. n) (Later p o 3) (same_holder o) SAME _ (tells_same p o s) refl (λ _.
    first (λ n. n) (Later p o 4) (null_list p o) NULL _ (tells_null p o s) refl (λ _.
    first (λ n. n) (Later p o 5) (occupied p o) OCCUPIED _ (tells_occupied p o s) refl (λ _.
    first (λ n. n) (Later p o 6) (shared_cells p o) SHARED _ (tells_own p o s) refl (λ _.
    first (λ n. n) (Later p o 7) (lacks_room p o) NO_ROOM DONE (tells_room p o s) refl (λ _. refl)))))))

pub room_answers : (p : Pool) (o : Operation) → Sound p → None (before_room p o) → (refusal p o ≡ NO_ROOM) ↔ NoRoom p o
room_answers p o s n = last_row (λ z. omega arith) (passed_over (before_room p o) (drop 6 (operation_rows p o)) (λ m. m ≡ DONE) (refusal p o) n (operation_answers p o s))
