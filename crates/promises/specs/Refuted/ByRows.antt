-- The rows of a call fix its answer: an engine that answers some input otherwise than ours does breaks them.
use Rattle.std.specs.Prelude.{◌≡◌, refl, ◌≢◌, Bool, true, not, ◌&&◌, List, [], ◌∷◌, ℕ, eqb}
use Rattle.std.proofs.lemmas.Bool.{eqb-false, not-true}
use Rattle.answers.specs.Answers.{DONE}
use Rattle.pool.specs.Laws.CheckInv.{and_both}
use Rattle.text.specs.Text.{verdict}
use Rattle.groups.specs.Stored.{verdict as judgement}
use Rattle.calls.specs.Read.{read_in}
use Rattle.calls.specs.Write.{write_out}
use Rattle.calls.specs.Move.{moved_from}
use Rattle.promises.specs.Engine.{Engine}
use Rattle.promises.specs.Rows.{Row, Answers, None}
use Rattle.promises.specs.TextGrounds.{check_rows}
use Rattle.promises.specs.StoredGrounds.{byte_rows, read_rows, write_rows, move_rows}
use Rattle.promises.specs.Demand1.{ReadRefusals, WriteRefusals, MoveRefusals, CheckRefusals}
use Rattle.promises.specs.Laws.Tells.{Each, answered-none}
use Rattle.promises.specs.Laws.StoredRows.{byte_answers, byte_each}
use Rattle.promises.specs.Kept.Demand1Kept.{demand1}
use Rattle.promises.specs.OneOutcome.{one_answer}
use Rattle.groups.specs.declared.Stored.{Stored}
use Rattle.table.specs.declared.Form.TheVariants.{Four}

module _ (E : Engine) where
  pub checks_otherwise : (xs : List ℕ) → (E.check xs).no ≢ (verdict xs).no → CheckRefusals E → ⊥
  checks_otherwise xs n d = n (one_answer (check_rows xs) _ _ (d xs) ((demand1 Four).check_refusals xs))

  module _ (k : Stored) where
    pub reads_otherwise : (ts ws : List ℕ) (h : ℕ) (xs : List ℕ)
        → (E.read k ts ws h xs).answer ≢ (read_in k ts ws h xs).answer → ReadRefusals Four E → ⊥
    reads_otherwise ts ws h xs n d =
        n (one_answer (read_rows Four k ts ws h xs) _ _ (d k ts ws h xs) ((demand1 Four).read_refusals k ts ws h xs))

    pub writes_otherwise : (ts ws : List ℕ) (h : ℕ) (out : List ℕ)
        → (E.write k ts ws h out).answer ≢ (write_out k ts ws h out).answer → WriteRefusals Four E → ⊥
    writes_otherwise ts ws h out n d =
        n (one_answer (write_rows Four k ts ws h out) _ _ (d k ts ws h out) ((demand1 Four).write_refusals k ts ws h out))

    pub moves_otherwise : (xs out : List ℕ)
        → (E.move k xs out).answer ≢ (moved_from k xs out).answer → MoveRefusals E → ⊥
    moves_otherwise xs out n d =
        n (one_answer (move_rows k xs out) _ _ (d k xs out) ((demand1 Four).move_refusals k xs out))

-- bytes that ours takes have no fault
pub no_fault : (k : Stored) (xs : List ℕ) → (judgement k xs).no ≡ DONE → None (byte_rows k xs)
no_fault k xs e = answered-none (byte_rows k xs) (judgement k xs).no (byte_each k xs) (byte_answers k xs) e

-- an answer that is DONE: none of the rows holds, where all of them refuse
abbrev pub refusing : List Row → Bool
refusing [] = true
refusing (r ∷ rs) = not (eqb r.number DONE) && refusing rs

pub done_none : (rs : List Row) → refusing rs ≡ true → Answers rs DONE → None rs
done_none rs e a = answered-none rs DONE (each rs e) a refl
  where
    each : (rs : List Row) → refusing rs ≡ true → Each (λ j. j ≡ DONE → ⊥) rs
    each [] e = tt
    each (r ∷ rs) e =
        let (n, later) = and_both (not (eqb r.number DONE)) (refusing rs) e in
        (eqb-false r.number DONE (not-true (eqb r.number DONE) n), each rs later)
