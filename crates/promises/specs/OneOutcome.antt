-- An input has one outcome: a contract states that the answer, the number and every lent word are those of the
-- definition, so two outcomes that meet it are equal. And rows of answers fix the answer by themselves, whatever the
-- engine.
use Rattle.std.specs.Prelude.{◌≡◌, List, [], ◌∷◌, ℕ}
use Rattle.std.proofs.Common.{sym, ◌∙◌, inl, inr}
use Rattle.answers.specs.Answers.{outcome}
use Rattle.answers.specs.declared.Moved.{Moved}
use Rattle.answers.specs.declared.Outcome.{Outcome}
use Rattle.text.specs.Text.{verdict, rest_at}
use Rattle.calls.specs.SetUp.{set_up_in}
use Rattle.calls.specs.Run.{ran_in}
use Rattle.calls.specs.Read.{reading_in}
use Rattle.calls.specs.Promised.{SetsUp, Runs, Reads, Writes, Moves}
use Rattle.calls.specs.Write.{writing_in}
use Rattle.calls.specs.Move.{moved_from}
use Rattle.groups.specs.declared.Stored.{Stored}
use Rattle.promises.specs.Rows.{Row, Answers}
use Rattle.table.specs.declared.Form.{Form}

-- setting up, by the contract of the code
pub one-set_up : (form : Form) → (ts : List ℕ) (n h : ℕ) {r s : ℕ} {us vs : List ℕ} → SetsUp r us (set_up_in form ts n h)
    → SetsUp s vs (set_up_in form ts n h) → (r ≡ s) × (us ≡ vs)
one-set_up form ts n h a b = (a.answer ∙ sym b.answer, a.table ∙ sym b.table)

-- a script run
pub one-run : (form : Form) → (ts ws ss rs : List ℕ) {r s : Outcome} {us vs qs us' vs' qs' : List ℕ}
    → Runs r us vs qs (ran_in form ts ws ss rs) → Runs s us' vs' qs' (ran_in form ts ws ss rs)
    → (r ≡ s) × (us ≡ us') × (vs ≡ vs') × (qs ≡ qs')
one-run form ts ws ss rs a b =
    (a.outcome ∙ sym b.outcome, a.table ∙ sym b.table, a.work ∙ sym b.work, a.results ∙ sym b.results)

-- reading
pub one-read : (form : Form) (k : Stored) (ts ws : List ℕ) (h : ℕ) (xs : List ℕ) {r s : Outcome} {us vs us' vs' : List ℕ}
    → Reads r us vs (reading_in form k ts ws h xs) → Reads s us' vs' (reading_in form k ts ws h xs)
    → (r ≡ s) × (us ≡ us') × (vs ≡ vs')
one-read form k ts ws h xs a b = (a.outcome ∙ sym b.outcome, a.table ∙ sym b.table, a.work ∙ sym b.work)

-- writing
pub one_write : (form : Form) (k : Stored) (ts ws : List ℕ) (h : ℕ) (out : List ℕ) {r s : Outcome} {vs os vs' os' : List ℕ}
    → Writes r vs os (writing_in form k ts ws h out) → Writes s vs' os' (writing_in form k ts ws h out)
    → (r ≡ s) × (vs ≡ vs') × (os ≡ os')
one_write form k ts ws h out a b = (a.outcome ∙ sym b.outcome, a.work ∙ sym b.work, a.output ∙ sym b.output)

-- moving
pub one_move : (k : Stored) (xs out : List ℕ) {r s : Moved} {os os' : List ℕ} → Moves r os (moved_from k xs out)
    → Moves s os' (moved_from k xs out) → (r ≡ s) × (os ≡ os')
one_move k xs out a b = (a.moved ∙ sym b.moved, a.output ∙ sym b.output)

-- the text check
pub one-check : (xs : List ℕ) {r s : Outcome} → r ≡ outcome (verdict xs).no (verdict xs).taken
    → s ≡ outcome (verdict xs).no (verdict xs).taken → r ≡ s
one-check xs a b = a ∙ sym b

-- the further call
pub one-rest : (xs : List ℕ) {r s : ℕ} → r ≡ rest_at xs → s ≡ rest_at xs → r ≡ s
one-rest xs a b = a ∙ sym b

-- one answer for one input, by the rows

pub one_answer : (rs : List Row) (n m : ℕ) → Answers rs n → Answers rs m → n ≡ m
one_answer [] n m a b = a ∙ sym b
one_answer (r ∷ rs) n m (inl a) (inl b) = a.1 ∙ sym b.1
one_answer (r ∷ rs) n m (inl a) (inr b) = absurd (b.0 a.0)
one_answer (r ∷ rs) n m (inr a) (inl b) = absurd (a.0 b.0)
one_answer (r ∷ rs) n m (inr a) (inr b) = one_answer rs n m a.1 b.1
