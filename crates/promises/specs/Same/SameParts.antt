-- What a call gives is known by its parts: two outcomes that agree in each with a third are equal.
use Rattle.std.specs.Prelude.{◌≡◌, List, ℕ}
use Rattle.std.proofs.Common.{sym, ◌∙◌}
use Rattle.text.specs.Text.{Answer, verdict}
use Rattle.calls.specs.Run.{Ran, ran_in}
use Rattle.calls.specs.Read.{Read, reading_in}
use Rattle.calls.specs.Move.{Move, moved_from}
use Rattle.calls.specs.Write.{Write, writing_in}
use Rattle.groups.specs.declared.Stored.{Stored}
use Rattle.table.specs.declared.Form.{Form}

-- a script run
pub record RanAs (d x : Ran) : Type 0 where
  pub answer : x.answer ≡ d.answer
  pub count : x.count ≡ d.count
  pub table : x.table ≡ d.table
  pub work : x.work ≡ d.work
  pub results : x.results ≡ d.results

pub by_parts_run : (form : Form) → (ts ws ss rs : List ℕ) {x y : Ran} → RanAs (ran_in form ts ws ss rs) x → RanAs (ran_in form ts ws ss rs) y → x ≡ y
by_parts_run form ts ws ss rs a b = λ i. record {
  answer = (a.answer ∙ sym b.answer) i;
  count = (a.count ∙ sym b.count) i;
  table = (a.table ∙ sym b.table) i;
  work = (a.work ∙ sym b.work) i;
  results = (a.results ∙ sym b.results) i;
}

-- reading; the bytes are only read
pub record ReadAs (d x : Read) : Type 0 where
  pub answer : x.answer ≡ d.answer
  pub count : x.count ≡ d.count
  pub table : x.table ≡ d.table
  pub work : x.work ≡ d.work

pub by_parts_read : (form : Form) (k : Stored) (ts ws : List ℕ) (h : ℕ) (xs : List ℕ) {x y : Read} → ReadAs (reading_in form k ts ws h xs) x → ReadAs (reading_in form k ts ws h xs) y → x ≡ y
by_parts_read form k ts ws h xs a b = λ i. record {
  answer = (a.answer ∙ sym b.answer) i;
  count = (a.count ∙ sym b.count) i;
  table = (a.table ∙ sym b.table) i;
  work = (a.work ∙ sym b.work) i;
}

-- writing; the table is only read
pub record WroteAs (d x : Write) : Type 0 where
  pub answer : x.answer ≡ d.answer
  pub count : x.count ≡ d.count
  pub work : x.work ≡ d.work
  pub output : x.output ≡ d.output

pub by_parts_write : (form : Form) (k : Stored) (ts ws : List ℕ) (h : ℕ) (out : List ℕ) {x y : Write} → WroteAs (writing_in form k ts ws h out) x → WroteAs (writing_in form k ts ws h out) y → x ≡ y
by_parts_write form k ts ws h out a b = λ i. record {
  answer = (a.answer ∙ sym b.answer) i;
  count = (a.count ∙ sym b.count) i;
  work = (a.work ∙ sym b.work) i;
  output = (a.output ∙ sym b.output) i;
}

-- a move; the bytes are only read
pub record MovedAs (d x : Move) : Type 0 where
  pub answer : x.answer ≡ d.answer
  pub taken : x.taken ≡ d.taken
  pub written : x.written ≡ d.written
  pub output : x.output ≡ d.output

pub by_parts_move : (k : Stored) (xs out : List ℕ) {x y : Move} → MovedAs (moved_from k xs out) x → MovedAs (moved_from k xs out) y → x ≡ y
by_parts_move k xs out a b = λ i. record {
  answer = (a.answer ∙ sym b.answer) i;
  taken = (a.taken ∙ sym b.taken) i;
  written = (a.written ∙ sym b.written) i;
  output = (a.output ∙ sym b.output) i;
}

-- the text check; the text is only read
pub record CheckedAs (d x : Answer) : Type 0 where
  pub no : x.no ≡ d.no
  pub taken : x.taken ≡ d.taken

pub by_parts_check : (xs : List ℕ) {x y : Answer} → CheckedAs (verdict xs) x → CheckedAs (verdict xs) y → x ≡ y
by_parts_check xs a b = λ i. record { no = (a.no ∙ sym b.no) i; taken = (a.taken ∙ sym b.taken) i }
