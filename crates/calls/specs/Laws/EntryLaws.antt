-- The first tests of a call on a table, one by one, and what a call has past them.
use Rattle.std.specs.Prelude.{◌≡◌, ◌≢◌, Bool, List, ℕ, ◌*◌, ◌≤◌, ◌<◌, eqb, ltb}
use Rattle.std.proofs.Math.Path.{refl}
use Rattle.std.proofs.Common.{sym, ap, subst, arith}
use Rattle.std.proofs.Math.Bool.{true, false, cond}
use borrow.Author.Tests.{lt-ltb, le-ltb, eq-eqb, ne_eqb, ltb-false, eqb-false}
use Rattle.answers.specs.Answers.{DONE, TABLE_SIZE, WORK_SPACE}
use Rattle.table.specs.declared.Form.{Form}
use Rattle.table.specs.declared.Shape.{Shape}
use Rattle.table.specs.Sizes.{cells_of, shape_of}
use Rattle.table.specs.View.{Table}
use Rattle.table.specs.Laws.SizesLaws.{table_shape}
use Rattle.table.proofs.SizesLaws.{cells_table}
use Rattle.calls.specs.Entry.{bad_table, bad_work, entry_fault, Provided}

module _ (k : ℕ) (f : Form) (ts : List ℕ) (n : ℕ) where
  pub no_table : cells_of f ts ≡ 0 → entry_fault k f ts n ≡ TABLE_SIZE
  unfolding entry_fault
  no_table e = rw (eq-eqb (cells_of f ts) 0 e) refl

  pub no_work : cells_of f ts ≢ 0 → n < k * cells_of f ts → entry_fault k f ts n ≡ WORK_SPACE
  unfolding entry_fault
  no_work z l = rw (ne_eqb (cells_of f ts) 0 z, lt-ltb n (k * cells_of f ts) l) refl

  pub no_fault : cells_of f ts ≢ 0 → k * cells_of f ts ≤ n → entry_fault k f ts n ≡ DONE
  unfolding entry_fault
  no_fault z l = rw (ne_eqb (cells_of f ts) 0 z, le-ltb n (k * cells_of f ts) l) refl

  -- no test has refused
  pub entry_tests : entry_fault k f ts n ≡ DONE → (bad_table f ts ≡ false) × (bad_work k f ts n ≡ false)
  unfolding entry_fault
  entry_tests = go (bad_table f ts) (bad_work k f ts n) refl refl
    where
      go : (a b : Bool) → bad_table f ts ≡ a → bad_work k f ts n ≡ b → cond a TABLE_SIZE (cond b WORK_SPACE DONE) ≡ DONE
          → (bad_table f ts ≡ false) × (bad_work k f ts n ≡ false)
      go true b p q e = absurd (omega arith)
      go false true p q e = absurd (omega arith)
      go false false p q e = (p, q)

  pub provided : entry_fault k f ts n ≡ DONE → Provided k (shape_of f ts) ts n
  provided e =
      let (p, q) = entry_tests e in
      record { table = cells_table f ts (eqb-false (cells_of f ts) 0 p); long = ltb-false n (k * cells_of f ts) q }

-- as many cells, the same answer
pub entry_alike : (k n : ℕ) (f g : Form) (ts us : List ℕ) → cells_of f ts ≡ cells_of g us → entry_fault k f ts n ≡ entry_fault k g us n
unfolding entry_fault
entry_alike k n f g ts us e = λ i. cond (eqb (e i) 0) TABLE_SIZE (cond (ltb n (k * e i)) WORK_SPACE DONE)

-- a table of a shape passes, by the shape's own form
module _ {s : Shape} {ts : List ℕ} (t : Table s ts) where
  pub its_cells : cells_of s.form ts ≡ s.cells
  its_cells = ap (λ (u : Shape). u.cells) (table_shape s ts t)

  pub passed : (k n : ℕ) → k * s.cells ≤ n → entry_fault k s.form ts n ≡ DONE
  passed k n l =
      no_fault k s.form ts n (λ z. omega (arith, t.some, its_cells)) (subst (λ (m : ℕ). k * m ≤ n) (sym its_cells) l)
