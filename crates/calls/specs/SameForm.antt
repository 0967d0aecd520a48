-- A table stands for another of any form that shows the same pool. Every script run, reading and writing on the two
-- gives the same answer, numbers, results, work space and output, and leaves tables that stand for each other again.
use Rattle.std.specs.Prelude.{◌≡◌, Bool, cond, not, List, ℕ, ◌*◌, eqb, leb, length}
use Rattle.std.proofs.Math.Path.{refl}
use Rattle.std.proofs.Common.{sym, ap, ◌∙◌, subst}
use Rattle.std.proofs.Math.Bool.{true, false}
use Rattle.std.proofs.lemmas.Bool.{false≢true}
use Rattle.answers.specs.Answers.{DONE, UNSOUND, HOLDER, unless}
use Rattle.pool.specs.Check.{check}
use Rattle.pool.specs.Laws.CheckLaws.{check_decides}
use Rattle.pool.specs.Laws.Lengths.{Alike}
use Rattle.pool.specs.Pool.{Pool, Sound}
use Rattle.pool.specs.Script.{performed}
use Rattle.pool.proofs.Whole.{performed_sound, performed_alike}
use Rattle.groups.specs.declared.Stored.{Stored}
use Rattle.table.specs.declared.Form.{Form}
use Rattle.table.specs.declared.Shape.{Shape}
use Rattle.table.proofs.Fitting.{stored-shows}
use Rattle.table.specs.Sizes.{cells_of, shape_of, cleared}
use Rattle.table.specs.Laws.SizesLaws.{table_shape}
use Rattle.table.specs.View.{holder_count, view, words, Table}
use Rattle.calls.specs.Entry.{work_words, entry_fault, shown, stored, used}
use Rattle.calls.specs.Laws.EntryLaws.{entry_alike}
use Rattle.pool.specs.Operations.{list_of}
use Rattle.calls.specs.Write.{not_written, write_list, writing_in}
use Rattle.calls.specs.Run.{script_fault, operations, Ran, not_run, ran_to, ran_in}

-- tables of the right sizes that show one pool
pub record StandsFor (f g : Form) (ts us : List ℕ) : Type 0 where
  pub first : Table (shape_of f ts) ts
  pub second : Table (shape_of g us) us
  pub same : shown f ts ≡ shown g us

-- what two runs give in common
pub record SameRun (f g : Form) (q r : Ran) : Type 0 where
  pub answer : q.answer ≡ r.answer
  pub count : q.count ≡ r.count
  pub work : q.work ≡ r.work
  pub results : q.results ≡ r.results
  pub tables : StandsFor f g q.table r.table

-- a pool that is stored in a table of the same size is shown
pub record Stores (f : Form) (ts : List ℕ) (p : Pool) : Type 0 where
  pub table : Table (shape_of f (stored f ts p)) (stored f ts p)
  pub shows : shown f (stored f ts p) ≡ p

pub stores : (f : Form) (ts : List ℕ) (p : Pool) → Table (shape_of f ts) ts → Alike (shown f ts) p → Sound p
    → Stores f ts p
stores f ts p t a h =
    let s : Shape = shape_of f ts in
    let u = stored-shows s ts p t a.holders a.cells h in
    let e : shape_of f (words s p) ≡ s = table_shape s (words s p) u.table in
    record {
      table = subst (λ (z : Shape). Table z (words s p)) (sym e) u.table;
      shows = ap (λ (z : Shape). view z (words s p)) e ∙ u.is;
    }

module _ (f g : Form) (ts us : List ℕ) (k : StandsFor f g ts us) where
  -- as many cells, and as many holders
  pub same_cells : cells_of f ts ≡ cells_of g us
  same_cells = sym k.first.measured ∙ ap (λ (p : Pool). length p.cells) k.same ∙ k.second.measured

  -- so the first tests answer the same
  pub same-entry : (w n : ℕ) → entry_fault w f ts n ≡ entry_fault w g us n
  same-entry w n = entry_alike w n f g ts us same_cells

  same-stored : (p : Pool) → Alike (shown f ts) p → Sound p → StandsFor f g (stored f ts p) (stored g us p)
  same-stored p a h =
      let x = stores f ts p k.first a h in
      let y = stores g us p k.second (subst (λ (q : Pool). Alike q p) k.same a) h in
      record { first = x.table; second = y.table; same = x.shows ∙ sym y.shows }

  module _ (ws ss rs : List ℕ) where
    refusals : (n : ℕ) → SameRun f g (not_run n ts ws rs) (not_run n us ws rs)
    refusals n = record { answer = refl; count = refl; work = refl; results = refl; tables = k }

    same-used : used f ts ws ≡ used g us ws
    same-used = ap (λ (n : ℕ). cleared (work_words * n) ws) same_cells

    -- test by test, each the same for both
    pub runs_same : SameRun f g (ran_in f ts ws ss rs) (ran_in g us ws ss rs)
    unfolding ran_in
    runs_same =
        entry (entry_fault work_words g us (length ws)) (same-entry work_words (length ws))
        (either (eqb (script_fault ss rs) DONE) (sound (check (shown f ts)) (check (shown g us)) refl
        (ap check k.same)) (refusals (script_fault ss rs)))
      where
        either : (b : Bool) {q r x y : Ran} → SameRun f g q r → SameRun f g x y → SameRun f g (cond b q x) (cond b r y)
        either true m n = m
        either false m n = n

        entry : (n : ℕ) → entry_fault work_words f ts (length ws) ≡ n → {x y : Ran} → SameRun f g x y
            → SameRun f g (unless (entry_fault work_words f ts (length ws)) (λ m. not_run m ts ws rs) x)
            (unless n (λ m. not_run m us ws rs) y)
        entry n e {x} {y} s =
            subst (λ (m : ℕ). SameRun f g (unless (entry_fault work_words f ts (length ws)) (λ j. not_run j ts ws rs) x)
            (unless m (λ j. not_run j us ws rs) y)) e
            (either (eqb (entry_fault work_words f ts (length ws)) DONE) s
            (refusals (entry_fault work_words f ts (length ws))))

        unsounds : SameRun f g (not_run UNSOUND ts (used f ts ws) rs) (not_run UNSOUND us (used g us ws) rs)
        unsounds = record { answer = refl; count = refl; work = same-used; results = refl; tables = k }

        done : Sound (shown f ts)
            → SameRun f g (ran_to f (performed (shown f ts) (operations ss)) ts ws rs)
            (ran_to g (performed (shown g us) (operations ss)) us ws rs)
        done h =
            subst (λ (p : Pool). SameRun f g (ran_to f (performed (shown f ts) (operations ss)) ts ws rs)
            (ran_to g (performed p (operations ss)) us ws rs)) k.same
            (record {
              answer = refl;
              count = refl;
              work = same-used;
              results = refl;
              tables =
                  same-stored (performed (shown f ts) (operations ss)).pool
                  (performed_alike (operations ss) (shown f ts)) (performed_sound (operations ss) (shown f ts) h);
            })

        sound : (b c : Bool) → check (shown f ts) ≡ b → b ≡ c
            → SameRun f g (cond (not b) (not_run UNSOUND ts (used f ts ws) rs)
            (ran_to f (performed (shown f ts) (operations ss)) ts ws rs))
            (cond (not c) (not_run UNSOUND us (used g us ws) rs)
            (ran_to g (performed (shown g us) (operations ss)) us ws rs))
        sound true true p e = done ((check_decides (shown f ts)).0 p)
        sound false false p e = unsounds
        sound true false p e = absurd (false≢true (sym e))
        sound false true p e = absurd (false≢true e)

-- writing only reads the table: all that it gives is the same
module _ (f g : Form) (ts us : List ℕ) (k : StandsFor f g ts us) where
  same_holders : holder_count (shape_of f ts) ≡ holder_count (shape_of g us)
  same_holders = sym k.first.held ∙ ap (λ (p : Pool). length p.holders) k.same ∙ k.second.held

  pub writes_same : (j : Stored) (ws : List ℕ) (h : ℕ) (out : List ℕ) → writing_in f j ts ws h out ≡ writing_in g j us ws h out
  unfolding writing_in
  writes_same j ws h out = λ i.
      unless (same-entry f g ts us k work_words (length ws) i) (λ n. not_written n ws out)
      (cond (leb (same_holders i) h) (not_written HOLDER ws out)
      (cond (not (check (k.same i))) (not_written UNSOUND (cleared (work_words * same_cells f g ts us k i) ws) out)
      (write_list j (list_of (k.same i) h) (cleared (work_words * same_cells f g ts us k i) ws) out)))
