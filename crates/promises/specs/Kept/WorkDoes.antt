-- The work space after each of our calls: a test that stands before its use leaves it as lent, and all else leaves it used.
use Rattle.std.specs.Prelude.{◌≡◌, refl, Bool, true, false, cond, not, List, [], ◌∷◌, ◌++◌, ℕ, ◌*◌, eqb, ltb, length}
use Rattle.std.proofs.Common.{ap, subst, append-nil}
use Rattle.answers.specs.Answers.{DONE, UNSOUND, HOLDER, OCCUPIED, NO_ROOM, unless}
use Rattle.answers.specs.Laws.Unless.{both_ways}
use Rattle.lists.specs.Lst.{extent}
use Rattle.pool.specs.Pool.{holder, frees}
use Rattle.pool.specs.Operations.{list_of}
use Rattle.table.specs.Sizes.{cleared}
use Rattle.groups.specs.Stored.{size_fault, verdict, list_in, judged}
use Rattle.calls.specs.Entry.{work_words, entry_fault, no_holder, shown, unsound, used}
use Rattle.calls.specs.Laws.EntryLaws.{entry_tests}
use Rattle.calls.specs.Run.{Ran, script_fault, not_run, ran_in}
use Rattle.calls.specs.Read.{Read, not_read, read_into, reading_in}
use Rattle.calls.specs.Write.{Write, not_written, write_list, writing_in}
use Rattle.promises.specs.Engine.{ours}
use Rattle.promises.specs.Rows.{Row, row, Answers}
use Rattle.promises.specs.Grounds.{NoHolder, entry_rows, script_rows}
use Rattle.promises.specs.StoredGrounds.{size_rows}
use Rattle.promises.specs.Demand1.{WorkSpace, RunWork, ReadWork, WriteWork}
use Rattle.promises.specs.Laws.Tells.{Tells, Each, none-answered, answered-none, none_both}
use Rattle.promises.specs.Laws.TestsTell.{cells_told_lem, entry_answers, entry_each, script_answers, script_each, tells_holder}
use Rattle.promises.specs.Laws.StoredRows.{size_answers, size_each}
use Rattle.promises.specs.Laws.RunLaws.{whole}
use Rattle.promises.specs.Laws.ReadLaws.{filled_in}
use Rattle.table.specs.declared.Form.{Form}

-- one test before the use
kept : {X : Type 0} (f : X → List ℕ) (ts ws : List ℕ) (rows : List Row) (b : Bool) {A : Type 0} (n : ℕ) (x y : X) → Tells b A → f x ≡ ws → (b ≡ false → WorkSpace rows ts ws (f y)) → WorkSpace (row n A ∷ rows) ts ws (f (cond b x y))
kept f ts ws rows true n x y t e k = ((λ m. e), (λ m. absurd (m.0 (t.0 refl))))
kept f ts ws rows false n x y t e k = ((λ m. (k refl).0 (λ r. m (t.1 refl, r))), (λ m. (k refl).1 m.1))

-- tests before the use whose answer is known
kept-unless : {X : Type 0} (f : X → List ℕ) (ts ws : List ℕ) (rs qs : List Row) (n : ℕ) (refuse : ℕ → X) (go : X) → Each (λ j. j ≡ DONE → ⊥) rs → Answers rs n
    → f (refuse n) ≡ ws → (n ≡ DONE → WorkSpace qs ts ws (f go)) → WorkSpace (rs ++ qs) ts ws (f (unless n refuse go))
kept-unless f ts ws rs qs n refuse go each a e k = both_ways n refuse go (λ x. WorkSpace (rs ++ qs) ts ws (f x))
    (λ d. ((λ m. e), (λ m. absurd (d (none-answered rs n ((none_both rs qs).1 m).0 a)))))
    (λ z. ((λ m. (k z).0 (λ r. m ((none_both rs qs).0 (answered-none rs n each a z, r)))), (λ m. (k z).1 ((none_both rs qs).1 m).1)))

-- no row is left: it has been used
spent : (form : Form) → (ts ws vs : List ℕ) → entry_fault work_words form ts (length ws) ≡ DONE → vs ≡ used form ts ws → WorkSpace [] ts ws vs
spent form ts ws vs e u = ((λ m. absurd (m tt)), (λ m. rw u (ap (λ (n : ℕ). cleared (work_words * n) ws) (cells_told_lem form ts (entry_tests work_words form ts (length ws) e).0))))

-- both ways have used it
either : {X : Type 0} (f : X → List ℕ) {vs : List ℕ} (b : Bool) (x y : X) → f x ≡ vs → f y ≡ vs → f (cond b x y) ≡ vs
either f true x y p q = p
either f false x y p q = q

abbrev of_run : Ran → List ℕ
of_run r = r.work

pub run_work : (form : Form) → RunWork form (ours form)
unfolding ran_in
run_work form ts ws ss rs =
    kept-unless of_run ts ws (entry_rows work_words form ts ws) (script_rows ss rs) (entry_fault work_words form ts (length ws)) refuse _ (entry_each work_words form ts ws) (entry_answers work_words form ts ws) refl (λ e.
    kept-unless of_run ts ws (script_rows ss rs) [] (script_fault ss rs) refuse _ (script_each ss rs) (script_answers ss rs) refl (λ _.
    spent form ts ws _ e (either of_run (unsound form ts) (not_run UNSOUND ts (used form ts ws) rs) (whole form ts ws ss rs) refl refl)))
  where
    refuse : ℕ → Ran
    refuse n = not_run n ts ws rs

abbrev of_read : Read → List ℕ
of_read r = r.work

pub read_work : (form : Form) → ReadWork form (ours form)
unfolding reading_in
read_work form k ts ws h xs =
    kept-unless of_read ts ws (entry_rows work_words form ts ws) (row HOLDER (NoHolder (shown form ts) h) ∷ size_rows k xs) (entry_fault work_words form ts (length ws)) refuse _ (entry_each work_words form ts ws) (entry_answers work_words form ts ws) refl (λ e.
    kept of_read ts ws (size_rows k xs) (no_holder form ts h) HOLDER (not_read HOLDER ts ws) _ (tells_holder form ts h) refl (λ _.
    subst (λ (rs : List Row). WorkSpace rs ts ws (of_read (unless (size_fault k xs) refuse sounding))) (append-nil (size_rows k xs))
    (kept-unless of_read ts ws (size_rows k xs) [] (size_fault k xs) refuse sounding (size_each k xs) (size_answers k xs) refl (λ _.
    spent form ts ws _ e (either of_read (unsound form ts) (not_read UNSOUND ts (used form ts ws)) (read_into form k ts ws h xs) refl into)))))
  where
    refuse : ℕ → Read
    refuse n = not_read n ts ws

    sounding : Read
    sounding = cond (unsound form ts) (not_read UNSOUND ts (used form ts ws)) (read_into form k ts ws h xs)

    into : (read_into form k ts ws h xs).work ≡ used form ts ws
    into =
        either of_read (not (eqb (holder (shown form ts) h) 0)) (not_read OCCUPIED ts (used form ts ws)) _ refl
        (either of_read (eqb (verdict k xs).no DONE) _ (not_read (verdict k xs).no ts (used form ts ws))
        (either of_read (ltb (frees (shown form ts).cells) (extent (list_in k xs))) (not_read NO_ROOM ts (used form ts ws)) (filled_in form k ts ws h xs) refl refl) refl)

abbrev of_write : Write → List ℕ
of_write r = r.work

pub write_work : (form : Form) → WriteWork form (ours form)
unfolding writing_in
write_work form k ts ws h out =
    kept-unless of_write ts ws (entry_rows work_words form ts ws) (row HOLDER (NoHolder (shown form ts) h) ∷ []) (entry_fault work_words form ts (length ws)) (λ n. not_written n ws out) _ (entry_each work_words form ts ws) (entry_answers work_words form ts ws) refl (λ e.
    kept of_write ts ws [] (no_holder form ts h) HOLDER (not_written HOLDER ws out) _ (tells_holder form ts h) refl (λ _.
    spent form ts ws _ e (either of_write (unsound form ts) (not_written UNSOUND (used form ts ws) out) (write_list k (list_of (shown form ts) h) (used form ts ws) out) refl
    (either of_write (eqb (judged k (length out) (list_of (shown form ts) h)) DONE) _ (not_written (judged k (length out) (list_of (shown form ts) h)) (used form ts ws) out) refl refl))))
