-- Tables and the pools that they show: what is stored is shown again, and a call that passes its first tests works on a sound pool.
use Rattle.std.specs.Prelude.{◌≡◌, refl, Bool, true, false, not, List, ℕ, length}
use Rattle.std.proofs.Common.{sym, ap, ◌∙◌, subst, arith, ne_eqb}
use Rattle.std.proofs.lemmas.Bool.{eqb-false, not-false}
use Rattle.answers.specs.Answers.{DONE}
use Rattle.pool.specs.Pool.{Pool, Sound}
use Rattle.pool.specs.Laws.CheckLaws.{check_decides}
use Rattle.pool.specs.Laws.Lengths.{Alike}
use Rattle.table.specs.declared.Shape.{Shape}
use Rattle.table.proofs.Fitting.{stored-shows}
use Rattle.table.specs.Sizes as table
use Rattle.table.specs.View.{view, words, Table}
use Rattle.table.specs.Sizes.{cells_of, shape_of}
use Rattle.table.specs.Laws.SizesLaws.{table_shape}
use Rattle.table.proofs.SizesLaws.{cells_table}
use Rattle.table.proofs.WordsLaws.{words-view}
use Rattle.calls.specs.Entry.{work_words, bad_table, entry_fault, shown, unsound, stored}
use Rattle.calls.specs.Laws.EntryLaws.{entry_tests}
use Rattle.promises.specs.Laws.Tells.{Tells}
use Rattle.table.specs.declared.Form.{Form}

-- a table of its own shape, and sound
pub record Good (form : Form) (ts : List ℕ) : Type 0 where
  pub table : Table (shape_of form ts) ts
  pub sound : Sound (shown form ts)

pub is_table : (form : Form) → (ts : List ℕ) → bad_table form ts ≡ false → Table (shape_of form ts) ts
is_table form ts e = cells_table form ts (eqb-false (cells_of form ts) 0 e)

pub good : (form : Form) → (ts : List ℕ) → bad_table form ts ≡ false → unsound form ts ≡ false → Good form ts
good form ts e u = record { table = is_table form ts e; sound = (check_decides (shown form ts)).0 (not-false _ u) }

pub entered_good : (form : Form) (ts ws : List ℕ) → entry_fault work_words form ts (length ws) ≡ DONE → unsound form ts ≡ false → Good form ts
entered_good form ts ws e = good form ts (entry_tests work_words form ts (length ws) e).0

-- the pool that a table of another shape shows, where the shapes agree
pub shape-shown : (form : Form) → (s : Shape) (us : List ℕ) → s.form ≡ form → Table s us → (shape_of form us ≡ s) × (shown form us ≡ view s us)
shape-shown form s us q t =
    let e : shape_of form us ≡ s = ap (λ (g : Form). table.shape_of g us) (sym q) ∙ table_shape s us t in
    (e, ap (λ (z : Shape). view z us) e)

pub shape_good : (form : Form) → (s : Shape) (us : List ℕ) → s.form ≡ form → Table s us → Sound (view s us) → Good form us
shape_good form s us z t h =
    let (e, q) = shape-shown form s us z t in
    record { table = subst (λ (z : Shape). Table z us) (sym e) t; sound = subst Sound (sym q) h }

-- what is stored is shown again
pub record Stored (form : Form) (ts : List ℕ) (q : Pool) : Type 0 where
  pub cells : cells_of form (stored form ts q) ≡ cells_of form ts
  pub shows : shown form (stored form ts q) ≡ q
  pub table : Table (shape_of form (stored form ts q)) (stored form ts q)
  pub again : (r : Pool) → stored form (stored form ts q) r ≡ stored form ts r

pub stores : (form : Form) → (ts : List ℕ) (q : Pool) → Table (shape_of form ts) ts → Alike (shown form ts) q → Sound q → Stored form ts q
stores form ts q t a h =
    let s = shape_of form ts in
    let u = stored-shows s ts q t a.holders a.cells h in
    let (e, w) = shape-shown form s (words s q) refl u.table in
    record {
      cells = ap (λ (z : Shape). z.cells) e;
      shows = w ∙ u.is;
      table = subst (λ (z : Shape). Table z (words s q)) (sym e) u.table;
      again = λ r. ap (λ (z : Shape). words z r) e;
    }

pub stored_good : (form : Form) → (ts : List ℕ) (q : Pool) → Stored form ts q → Sound q → Good form (stored form ts q)
stored_good form ts q st h = record { table = st.table; sound = subst Sound (sym st.shows) h }

pub stored_same : (form : Form) → (ts : List ℕ) → Table (shape_of form ts) ts → stored form ts (shown form ts) ≡ ts
stored_same form ts t = words-view (shape_of form ts) ts t

-- a test whose condition does not hold
pub fails : (b : Bool) {A : Type 0} → Tells b A → (A → ⊥) → b ≡ false
fails true t n = absurd (n (t.0 refl))
fails false t n = refl

pub good_table : (form : Form) → (ts : List ℕ) → Good form ts → bad_table form ts ≡ false
good_table form ts g = ne_eqb (cells_of form ts) 0 (λ e. omega (arith, g.table.some))

pub good_sound : (form : Form) → (ts : List ℕ) → Good form ts → unsound form ts ≡ false
good_sound form ts g = ap not ((check_decides (shown form ts)).1 g.sound)
