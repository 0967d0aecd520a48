-- Which sizes are right, and what words of a right size tell.
use Rattle.table.specs.declared.Form.{Form}
use Rattle.table.specs.declared.Form.TheVariants.{Four, Packed, Wide}
use Rattle.table.specs.declared.Shape.{Shape}
use Rattle.std.specs.Prelude.{◌≡◌, refl, Bool, true, false, cond, ◌&&◌, List, ℕ, ◌≤◌, eqb, leb, length}
use Rattle.std.proofs.Common.{sym, ap, ◌∙◌, arith, eq-eqb, le-leb, leb-true, eqb-true}
use Rattle.std.proofs.lemmas.Bool.{false≢true}
use Rattle.table.specs.Limits.{cells_most, cells_told, holders_fit, holders_told, holders_many, holders_most}
use Rattle.table.specs.View.{shape, word_count, Table}
use Rattle.table.specs.Sizes.{sizes_fit, cells_of, shape_of}

-- the number of holders that a form allows
pub record Holds (h : ℕ) : Type 0 where
  pub some : 1 ≤ h
  pub wide : h ≤ holders_many

pub holds : (f : Form) (h : ℕ) → holders_fit f h ≡ true → Holds h
holds Four h e = let q = eqb-true h holders_most e in record { some = omega arith; wide = omega arith }
holds Packed h e = let q = eqb-true h holders_most e in record { some = omega arith; wide = omega arith }
holds Wide h e = go (leb 1 h) (leb h holders_many) refl refl e
  where
    go : (a b : Bool) → leb 1 h ≡ a → leb h holders_many ≡ b → (a && b) ≡ true → Holds h
    go true true p q e = record { some = leb-true 1 h p; wide = leb-true h holders_many q }
    go true false p q e = absurd (false≢true e)
    go false b p q e = absurd (false≢true e)

pub by_length : (s : Shape) (k : ℕ) → 1 ≤ s.cells → s.cells ≤ cells_most s.form → holders_fit s.form s.holders ≡ true → sizes_fit s k ≡ eqb k (word_count s)
by_length s k a b h = rw (le-leb 1 s.cells a, le-leb s.cells (cells_most s.form) b, h)

pub fit : (s : Shape) (k : ℕ) → 1 ≤ s.cells → s.cells ≤ cells_most s.form → holders_fit s.form s.holders ≡ true → k ≡ word_count s → sizes_fit s k ≡ true
fit s k a b h e = by_length s k a b h ∙ eq-eqb k (word_count s) e

pub record Fits (s : Shape) (k : ℕ) : Type 0 where
  pub some : 1 ≤ s.cells
  pub few : s.cells ≤ cells_most s.form
  pub held : holders_fit s.form s.holders ≡ true
  pub long : k ≡ word_count s

pub fits_told : (s : Shape) (k : ℕ) → sizes_fit s k ≡ true → Fits s k
fits_told s k h = go (leb 1 s.cells) (leb s.cells (cells_most s.form)) (holders_fit s.form s.holders) (eqb k (word_count s)) refl refl refl refl h
  where
    go : (a b c d : Bool) → leb 1 s.cells ≡ a → leb s.cells (cells_most s.form) ≡ b → holders_fit s.form s.holders ≡ c → eqb k (word_count s) ≡ d → (a && (b && (c && d))) ≡ true → Fits s k
    go true true true true ea eb ec ed h = record { some = leb-true 1 s.cells ea; few = leb-true s.cells (cells_most s.form) eb; held = ec; long = eqb-true k (word_count s) ed }
    go true true true false ea eb ec ed h = absurd (false≢true h)
    go true true false d ea eb ec ed h = absurd (false≢true h)
    go true false c d ea eb ec ed h = absurd (false≢true h)
    go false b c d ea eb ec ed h = absurd (false≢true h)

-- a table tells its own shape
table_holds : (f : Form) (h : ℕ) (ts : List ℕ) → holders_told f ts ≡ h → 1 ≤ h → h ≤ holders_many → holders_fit f h ≡ true
table_holds Four h ts e a b = eq-eqb h holders_most (sym e)
table_holds Packed h ts e a b = eq-eqb h holders_most (sym e)
table_holds Wide h ts e a b = rw (le-leb 1 h a, le-leb h holders_many b)

pub table_fits : (s : Shape) (ts : List ℕ) → Table s ts → sizes_fit s (length ts) ≡ true
table_fits s ts t = fit s (length ts) t.some t.within (table_holds s.form s.holders ts t.heads t.holds t.wide) t.sized

pub table_cells : (s : Shape) (ts : List ℕ) → Table s ts → cells_of s.form ts ≡ s.cells
unfolding cells_of
table_cells s ts t = rw (t.told, t.heads) (rw (table_fits s ts t) refl)

pub table_shape : (s : Shape) (ts : List ℕ) → Table s ts → shape_of s.form ts ≡ s
table_shape s ts t = λ i. shape s.form (t.heads i) (table_cells s ts t i)

-- the number that a table tells, by the test of the code
pub its_cells : (f : Form) (ts : List ℕ) (b : Bool) → b ≡ sizes_fit (shape f (holders_told f ts) (cells_told ts)) (length ts) → cond b (cells_told ts) 0 ≡ cells_of f ts
unfolding cells_of
its_cells f ts b e = ap (λ (c : Bool). cond c (cells_told ts) 0) e

pub its_shape : (f : Form) (ts : List ℕ) (h n : ℕ) (b : Bool) → h ≡ holders_told f ts → n ≡ cells_told ts → b ≡ sizes_fit (shape f h n) (length ts) → shape f h (cond b n 0) ≡ shape_of f ts
its_shape f ts h n b p q e = λ i. shape f (p i) ((ap (λ (x : ℕ). cond b x 0) q ∙ its_cells f ts b (e ∙ λ j. sizes_fit (shape f (p j) (q j)) (length ts))) i)
