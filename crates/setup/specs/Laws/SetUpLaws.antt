-- What setting up gives, case by case: a refusal, or words that show a fresh pool, which is sound and all free.
use Rattle.std.specs.Prelude.{◌≡◌, Bool, true, false, List, ℕ, length}
use Rattle.std.proofs.Math.Path.{refl}
use Rattle.std.proofs.Common.{sym, ap, ◌∙◌, subst}
use Rattle.answers.specs.Answers.{DONE, TABLE_SIZE}
use Rattle.pool.specs.Laws.Fresh.{fresh_sound, fresh_holders, fresh_cells, fresh-null, fresh-frees}
use Rattle.pool.specs.Operations.{laid, fresh}
use Rattle.pool.specs.Pool.{Pool, holder, frees, Sound}
use Rattle.table.specs.declared.Form.{Form}
use Rattle.table.specs.declared.Shape.{Shape}
use Rattle.table.specs.Blank.{blank_pool}
use Rattle.pool.specs.Setters.{celled, put_free}
use Rattle.table.specs.Sizes.{sizes_fit}
use Rattle.table.specs.View.{shape, view, words, Table, Shows}
use Rattle.table.proofs.Fitting.{sound_shows}
use Rattle.table.specs.Laws.SizesLaws.{Fits, fits_told}
use Rattle.table.specs.Laws.ViewLaws.{after}
use Rattle.table.proofs.WordsLaws.{shown-words}
use Rattle.calls.specs.SetUp.{Given, not_set_up, new_table, set_up_in}
use Rattle.calls.specs.Promised.{SetsUp}
use Rattle.setup.specs.Laws.Linked.{linked, linked-none}

-- the code's words: blank, then the first free cell, then the links
module _ (s : Shape) {ws us : List ℕ} (a : Shows s ws (blank_pool s.cells s.holders)) (b : Shows s us (put_free 1 (view s ws))) where
  begun : Shows s us (put_free 1 (blank_pool s.cells s.holders))
  begun = after (put_free 1) a b

  pub unlinked : (view s us).cells ≡ linked 1 s.cells
  unlinked = ap (λ (p : Pool). p.cells) begun.is ∙ linked-none s.cells

  pub made : {vs : List ℕ} → Shows s vs (celled (laid 0 s.cells) (view s us)) → Shows s vs (fresh s.cells s.holders)
  unfolding fresh
  made c = after (celled (laid 0 s.cells)) begun c

module _ (f : Form) (ts : List ℕ) (n h : ℕ) where
  pub refused : sizes_fit (shape f h n) (length ts) ≡ false → set_up_in f ts n h ≡ not_set_up ts
  unfolding set_up_in
  refused e = rw e refl

  pub accepted : sizes_fit (shape f h n) (length ts) ≡ true → set_up_in f ts n h ≡ new_table f n h
  unfolding set_up_in
  accepted e = rw e refl

  pub set_up_ways : (P : Given → Type 0) → (sizes_fit (shape f h n) (length ts) ≡ true → P (new_table f n h)) → (sizes_fit (shape f h n) (length ts) ≡ false → P (not_set_up ts)) → P (set_up_in f ts n h)
  set_up_ways P y z = go (sizes_fit (shape f h n) (length ts)) refl
    where
      go : (b : Bool) → sizes_fit (shape f h n) (length ts) ≡ b → P (set_up_in f ts n h)
      go true e = subst P (sym (accepted e)) (y e)
      go false e = subst P (sym (refused e)) (z e)

  pub refuses : sizes_fit (shape f h n) (length ts) ≡ false → SetsUp TABLE_SIZE ts (set_up_in f ts n h)
  refuses e = subst (SetsUp TABLE_SIZE ts) (sym (refused e)) (record { answer = refl; table = refl })

  pub sets_up : {us : List ℕ} → sizes_fit (shape f h n) (length ts) ≡ true → Shows (shape f h n) us (fresh n h) → SetsUp DONE us (set_up_in f ts n h)
  sets_up {us} e sh = subst (SetsUp DONE us) (sym (accepted e)) (record { answer = refl; table = shown-words sh })

-- the words of a new table show a fresh pool: sound, all its cells free, all its holders null
pub new_shows : (s : Shape) {k : ℕ} → Fits s k → Shows s (words s (fresh s.cells s.holders)) (fresh s.cells s.holders)
new_shows s f = sound_shows s (fresh s.cells s.holders) f (fresh_holders s.cells s.holders) (fresh_cells s.cells s.holders) (fresh_sound s.cells s.holders f.some)

pub record New (s : Shape) (us : List ℕ) : Type 0 where
  pub table : Table s us
  pub sound : Sound (view s us)
  pub free : frees (view s us).cells ≡ s.cells
  pub null : (h : ℕ) → holder (view s us) h ≡ 0

pub set_up_new : (f : Form) (ts : List ℕ) (n h : ℕ) → sizes_fit (shape f h n) (length ts) ≡ true → New (shape f h n) (set_up_in f ts n h).table
set_up_new f ts n h z =
    let g : Fits (shape f h n) (length ts) = fits_told (shape f h n) (length ts) z in
    let w = new_shows (shape f h n) g in
    let e = sym w.is in
    subst (λ (g : Given). New (shape f h n) g.table) (sym (accepted f ts n h z)) (record {
      table = w.table;
      sound = subst Sound e (fresh_sound n h g.some);
      free = ap (λ (q : Pool). frees q.cells) w.is ∙ fresh-frees n h;
      null = λ i. ap (λ (q : Pool). holder q i) w.is ∙ fresh-null n h i;
    })
