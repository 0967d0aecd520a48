-- Words of 0 that tell a shape show a pool of zeros: past what is told every word is 0.
use Rattle.std.specs.Prelude.{◌≡◌, refl, ◌≢◌, Bool, true, false, List, ◌++◌, ℕ, zero, suc, ◌+◌, ◌*◌, ◌≤◌, ◌<◌, length, set, replicate}
use Rattle.std.proofs.Common.{sym, ap, ap₂, ◌∙◌, append-nil, arith, length-set, get_or-set_same, get_or-set_other, eqb-true}
use Rattle.std.proofs.Math.ListN.{get_or}
use Rattle.std.proofs.lemmas.List.{length-replicate}
use Rattle.std.proofs.Math.Seq.{drop-length}
use Rattle.pool.specs.Laws.Fresh.{zero-at}
use Rattle.pool.specs.Pool.{blank}
use Rattle.table.specs.declared.Form.{Form}
use Rattle.table.specs.declared.Form.TheVariants.{Four, Packed, Wide}
use Rattle.table.specs.declared.Shape.{Shape}
use Rattle.table.specs.Limits.{packs, head, cells_told, holders_fit, holders_told, holders_most}
use Rattle.table.specs.Pack.{part}
use Rattle.table.specs.Laws.TabLaws.{tab_always}
use Rattle.table.specs.View.{holder_count, start, cell_word, cell_of, view}
use Rattle.table.specs.Sizes.{cleared}
use Rattle.table.specs.Blank.{headed, blank_pool}
use Rattle.table.specs.Laws.ViewLaws.{pool-path, cell-path}
use Rattle.table.specs.Laws.SizesLaws.{Fits}

pub headed-length : (f : Form) (h n : ℕ) (ws : List ℕ) → length (headed f h n ws) ≡ length ws
headed-length Four h n ws = length-set ws 0 n
headed-length Packed h n ws = length-set ws 0 n
headed-length Wide h n ws = length-set (set ws 0 n) 2 h ∙ length-set ws 0 n

module _ (h n k : ℕ) where
  abbrev zeros : List ℕ
  zeros = replicate k 0

  first-at : (i : ℕ) → i ≢ 0 → get_or (set zeros 0 n) i 0 ≡ 0
  first-at i a = get_or-set_other zeros 0 i n 0 a ∙ zero-at k i 0 refl

  zero-head : (f : Form) (i : ℕ) → i ≢ 0 → (2 < head f → i ≢ 2) → get_or (headed f h n zeros) i 0 ≡ 0
  zero-head Four i a b = first-at i a
  zero-head Packed i a b = first-at i a
  zero-head Wide i a b = get_or-set_other (set zeros 0 n) 2 i h 0 (b (omega arith)) ∙ first-at i a

  zero-past : (f : Form) (i : ℕ) → head f ≤ i → get_or (headed f h n zeros) i 0 ≡ 0
  zero-past Four i l = zero-head Four i (omega arith) (λ m. omega arith)
  zero-past Packed i l = zero-head Packed i (omega arith) (λ m. omega arith)
  zero-past Wide i l = zero-head Wide i (omega arith) (λ m. omega arith)

  pub tells_cells : (f : Form) → 0 < k → cells_told (headed f h n zeros) ≡ n
  tells_cells Four l = get_or-set_same zeros 0 n 0 (rw length-replicate l)
  tells_cells Packed l = get_or-set_same zeros 0 n 0 (rw length-replicate l)
  tells_cells Wide l = get_or-set_other (set zeros 0 n) 2 0 h 0 (omega arith) ∙ get_or-set_same zeros 0 n 0 (rw length-replicate l)

  pub tells_holders : (f : Form) → 2 < k → holders_fit f h ≡ true → holders_told f (headed f h n zeros) ≡ h
  tells_holders Four l e = sym (eqb-true h holders_most e)
  tells_holders Packed l e = sym (eqb-true h holders_most e)
  tells_holders Wide l e = get_or-set_same (set zeros 0 n) 2 h 0 (rw length-set (rw length-replicate l))

-- a cell of zeros
zero-part : (k : ℕ) → part k 0 0 ≡ 0
unfolding part
zero-part zero = refl
zero-part (suc zero) = refl
zero-part (suc (suc zero)) = refl
zero-part (suc (suc (suc k))) = refl

zero_word : (b : Bool) (a : ℕ) (ws : List ℕ) → ((i : ℕ) → a ≤ i → get_or ws i 0 ≡ 0) → (k i : ℕ) → cell_word b a k ws i ≡ 0
unfolding cell_word
zero_word false a ws h k i = h (a + 4 * i + k) (omega arith)
zero_word true a ws h k i = ap₂ (part k) (h (a + 2 * i) (omega arith)) (h (a + 2 * i + 1) (omega arith)) ∙ zero-part k

zero-cell : (b : Bool) (a : ℕ) (ws : List ℕ) → ((i : ℕ) → a ≤ i → get_or ws i 0 ≡ 0) → (i : ℕ) → cell_of b a ws i ≡ blank
unfolding cell_of
zero-cell b a ws h i = cell-path (zero_word b a ws h 0 i) (zero_word b a ws h 1 i) (zero_word b a ws h 2 i) (zero_word b a ws h 3 i)

module _ (s : Shape) (k : ℕ) (f : Fits s k) where
  abbrev pub us : List ℕ
  us = headed s.form s.holders s.cells (replicate k 0)

  past : (i : ℕ) → head s.form ≤ i → get_or us i 0 ≡ 0
  past = zero-past s.holders s.cells k s.form

  pub headed-view : view s us ≡ blank_pool s.cells s.holders
  unfolding view
  headed-view =
      pool-path (zero-head s.holders s.cells k s.form 1 (omega arith) (λ l. omega arith))
      (tab_always (holder_count s) (λ h. get_or us (head s.form + h) 0) 0 (λ h l. past (head s.form + h) (omega arith)))
      (tab_always s.cells (cell_of (packs s.form) (start s) us) blank (λ i l. zero-cell (packs s.form) (start s) us (λ j m. past j (omega arith)) i))

-- all words cleared, and the shape told
pub cleared-all : (ts : List ℕ) → cleared (length ts) ts ≡ replicate (length ts) 0
cleared-all ts = ap (λ (u : List ℕ). replicate (length ts) 0 ++ u) (drop-length ts) ∙ append-nil (replicate (length ts) 0)
