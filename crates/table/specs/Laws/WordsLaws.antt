-- The words of a pool show it, and every cell that words show has room in them.
use Rattle.std.specs.Prelude.{ℕ, zero, suc, ◌+◌, ◌*◌, ◌<◌, length, get_or, ◌≡◌, Bool, true, false, List, [], ◌∷◌, ◌++◌}
use Rattle.std.proofs.Math.ListN.{get_or-append}
use Rattle.std.proofs.Common.{length-append, get_or-append-add, sym, ap, ap₂, ◌∙◌, arith, eqb-true}
use Rattle.table.specs.declared.Form.{Form}
use Rattle.table.specs.declared.Form.TheVariants.{Four, Packed, Wide}
use Rattle.table.specs.declared.Shape.{Shape}
use Rattle.std.proofs.Math.Path.{refl}
use Rattle.std.proofs.lemmas.Bool.{false≢true}
use Rattle.pool.specs.Pool.{Cell, blank, Pool}
use Rattle.table.specs.Limits.{packs, head, holders_fit, holders_told, holders_most, cells_in}
use Rattle.table.specs.Tab.{tab}
use Rattle.table.specs.Laws.TabLaws.{tab-same, tab-get_or, get_or-tab}
use Rattle.table.specs.Fields.{field}
use Rattle.table.specs.Pack.{part, packed}
use Rattle.table.specs.Laws.PackLaws.{part-packed, count_below, next-below}
use Rattle.table.specs.View.{word_count, holder_count, start, cell_word, cell_of, view, spread, telling, words}
use Rattle.table.specs.Laws.ViewLaws.{pool-path, cell-path}

-- what two words have room for; four have room for any cell
abbrev pub Fit : Bool → Cell → Type 0
Fit b x = b ≡ true → (x.count < 32768) × (x.next < 65536)

spread-length : (b : Bool) (cs : List Cell) → length (spread b cs) ≡ cells_in b (length cs)
unfolding spread
spread-length false [] = refl
spread-length true [] = refl
spread-length false (x ∷ xs) = omega (arith, spread-length false xs)
spread-length true (x ∷ xs) = omega (arith, spread-length true xs)

-- field k of a cell among the words
spread-four : (cs : List Cell) (i k : ℕ) → k < 4 → get_or (spread false cs) (4 * i + k) 0 ≡ field k (get_or cs i blank)
unfolding spread
spread-four [] i k h = zero_field k h
  where
    zero_field : (k : ℕ) → k < 4 → 0 ≡ field k blank
    zero_field zero h = refl
    zero_field (suc zero) h = refl
    zero_field (suc (suc zero)) h = refl
    zero_field (suc (suc (suc zero))) h = refl
    zero_field (suc (suc (suc (suc k)))) h = absurd (omega arith)
spread-four (x ∷ xs) zero k h =
    let q : 4 * 0 + k ≡ k = omega arith in
    rw q (at_field k h)
  where
    at_field : (k : ℕ) → k < 4 → get_or (spread false (x ∷ xs)) k 0 ≡ field k x
    at_field zero h = refl
    at_field (suc zero) h = refl
    at_field (suc (suc zero)) h = refl
    at_field (suc (suc (suc zero))) h = refl
    at_field (suc (suc (suc (suc k)))) h = absurd (omega arith)
spread-four (x ∷ xs) (suc i) k h =
    let q : 4 * suc i + k ≡ suc (suc (suc (suc (4 * i + k)))) = omega arith in
    rw q (spread-four xs i k h)

spread-first : (cs : List Cell) (i : ℕ) → get_or (spread true cs) (2 * i) 0 ≡ packed (get_or cs i blank)
unfolding spread
spread-first [] i = refl
spread-first (x ∷ xs) zero = refl
spread-first (x ∷ xs) (suc i) =
    let q : 2 * suc i ≡ suc (suc (2 * i)) = omega arith in
    rw q (spread-first xs i)

spread-second : (cs : List Cell) (i : ℕ) → get_or (spread true cs) (2 * i + 1) 0 ≡ (get_or cs i blank).elem
unfolding spread
spread-second [] i = refl
spread-second (x ∷ xs) zero = refl
spread-second (x ∷ xs) (suc i) =
    let q : 2 * suc i + 1 ≡ suc (suc (2 * i + 1)) = omega arith in
    rw q (spread-second xs i)

-- words from a on that are those of the cells
field_back : (b : Bool) (a : ℕ) (ws : List ℕ) (cs : List Cell) → ((j : ℕ) → get_or ws (a + j) 0 ≡ get_or (spread b cs) j 0) → (i k : ℕ) → k < 4 → Fit b (get_or cs i blank) → cell_word b a k ws i ≡ field k (get_or cs i blank)
unfolding cell_word
field_back false a ws cs h i k l m =
    let q : a + 4 * i + k ≡ a + (4 * i + k) = omega arith in
    rw q (h (4 * i + k) ∙ spread-four cs i k l)
field_back true a ws cs h i k l m =
    let q : a + 2 * i + 1 ≡ a + (2 * i + 1) = omega arith in
    rw q (ap₂ (part k) (h (2 * i) ∙ spread-first cs i) (h (2 * i + 1) ∙ spread-second cs i) ∙ part-packed (get_or cs i blank) k l (m refl).0 (m refl).1)

-- what stands before the holders
telling-length : (f : Form) (n v h : ℕ) (r : List ℕ) → length (n ∷ v ∷ telling f h r) ≡ head f + length r
telling-length Four n v h r = omega arith
telling-length Packed n v h r = omega arith
telling-length Wide n v h r = omega arith

telling-past : (f : Form) (n v h : ℕ) (r : List ℕ) (i : ℕ) → get_or (n ∷ v ∷ telling f h r) (head f + i) 0 ≡ get_or r i 0
telling-past Four n v h r i =
    let q : 2 + i ≡ suc (suc i) = omega arith in
    rw q refl
telling-past Packed n v h r i =
    let q : 2 + i ≡ suc (suc i) = omega arith in
    rw q refl
telling-past Wide n v h r i =
    let q : 3 + i ≡ suc (suc (suc i)) = omega arith in
    rw q refl

pub telling-told : (f : Form) (h n v : ℕ) (r : List ℕ) → holders_fit f h ≡ true → holders_told f (n ∷ v ∷ telling f h r) ≡ h
telling-told Four h n v r e = sym (eqb-true h holders_most e)
telling-told Packed h n v r e = sym (eqb-true h holders_most e)
telling-told Wide h n v r e = refl

module _ (s : Shape) (p : Pool) (eh : length p.holders ≡ holder_count s) (ec : length p.cells ≡ s.cells) where
  abbrev pub rest : List ℕ
  rest = p.holders ++ spread (packs s.form) p.cells

  abbrev pub ws : List ℕ
  ws = s.cells ∷ p.free ∷ telling s.form s.holders rest

  pub words-length : length ws ≡ word_count s
  words-length =
      let a : length rest ≡ length p.holders + length (spread (packs s.form) p.cells) = length-append p.holders (spread (packs s.form) p.cells) in
      let b : length (spread (packs s.form) p.cells) ≡ cells_in (packs s.form) s.cells = spread-length (packs s.form) p.cells ∙ ap (cells_in (packs s.form)) ec in
      telling-length s.form s.cells p.free s.holders rest ∙ omega (arith, a, b, eh)

  holders_back : tab (holder_count s) (λ h. get_or ws (head s.form + h) 0) ≡ p.holders
  holders_back =
      tab-same (holder_count s) (λ h. get_or ws (head s.form + h) 0) (λ h. get_or p.holders h 0) (λ h l. telling-past s.form s.cells p.free s.holders rest h ∙ get_or-append p.holders (spread (packs s.form) p.cells) 0 h (omega arith))
      ∙ ap (λ (n : ℕ). tab n (λ h. get_or p.holders h 0)) (sym eh)
      ∙ tab-get_or p.holders 0

  past : (j : ℕ) → get_or ws (start s + j) 0 ≡ get_or (spread (packs s.form) p.cells) j 0
  past j =
      let q : start s + j ≡ head s.form + (length p.holders + j) = omega (arith, eh) in
      rw q (telling-past s.form s.cells p.free s.holders rest (length p.holders + j) ∙ get_or-append-add p.holders (spread (packs s.form) p.cells) j 0)

  module _ (fit : (i : ℕ) → i < s.cells → Fit (packs s.form) (get_or p.cells i blank)) where
    cell_back : (i : ℕ) → i < s.cells → cell_of (packs s.form) (start s) ws i ≡ get_or p.cells i blank
    unfolding cell_of
    cell_back i l =
        let g : (k : ℕ) → k < 4 → cell_word (packs s.form) (start s) k ws i ≡ field k (get_or p.cells i blank) = λ k lk. field_back (packs s.form) (start s) ws p.cells past i k lk (fit i l) in
        cell-path (g 0 (omega arith)) (g 1 (omega arith)) (g 2 (omega arith)) (g 3 (omega arith))

    cells_back : tab s.cells (cell_of (packs s.form) (start s) ws) ≡ p.cells
    cells_back =
        tab-same s.cells (cell_of (packs s.form) (start s) ws) (λ i. get_or p.cells i blank) cell_back
        ∙ ap (λ (n : ℕ). tab n (λ i. get_or p.cells i blank)) (sym ec)
        ∙ tab-get_or p.cells blank

    -- the words of a pool show it
    pub view-words : view s (words s p) ≡ p
    unfolding view words
    view-words = pool-path refl holders_back cells_back

-- every cell that words show has room in them
shown_fits : (b : Bool) (a : ℕ) (us : List ℕ) (i : ℕ) → Fit b (cell_of b a us i)
unfolding cell_of cell_word
shown_fits false a us i = λ e. absurd (false≢true e)
shown_fits true a us i = λ e. (count_below (get_or us (a + 2 * i) 0) (get_or us (a + 2 * i + 1) 0), next-below (get_or us (a + 2 * i) 0) (get_or us (a + 2 * i + 1) 0))

pub view_fits : (s : Shape) (ws : List ℕ) (i : ℕ) → i < s.cells → Fit (packs s.form) (get_or (view s ws).cells i blank)
unfolding view
view_fits s ws i l = rw (get_or-tab s.cells (cell_of (packs s.form) (start s) ws) i blank l) (shown_fits (packs s.form) (start s) ws i)
