-- Where reading puts a list: the i-th element to begin takes the i-th free cell. By induction on the list, from any place of the free chain.
use Rattle.std.specs.Prelude.{◌≡◌, ◌≢◌, length}
use Rattle.std.proofs.Math.Path.{refl, ap, subst}
use Rattle.std.proofs.Common.{sym, ◌∙◌}
use mathlib.Core.List.{List}
use Prim.Native.Nat.{ℕ, suc, ◌+◌, ◌≤◌, ◌<◌}
use native.Mathlib.Omega.{arith}
use Rattle.lists.specs.Lst.{Lst, nil, atom, list, extent}
use Rattle.pool.specs.Pool.{Cell, at, put, next_of}
use Rattle.pool.specs.Laws.Edit.{put-length, put_same, put_other}
use Rattle.pool.specs.Operations.{Made, load}
use Rattle.table.specs.Laws.ViewLaws.{cell-path}
use Rattle.promises.specs.Cells.{start_of, Laid}

-- cells that stand as they did hold the same elements
laid_frame : (ds es : List Cell) (fs : ℕ → ℕ) (l : Lst) (k : ℕ) → ((j : ℕ) → k ≤ j → j < k + extent l → at es (fs j) ≡ at ds (fs j)) → Laid ds fs k l
    → Laid es fs k l
unfolding Laid extent
laid_frame ds es fs nil k s h = tt
laid_frame ds es fs (atom v l) k s h = (s k (omega arith) (omega arith) ∙ h.0, laid_frame ds es fs l (suc k) (λ j m n. s j (omega arith) (omega arith)) h.1)
laid_frame ds es fs (list e l) k s h = (
  s k (omega arith) (omega arith) ∙ h.0,
  laid_frame ds es fs e (suc k) (λ j m n. s j (omega arith) (omega arith)) h.1,
  laid_frame ds es fs l (suc k + extent e) (λ j m n. s j (omega arith) (omega arith)) h.2,
)

-- n different cells of a pool of L
module _ (fs : ℕ → ℕ) (n L : ℕ) (apart : (i j : ℕ) → i < n → j < n → fs i ≡ fs j → i ≡ j) (inside : (j : ℕ) → j < n → (0 < fs j) × (fs j ≤ L)) where
  -- the cells from the k-th to the m-th follow each other
  abbrev Follow : List Cell → ℕ → ℕ → Type 0
  Follow cs k m = (j : ℕ) → k ≤ j → j < m → next_of cs (fs j) ≡ fs (suc j)

  pub record LoadedAt (l : Lst) (k : ℕ) (cs : List Cell) (z : Made) : Type 0 where
    pub free : z.free ≡ fs (k + extent l)
    pub head : z.head ≡ start_of fs k l
    pub laid : Laid z.cells fs k l
    pub rest : (c : ℕ) → ((j : ℕ) → k ≤ j → j < k + extent l → c ≢ fs j) → at z.cells c ≡ at cs c
    pub size : length z.cells ≡ length cs

  put-later : (ds : List Cell) (k j : ℕ) (y : Cell) → j < n → k < j → at (put ds (fs k) y) (fs j) ≡ at ds (fs j)
  put-later ds k j y l m = put_other ds (fs k) (fs j) y (λ e. omega (arith, apart j k l (omega arith) e))

  placed : (ds : List Cell) (k : ℕ) (y : Cell) → k < n → length ds ≡ L → at (put ds (fs k) y) (fs k) ≡ y
  placed ds k y l e = put_same ds (fs k) y (inside k l).0 (omega (arith, (inside k l).1))

  pub load_cells : (l : Lst) (k f : ℕ) (cs : List Cell) → f ≡ fs k → Follow cs k (k + extent l) → k + extent l ≤ n → length cs ≡ L
      → LoadedAt l k cs (load l f cs)
  unfolding load extent Laid
  load_cells nil k f cs e on b s = record { free = e ∙ ap fs (omega arith); head = refl; laid = tt; rest = λ c h. refl; size = refl }
  load_cells (atom v l) k f cs e on b s =
      let z = load l (next_of cs f) cs in
      let r : LoadedAt l (suc k) cs z
      = load_cells l (suc k) (next_of cs f) cs (ap (next_of cs) e ∙ on k (omega arith) (omega arith)) (λ j m h. on j (omega arith) (omega arith))
      (omega arith) s in
      let y : Cell = record { kind = 0; elem = v; count = 1; next = z.head } in
      let sum : suc k + extent l ≡ k + suc (extent l) = omega arith in
      subst (λ (g : ℕ). LoadedAt (atom v l) k cs (record { free = z.free; cells = put z.cells g y; head = g })) (sym e) (record {
        free = r.free ∙ ap fs sum;
        head = refl;
        laid = (
          placed z.cells k y (omega arith) (r.size ∙ s)
              ∙ cell-path refl refl refl r.head,
          laid_frame z.cells (put z.cells (fs k) y) fs l (suc k)
              (λ j m h. put-later z.cells k j y (omega arith) m) r.laid,
        );
        rest = λ c h. put_other z.cells (fs k) c y (h k (omega arith) (omega arith)) ∙ r.rest c (λ j m q. h j (omega arith) (omega arith));
        size = put-length z.cells (fs k) y ∙ r.size;
      })
  load_cells (list d l) k f cs e on b s =
      let u = load d (next_of cs f) cs in
      let q : LoadedAt d (suc k) cs u
      = load_cells d (suc k) (next_of cs f) cs (ap (next_of cs) e ∙ on k (omega arith) (omega arith)) (λ j m h. on j (omega arith) (omega arith))
      (omega arith) s in
      let z = load l u.free u.cells in
      let away : (j : ℕ) → suc k + extent d ≤ j → j < n → at u.cells (fs j) ≡ at cs (fs j)
      = λ j m h. q.rest (fs j) (λ i x y w. omega (arith, apart j i h (omega arith) w)) in
      let r : LoadedAt l (suc k + extent d) u.cells z
      = load_cells l (suc k + extent d) u.free u.cells q.free
      (λ j m h. ap (λ (w : Cell). w.next) (away j m (omega arith)) ∙ on j (omega arith) (omega arith)) (omega arith) (q.size ∙ s) in
      let y : Cell = record { kind = 1; elem = u.head; count = 1; next = z.head } in
      let sum : suc k + extent d + extent l ≡ k + suc (extent d + extent l) = omega arith in
      let es : List Cell = put z.cells (fs k) y in
      let inner : (j : ℕ) → suc k ≤ j → j < suc k + extent d → at es (fs j) ≡ at u.cells (fs j)
      = λ j m h. put-later z.cells k j y (omega arith) m ∙ r.rest (fs j) (λ i x t w. omega (arith, apart j i (omega arith) (omega arith) w)) in
      subst (λ (g : ℕ). LoadedAt (list d l) k cs (record { free = z.free; cells = put z.cells g y; head = g })) (sym e) (record {
        free = r.free ∙ ap fs sum;
        head = refl;
        laid = (
          placed z.cells k y (omega arith) (r.size ∙ q.size ∙ s) ∙ cell-path refl q.head refl r.head,
          laid_frame u.cells es fs d (suc k) inner q.laid,
          laid_frame z.cells es fs l (suc k + extent d) (λ j m h. put-later z.cells k j y (omega arith) (omega arith)) r.laid,
        );
        rest = λ c h. put_other z.cells (fs k) c y (h k (omega arith) (omega arith)) ∙ r.rest c (λ j m t. h j (omega arith) (omega arith))
            ∙ q.rest c (λ j m t. h j (omega arith) (omega arith));
        size = put-length z.cells (fs k) y ∙ r.size ∙ q.size;
      })
