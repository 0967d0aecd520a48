-- What the words of a table show: each field is read from its words, and a store is a setter of the pool, in every form.
use Prim.Native.Nat.{ℕ, zero, suc, ◌+◌, ◌*◌, ◌-◌, ◌≤◌, ◌<◌, ◌^◌}
use Rattle.std.specs.Prelude.{◌≢◌, ◌≡◌, length}
use Rattle.std.proofs.Math.Path.{refl, ap, ap₂, sym}
use Rattle.std.proofs.Common.{◌∙◌, subst, arith, get_or-set_same}
use Rattle.std.proofs.Math.Bool.{Bool, true, false}
use Rattle.std.proofs.lemmas.Bool.{false≢true}
use mathlib.Core.List.{List}
use Rattle.std.proofs.Math.Decide.{dec_lt}
use Rattle.std.proofs.Math.ListN.{get_or, set, get_or-eq_default}
use Rattle.std.proofs.Math.Seq.{get_or-set_other}
use Rattle.table.specs.declared.Form.{Form}
use Rattle.table.specs.declared.Form.TheVariants.{Four, Packed, Wide}
use Rattle.table.specs.declared.Shape.{Shape}
use Rattle.pool.specs.Laws.Edit.{put_same, put-put}
use Rattle.pool.specs.Pool.{Cell, blank, Pool, at, put, elem_of, holder}
use Rattle.table.specs.Limits.{packs, head, holders_told, cells_in}
use Rattle.table.specs.Tab.{tab}
use Rattle.table.specs.Laws.TabLaws.{length-tab, get_or-tab, tab-same, tab-set}
use Rattle.table.specs.Fields.{field, fitted, put_field}
use Rattle.pool.specs.Setters.{cell, celled, put_cell, put_free, put_holder}
use Rattle.table.specs.Pack.{part}
use Rattle.table.specs.View.{holder_count, start, cell_word, cell_of, view, Table, IsCell, Shows}
use Rattle.table.specs.Laws.PutLaws.{Put}

pub pool-path : {f f' : ℕ} {h h' : List ℕ} {c c' : List Cell} → f ≡ f' → h ≡ h' → c ≡ c' → ◌≡◌ {A = Pool} (record { free = f; holders = h; cells = c }) (record { free = f'; holders = h'; cells = c' })
pool-path pf ph pc = λ i. record { free = pf i; holders = ph i; cells = pc i }

pub cell-path : {k k' e e' n n' s s' : ℕ} → k ≡ k' → e ≡ e' → n ≡ n' → s ≡ s' → ◌≡◌ {A = Cell} (record { kind = k; elem = e; count = n; next = s }) (record { kind = k'; elem = e'; count = n'; next = s' })
cell-path pk pe pn ps = λ i. record { kind = pk i; elem = pe i; count = pn i; next = ps i }

-- words that agree on a cell
cell_same : (b : Bool) (a : ℕ) (ws us : List ℕ) (i : ℕ) → ((k : ℕ) → k < 4 → cell_word b a k us i ≡ cell_word b a k ws i) → cell_of b a us i ≡ cell_of b a ws i
unfolding cell_of
cell_same b a ws us i h = cell-path (h 0 (omega arith)) (h 1 (omega arith)) (h 2 (omega arith)) (h 3 (omega arith))

cell-put : (b : Bool) (a : ℕ) (ws us : List ℕ) (k i v : ℕ) → Put b a ws us k i v → cell_of b a us i ≡ fitted k v (cell_of b a ws i)
unfolding cell_of
cell-put b a ws us k i v u = cell-path (u.there 0 (omega arith)) (u.there 1 (omega arith)) (u.there 2 (omega arith)) (u.there 3 (omega arith))

pub cell-read : (b : Bool) (a : ℕ) (ws : List ℕ) (i k : ℕ) → k < 4 → cell_word b a k ws i ≡ field k (cell_of b a ws i)
unfolding cell_of
cell-read b a ws i zero h = refl
cell-read b a ws i (suc zero) h = refl
cell-read b a ws i (suc (suc zero)) h = refl
cell-read b a ws i (suc (suc (suc zero))) h = refl
cell-read b a ws i (suc (suc (suc (suc k)))) h = absurd (omega arith)

-- each form in numbers
pub record Numbers (f : Form) (n : ℕ) : Type 0 where
  pub few : n ≤ 8000
  pub low : 2 ≤ head f

-- any words show as many cells and holders as the shape has
pub view_cells : (s : Shape) (ws : List ℕ) → length (view s ws).cells ≡ s.cells
unfolding view
view_cells s ws = length-tab s.cells (cell_of (packs s.form) (start s) ws)

pub view_holders : (s : Shape) (ws : List ℕ) → length (view s ws).holders ≡ holder_count s
unfolding view
view_holders s ws = length-tab (holder_count s) (λ h. get_or ws (head s.form + h) 0)

-- an element is a word of its own in every form
elem_small : (b : Bool) (a : ℕ) (ws : List ℕ) (i : ℕ) → ((j : ℕ) → get_or ws j 0 < 2 ^ 32) → (cell_of b a ws i).elem < 2 ^ 32
unfolding cell_of cell_word part
elem_small false a ws i h = h (a + 4 * i + 1)
elem_small true a ws i h = h (a + 2 * i + 1)

pub small_elems : (s : Shape) (ws : List ℕ) → ((j : ℕ) → get_or ws j 0 < 2 ^ 32) → (c : ℕ) → elem_of (view s ws).cells c < 2 ^ 32
unfolding view
small_elems s ws h zero = omega arith
small_elems s ws h (suc i) = go (dec_lt i s.cells)
  where
    go : Dec (i < s.cells) → elem_of (view s ws).cells (suc i) < 2 ^ 32
    go (yes l) = subst (λ (x : Cell). x.elem < 2 ^ 32) (sym (get_or-tab s.cells (cell_of (packs s.form) (start s) ws) i blank l)) (elem_small (packs s.form) (start s) ws i h)
    go (no l) = subst (λ (x : Cell). x.elem < 2 ^ 32) (sym (get_or-eq_default (view s ws).cells blank {n = i} (omega (arith, view_cells s ws)))) (omega arith)

-- words before the holders that agree
pub told_same : (f : Form) (ws us : List ℕ) → ((w : ℕ) → w ≢ 1 → w < head f → get_or us w 0 ≡ get_or ws w 0) → holders_told f us ≡ holders_told f ws
told_same Four ws us h = refl
told_same Packed ws us h = refl
told_same Wide ws us h = h 2 (omega arith) (omega arith)

-- where a cell's words stand
four-starts : (f : Form) (h : ℕ) (ws : List ℕ) → packs f ≡ false → holders_told f ws ≡ h → head f + h ≡ 66
four-starts Four h ws e q = omega (arith, q)
four-starts Packed h ws e q = absurd (false≢true (sym e))
four-starts Wide h ws e q = absurd (false≢true (sym e))

pub length_of : (s : Shape) (ws : List ℕ) → Table s ws → (b : Bool) → packs s.form ≡ b → length ws ≡ start s + cells_in b s.cells
length_of s ws t b e = t.sized ∙ ap (λ (x : Bool). start s + cells_in x s.cells) e

module _ (s : Shape) (ws : List ℕ) (t : Table s ws) where
  pub in_two : (c : ℕ) → IsCell s c → packs s.form ≡ true → start s + 2 * (c - 1) + 1 < length ws
  in_two c hc e = omega (arith, length_of s ws t true e, hc.low, hc.high)

  pub at-four : packs s.form ≡ false → start s ≡ 66
  at-four e = four-starts s.form s.holders ws e t.heads

  pub in_four : (c : ℕ) → IsCell s c → packs s.form ≡ false → 66 + 4 * (c - 1) + 3 < length ws
  in_four c hc e = omega (arith, length_of s ws t false e, at-four e, hc.low, hc.high)

  pub read_at : (i k : ℕ) → i < s.cells → k < 4 → cell_word (packs s.form) (start s) k ws i ≡ field k (at (view s ws).cells (suc i))
  unfolding view
  read_at i k l hk = cell-read (packs s.form) (start s) ws i k hk ∙ ap (field k) (sym (get_or-tab s.cells (cell_of (packs s.form) (start s) ws) i blank l))

  pub read : (c k : ℕ) → IsCell s c → k < 4 → (b : Bool) → packs s.form ≡ b → (a : ℕ) → start s ≡ a → cell_word b a k ws (c - 1) ≡ field k (at (view s ws).cells c)
  read zero k hc hk b e a q = absurd (omega (arith, hc.low))
  read (suc i) k hc hk b e a q =
      let z : suc i - 1 ≡ i = omega arith in
      rw z (ap₂ (λ (x : Bool) (y : ℕ). cell_word x y k ws i) (sym e) (sym q)) ∙ read_at i k hc.high hk

  pub view-put : (us : List ℕ) (k i v : ℕ) → Put (packs s.form) (start s) ws us k i v → i < s.cells → view s us ≡ put_field k (suc i) v (view s ws)
  unfolding view
  view-put us k i v u hc =
      let b : Bool = packs s.form in
      let a : ℕ = start s in
      pool-path (u.heads 1 (omega (arith, t.low, t.holds)))
      (tab-same (holder_count s) (λ h. get_or us (head s.form + h) 0) (λ h. get_or ws (head s.form + h) 0) (λ h l. u.heads (head s.form + h) (omega arith)))
      (tab-set s.cells (cell_of b a ws) (cell_of b a us) i hc (λ j l n. cell_same b a ws us j (λ m lm. u.others m j lm n))
      ∙ ap (set (tab s.cells (cell_of b a ws)) i) (cell-put b a ws us k i v u ∙ ap (fitted k v) (sym (get_or-tab s.cells (cell_of b a ws) i blank hc))))

  off-cell : (b : Bool) (a w v : ℕ) → w < a → (k i : ℕ) → cell_word b a k (set ws w v) i ≡ cell_word b a k ws i
  unfolding cell_word
  off-cell false a w v h k i = get_or-set_other ws w (a + 4 * i + k) v 0 (omega arith)
  off-cell true a w v h k i = ap₂ (part k) (get_or-set_other ws w (a + 2 * i) v 0 (omega arith)) (get_or-set_other ws w (a + 2 * i + 1) v 0 (omega arith))

  off : (w v : ℕ) → w < start s → tab s.cells (cell_of (packs s.form) (start s) (set ws w v)) ≡ tab s.cells (cell_of (packs s.form) (start s) ws)
  off w v h =
      let b : Bool = packs s.form in
      tab-same s.cells (cell_of b (start s) (set ws w v)) (cell_of b (start s) ws) (λ i l. cell_same b (start s) ws (set ws w v) i (λ k lk. off-cell b (start s) w v h k i))

  pub read-free : get_or ws 1 0 ≡ (view s ws).free
  unfolding view
  read-free = refl

  pub store_free : (v : ℕ) → view s (set ws 1 v) ≡ put_free v (view s ws)
  unfolding view
  store_free v =
      pool-path (get_or-set_same ws 1 v 0 (omega (arith, t.sized, t.low, t.holds)))
      (tab-same (holder_count s) (λ h. get_or (set ws 1 v) (head s.form + h) 0) (λ h. get_or ws (head s.form + h) 0) (λ h l. get_or-set_other ws 1 (head s.form + h) v 0 (omega (arith, t.low))))
      (off 1 v (omega (arith, t.low, t.holds)))

  pub read-holder : (h : ℕ) → h < holder_count s → get_or ws (head s.form + h) 0 ≡ holder (view s ws) h
  unfolding view
  read-holder h l = sym (get_or-tab (holder_count s) (λ i. get_or ws (head s.form + i) 0) h 0 l)

  pub store_holder : (h v : ℕ) → h < holder_count s → view s (set ws (head s.form + h) v) ≡ put_holder h v (view s ws)
  unfolding view
  store_holder h v l =
      let a : ℕ = head s.form in
      let us : List ℕ = set ws (a + h) v in
      pool-path (get_or-set_other ws (a + h) 1 v 0 (omega (arith, t.low)))
      (tab-set (holder_count s) (λ i. get_or ws (a + i) 0) (λ i. get_or us (a + i) 0) h l (λ i m n. get_or-set_other ws (a + h) (a + i) v 0 (λ q. n (omega arith)))
      ∙ ap (set (tab (holder_count s) (λ i. get_or ws (a + i) 0)) h) (get_or-set_same ws (a + h) v 0 (omega (arith, t.sized))))
      (off (a + h) v (omega arith))

-- a table stands for its own view
pub itself : {s : Shape} {ws : List ℕ} → Table s ws → Shows s ws (view s ws)
itself t = record { table = t; is = refl }

-- what a callee leaves, where what it was lent stands for p
pub after : {s : Shape} {ws us : List ℕ} {p : Pool} (f : Pool → Pool) → Shows s ws p → Shows s us (f (view s ws)) → Shows s us (f p)
after f a b = record { table = b.table; is = b.is ∙ ap f a.is }

-- the same table, its pool said otherwise
pub said : {s : Shape} {ws : List ℕ} {p q : Pool} → Shows s ws p → p ≡ q → Shows s ws q
said a e = record { table = a.table; is = a.is ∙ e }

-- the fields of a cell stored one after another
again : (p : Pool) (c k v : ℕ) (x : Cell) → 0 < c → c ≤ length p.cells → put_field k c v (put_cell c x p) ≡ put_cell c (fitted k v x) p
again p c k v x l h = ap (λ (cs : List Cell). celled cs p) (put-put p.cells c x (fitted k v (at (put p.cells c x) c)) ∙ ap (λ (y : Cell). put p.cells c (fitted k v y)) (put_same p.cells c x l h))

pub all-four : (p : Pool) (c k e n s : ℕ) → 0 < c → c ≤ length p.cells → put_field 3 c s (put_field 2 c n (put_field 1 c e (put_field 0 c k p))) ≡ put_cell c (cell k e n s) p
all-four p c k e n s l h =
    let x : Cell = at p.cells c in
    ap (λ (q : Pool). put_field 3 c s (put_field 2 c n q)) (again p c 1 e (fitted 0 k x) l h) ∙ ap (put_field 3 c s) (again p c 2 n (fitted 1 e (fitted 0 k x)) l h) ∙ again p c 3 s (fitted 2 n (fitted 1 e (fitted 0 k x))) l h
