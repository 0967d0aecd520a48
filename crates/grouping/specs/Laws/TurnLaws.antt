-- What a turn does to the numbers that are to come: it takes its own off the front of them.
use Rattle.std.specs.Prelude.{ℕ, suc, ◌+◌, ◌*◌, ◌%◌, ◌≤◌, ◌<◌, ◌≡◌, refl, ◌≢◌, true, false, List, [], ◌∷◌, ◌++◌}
use Rattle.std.proofs.Common.{sym, subst, ◌∙◌, append_assoc, add-one, eq-eqb, ne_eqb, le-leb}
use Rattle.std.proofs.Math.Path.{ap}
use native.Mathlib.Omega.{arith}
use Rattle.std.proofs.Math.ListN.{length}
use Rattle.std.proofs.lemmas.Bool.{lt-leb}
use Rattle.groups.specs.Groups.{number, atom_number, list_number}
use Rattle.groups.specs.Writing.{Item, item, items_at, too_deep}
use Rattle.groups.specs.Laws.Sizes.{number_size}
use Rattle.walks.specs.declared.walk.Walk.{Walk}
use Rattle.grouping.specs.Items.{bytes_in}
use Rattle.grouping.specs.Steps.{elements_at, bottom, atom_in, list_in, ending, Turn, shuts, passes, opens}
use Rattle.walks.specs.Steps.{shut_at, pass_at, open_at, kept_at}
use Rattle.grouping.specs.Walking.{rest, turns_below, Turned}
use Rattle.grouping.specs.Laws.ItemLaws.{bytes_one}
use Rattle.lists.specs.Lst.{Lst, nil, atom, list, len}
use Rattle.pool.specs.Pool.{Cell, kind_of, elem_of}
use Rattle.pool.specs.Laws.Level.{Left}
use Rattle.text.specs.Limits.{levels}
use Rattle.walks.specs.Levels.{Levels}
use Rattle.walks.specs.Laws.LevelLaws.{shut_level, pass_level, open_level, left_of, span_of}

-- an atom's number opens no level, and a list's opens one
atom_shallow : (v d : ℕ) → too_deep (item (atom_number v) d) ≡ false
atom_shallow v d = rw (ne_eqb (2 * v % 2) 1 (λ e. omega arith))

pub list_shallow : (n d : ℕ) → d < levels → too_deep (item (2 * n + 1) d) ≡ false
list_shallow n d h = rw (eq-eqb ((2 * n + 1) % 2) 1 (omega arith), lt-leb levels d h)

pub list_deep : (n d : ℕ) → levels ≤ d → too_deep (item (2 * n + 1) d) ≡ true
list_deep n d h = rw (eq-eqb ((2 * n + 1) % 2) 1 (omega arith), le-leb levels d h)

-- the bytes of one number
one_size : (v d : ℕ) → (length (bytes_in (item v d ∷ [])) ≡ length (number v)) × (1 ≤ length (number v))
one_size v d = (ap length (bytes_one (item v d)), (number_size v).0)

-- the numbers of the levels before a turn
atom-first : (v : ℕ) (k : Lst) (ls : List Lst) → rest (atom v k ∷ ls) ≡ item (atom_number v) (suc (length ls)) ∷ rest (k ∷ ls)
unfolding items_at
atom-first v k ls = refl

list_first : (m k : Lst) (ls : List Lst) → rest (list m k ∷ ls) ≡ item (list_number m) (suc (length ls)) ∷ rest (m ∷ (k ∷ ls))
unfolding items_at
list_first m k ls =
    let d : ℕ = suc (length ls) in
    ap (λ (t : List Item). item (list_number m) d ∷ t)
    (append_assoc (items_at (d + 1) m) (items_at d k) (rest ls) ∙ ap (λ (n : ℕ). items_at n m ++ rest (k ∷ ls)) (add-one d))

-- the turns on the outermost level
inner-turn : (w : Walk) → 2 ≤ w.depth → bottom w ≡ 0
inner-turn w h = rw (ne_eqb w.depth 1 (λ e. omega arith))

outer_turn : (w : Walk) → w.depth ≡ 1 → bottom w ≡ 1
outer_turn w h = rw (eq-eqb w.depth 1 h)

shut_below : (w : Walk) (ls : List Lst) → suc (length ls) ≡ w.depth → turns_below (nil ∷ ls) ≡ bottom w + turns_below ls
unfolding len
shut_below w [] e = omega (arith, outer_turn w (sym e))
shut_below w (k ∷ ls) e = omega (arith, inner-turn w (omega arith))

atom-below : (w : Walk) (v : ℕ) (k : Lst) (ls : List Lst) → suc (length ls) ≡ w.depth → turns_below (atom v k ∷ ls) ≡ bottom w + turns_below (k ∷ ls)
unfolding len
atom-below w v k [] e = omega (arith, outer_turn w (sym e))
atom-below w v k (a ∷ ls) e = omega (arith, inner-turn w (omega arith))

list_below : (w : Walk) (m k : Lst) (ls : List Lst) → suc (length ls) ≡ w.depth → turns_below (list m k ∷ ls) ≡ bottom w + turns_below (m ∷ (k ∷ ls))
unfolding len
list_below w m k [] e = omega (arith, outer_turn w (sym e))
list_below w m k (a ∷ ls) e = omega (arith, inner-turn w (omega arith))

module _ (cs : List Cell) (after : List ℕ) (w : Walk) (opened : List Lst) (g : Levels cs after w.at w.depth opened) (some : 1 ≤ w.depth) where
  shut_turned : w.at ≡ 0 → Turned cs opened after w (shut_at after w) []
  unfolding items_at bytes_in
  shut_turned z =
      let s = shut_level cs after w.at w.depth opened g some z in
      record { left = s.outer; stands = s.now; size = omega arith; numbers = ap rest s.was; shallow = tt; below = ap turns_below s.was ∙ shut_below w s.outer (sym (ap length s.was) ∙ g.deep); falls = omega arith }

  pass_turned : w.at ≢ 0 → kind_of cs w.at ≡ 0
      → Turned cs opened after w (pass_at cs w (ending w (atom_in cs w.at))) (item (atom_in cs w.at) w.depth ∷ [])
  pass_turned n k =
      let s = pass_level cs after w.at w.depth opened g some n k in
      let v : ℕ = elem_of cs w.at in
      let one = one_size (atom_in cs w.at) w.depth in
      record {
        left = s.more ∷ s.outer;
        stands = s.now;
        size = omega arith;
        numbers = ap rest s.was ∙ atom-first v s.more s.outer
            ∙ ap (λ (d : ℕ). item (atom_number v) d ∷ rest (s.more ∷ s.outer)) s.now.deep;
        shallow = (atom_shallow v w.depth, tt);
        below = ap turns_below s.was ∙ atom-below w v s.more s.outer s.now.deep;
        falls = omega arith;
      }

  -- the list that the cell at hand has for its element
  pub deeper : (n : w.at ≢ 0) (k : kind_of cs w.at ≢ 0) →
      let s = open_level cs after w.at w.depth opened g some n k in
      rest opened ≡ item (list_in cs w.at) w.depth ∷ rest (s.inner ∷ (s.more ∷ s.outer))
  deeper n k =
      let s = open_level cs after w.at w.depth opened g some n k in
      let tail : List Item = rest (s.inner ∷ (s.more ∷ s.outer)) in
      let e : suc (length s.outer) ≡ w.depth = sym (ap length s.was) ∙ g.deep in
      let m : list_number s.inner ≡ list_in cs w.at = omega (arith, (span_of cs (elem_of cs w.at) s.inner s.there).0) in
      ap rest s.was ∙ list_first s.inner s.more s.outer
      ∙ ap (λ (d : ℕ). item (list_number s.inner) d ∷ tail) e
      ∙ ap (λ (v : ℕ). item v w.depth ∷ tail) m

  pub list_left : w.at ≢ 0 → kind_of cs w.at ≢ 0 → Left cs (elem_of cs w.at)
  list_left n k = let s = open_level cs after w.at w.depth opened g some n k in left_of cs (elem_of cs w.at) s.inner s.there

  open_turned : w.at ≢ 0 → kind_of cs w.at ≢ 0 → w.depth < levels
      → Turned cs opened (kept_at cs after w) w (open_at cs w (ending w (list_in cs w.at))) (item (list_in cs w.at) w.depth ∷ [])
  open_turned n k r =
      let s = open_level cs after w.at w.depth opened g some n k in
      let one = one_size (list_in cs w.at) w.depth in
      record {
        left = s.inner ∷ (s.more ∷ s.outer);
        stands = s.now r;
        size = omega arith;
        numbers = deeper n k;
        shallow = (list_shallow (elements_at cs (elem_of cs w.at)) w.depth r, tt);
        below = ap turns_below s.was ∙ list_below w s.inner s.more s.outer (sym (ap length s.was) ∙ g.deep);
        falls = omega arith;
      }

  pub turned : (next : List ℕ) (r : Walk) (is : List Item) → (w.at ≢ 0 → kind_of cs w.at ≢ 0 → w.depth < levels) → Turn cs after w next r is
      → Turned cs opened next w r is
  turned next r is room (shuts z e n) =
      subst (λ (a : List ℕ). Turned cs opened a w r []) (sym n) (subst (λ (q : Walk). Turned cs opened after w q []) (sym e) (shut_turned z))
  turned next r is room (passes z k e n) =
      let one : List Item = item (atom_in cs w.at) w.depth ∷ [] in
      subst (λ (a : List ℕ). Turned cs opened a w r one) (sym n)
      (subst (λ (q : Walk). Turned cs opened after w q one) (sym e) (pass_turned z k))
  turned next r is room (opens z k e n) =
      let one : List Item = item (list_in cs w.at) w.depth ∷ [] in
      subst (λ (a : List ℕ). Turned cs opened a w r one) (sym n)
      (subst (λ (q : Walk). Turned cs opened (kept_at cs after w) w q one) (sym e) (open_turned z k (room z k)))
