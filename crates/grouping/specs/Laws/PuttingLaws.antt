-- Writing begins with the number of the whole list, goes on with the number of a turn, for which there is room, and
-- ends with the groups before the old bytes.
use Rattle.std.specs.Prelude.{ℕ, ◌+◌, ◌-◌, ◌≤◌, ◌<◌, ◌≡◌, refl, ◌≢◌, List, [], ◌∷◌, ◌++◌, leb, length, take, drop, replicate}
use Rattle.std.proofs.Common.{sym, ap, subst, ◌∙◌, arith, length-append, length-take-le, take_at, take-add, drop-drop, leb-true, leb-false}
use Rattle.std.proofs.Math.Seq.{paste, take-length, take-append_seam, drop-append-add}
use Rattle.std.proofs.lemmas.List.Edits.{length-paste, drop-paste}
use Rattle.answers.specs.Answers.{DONE}
use Rattle.calls.specs.Entry.{over}
use Rattle.groups.specs.Groups.{number, list_number, elements, groups_of}
use Rattle.groups.specs.Writing.{Item, items, judged}
use Rattle.walks.specs.declared.walk.Walk.{Walk}
use Rattle.grouping.specs.Items.{bytes_in}
use Rattle.grouping.specs.Putting.{Roomy, Putting}
use Rattle.grouping.specs.Steps.{Turn, passes, opens}
use Rattle.walks.specs.Steps.{walk}
use Rattle.grouping.specs.Walking.{rest, to_go}
use Rattle.grouping.specs.Laws.ItemLaws.{groups_fit}
use Rattle.grouping.specs.Laws.TurnLaws.{turned}
use Rattle.grouping.specs.Laws.WalkingLaws.{its_number, begins, onward, inside, goes_on_lem, less, too_deep_lem, ended}
use Rattle.lists.specs.Lst.{Lst}
use Rattle.pool.specs.Operations.{list_at, Stands}
use Rattle.pool.specs.Pool.{Cell, kind_of}
use Rattle.text.specs.Limits.{levels}
use Rattle.text.specs.Laws.TextLaws.{decide}

-- the next bytes of t put behind the first k
put-more : (t old bs later : List ℕ) (k : ℕ) → k ≤ length t → k ≤ length old → drop k t ≡ bs ++ later
    → paste (take k t ++ drop k old) k bs (length bs) ≡ take (k + length bs) t ++ drop (k + length bs) old
put-more t old bs later k l h e =
    let n : ℕ = length bs in
    let size : length (take k t) ≡ k = length-take-le k t l in
    let front : take k (take k t ++ drop k old) ≡ take k t = take_at (take k t) (drop k old) k size in
    let behind : drop (k + n) (take k t ++ drop k old) ≡ drop (k + n) old
    = ap (λ (j : ℕ). drop (j + n) (take k t ++ drop k old)) (sym size) ∙ drop-append-add (take k t) (drop k old) n ∙ drop-drop n k old in
    let more : take (k + n) t ≡ take k t ++ bs
    = take-add k n t ∙ ap (λ (b : List ℕ). take k t ++ b) (ap (take n) e ∙ take-append_seam bs later) in
    ap (λ (a : List ℕ). (a ++ take n bs) ++ drop (k + n) (take k t ++ drop k old)) front
    ∙ ap (λ (a : List ℕ). (take k t ++ a) ++ drop (k + n) (take k t ++ drop k old)) (take-length bs)
    ∙ ap (λ (a : List ℕ). (take k t ++ bs) ++ a) behind
    ∙ ap (λ (a : List ℕ). a ++ drop (k + n) old) (sym more)

-- the first number, at the front
module _ (cs : List Cell) (x k v : ℕ) (xs out : List ℕ) (h : Stands cs x) (e : v ≡ list_number (list_at cs x)) (n : k ≡ length (number v)) (within : k ≤ length xs)
    (p : out ≡ paste xs 0 (number v) (length (number v))) where
  -- behind it the output is as it was
  pub put-behind : (m : ℕ) → k ≤ m → drop m out ≡ drop m xs
  put-behind m l =
      let j : ℕ = length (number v) in
      let q : 0 + j + (m - j) ≡ m = omega arith in
      ap (drop m) p ∙ ap (λ (i : ℕ). drop i (paste xs 0 (number v) j)) (sym q) ∙ sym (drop-drop (m - j) (0 + j) (paste xs 0 (number v) j))
      ∙ ap (drop (m - j)) (drop-paste xs 0 (number v) j (omega arith) (omega arith)) ∙ drop-drop (m - j) (0 + j) xs ∙ ap (λ (i : ℕ). drop i xs) q

  pub put-begins : (u : ℕ) (w : Walk) → judged u (items (list_at cs x)) ≡ DONE → w ≡ walk x 1 k → Putting cs (list_at cs x) u out out (replicate levels 0) w
  put-begins u w f q =
      let l : Lst = list_at cs x in
      let fits : k ≤ u = omega (arith, groups_fit l u f, ap (λ (j : ℕ). length (number j)) e, length-append (number (list_number l)) (elements l)) in
      let front : 0 + length (number v) ≡ k = omega arith in
      let made : out ≡ take k (groups_of l) ++ drop k out
      = p ∙ put-more (number v ++ elements l) xs (number v) (elements l) 0 (omega arith) (omega arith) refl
      ∙ ap (λ (j : ℕ). take j (number v ++ elements l) ++ drop j xs) front
      ∙ ap (λ (j : ℕ). take k (number j ++ elements l) ++ drop k xs) e
      ∙ ap (λ (a : List ℕ). take k (groups_of l) ++ a) (sym (put-behind k (omega arith))) in
      record {
        opened = l ∷ [];
        walks = begins cs x h k u w (n ∙ ap (λ (j : ℕ). length (number j)) (e ∙ sym (its_number cs x h))) fits q;
        room = refl;
        put = subst (λ (j : Walk). out ≡ take j.size (groups_of l) ++ drop j.size out) (sym q) made;
      }

module _ (cs : List Cell) (l : Lst) (u : ℕ) (old out after : List ℕ) (w : Walk) (g : Putting cs l u old out after w) (some : 1 ≤ w.depth) (f : judged u (items l) ≡ DONE) where
  -- the level of a list is allowed, as all numbers are judged
  pub shallow : w.at ≢ 0 → kind_of cs w.at ≢ 0 → w.depth < levels
  shallow n k =
      decide (leb levels w.depth) (w.depth < levels)
      (λ q. absurd (omega (arith, f, too_deep_lem cs l u after w g.opened g.walks some n k (leb-true levels w.depth q))))
      (λ q. leb-false levels w.depth q)

  pub roomy : (room : ℕ) → u ≤ room → Roomy cs w room
  roomy room h = record {
    passes = λ n k. omega (arith, ends after _ _ (passes n k refl refl));
    opens = λ n k. omega (arith, ends _ _ _ (opens n k refl refl));
  }
    where
      ends : (next : List ℕ) (r : Walk) (is : List Item) → Turn cs after w next r is → r.size ≤ u
      ends next r is t =
          let d = turned cs after w g.opened g.walks.stands some next r is shallow t in
          omega (arith, inside cs l u after w g.opened g.walks some next r is d, groups_fit l u f)

  pub put_on : u ≤ length old → (next : List ℕ) (r : Walk) (is : List Item) (new : List ℕ) → Turn cs after w next r is
      → new ≡ paste out w.size (bytes_in is) (length (bytes_in is))
      → Putting cs l u old new next r × (to_go (length (groups_of l)) r < to_go (length (groups_of l)) w)
  put_on h next r is new t p =
      let d = turned cs after w g.opened g.walks.stands some next r is shallow t in
      let in_time : r.size ≤ length (groups_of l) = inside cs l u after w g.opened g.walks some next r is d in
      let fits : r.size ≤ u = omega (arith, groups_fit l u f) in (
        record {
          opened = d.left;
          walks = goes_on_lem cs l u after w g.opened g.walks some next r is d fits;
          room = ap length p ∙ length-paste out w.size (bytes_in is) (length (bytes_in is)) (omega (arith, d.size, g.room)) (omega arith) ∙ g.room;
          put = p ∙ ap (λ (b : List ℕ). paste b w.size (bytes_in is) (length (bytes_in is))) g.put
              ∙ put-more (groups_of l) old (bytes_in is) (bytes_in (rest d.left)) w.size g.walks.within (omega (arith, g.walks.short))
              (onward cs l u after w g.opened g.walks some next r is d)
              ∙ ap (λ (k : ℕ). take k (groups_of l) ++ drop k old) (sym d.size);
        },
        less cs l u after w g.opened g.walks some next r is d (length (groups_of l)) in_time,
      )

pub put_ends : (cs : List Cell) (l : Lst) (u : ℕ) (xs old out after : List ℕ) (w : Walk) → Putting cs l u old out after w → w.depth ≡ 0
    → drop (length (groups_of l)) old ≡ drop (length (groups_of l)) xs → out ≡ over (groups_of l) xs
put_ends cs l u xs old out after w g z e =
    let q : w.size ≡ length (groups_of l) = (ended cs l u after w g.opened g.walks z).0 in
    g.put ∙ ap (λ (k : ℕ). take k (groups_of l) ++ drop k old) q ∙ ap (λ (a : List ℕ). a ++ drop (length (groups_of l)) old) (take-length (groups_of l))
    ∙ ap (λ (a : List ℕ). groups_of l ++ a) e
