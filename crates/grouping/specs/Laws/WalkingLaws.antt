-- The walk begins behind the number of the whole list, goes on by a turn while its number fits, and ends with the
-- groups.
use Rattle.std.specs.Prelude.{ℕ, ◌-◌, ◌≤◌, ◌<◌, ◌≡◌, refl, ◌≢◌, List, [], ◌∷◌, ◌++◌, length, drop, replicate}
use Rattle.std.proofs.Common.{sym, ap, subst, ◌∙◌, append-nil, arith, length-append, length-drop, drop-drop}
use Rattle.std.proofs.Math.Seq.{drop-append_seam}
use Rattle.answers.specs.Answers.{DONE, DEEP, OUTPUT}
use Rattle.groups.specs.Groups.{number, list_number, elements, groups_of}
use Rattle.groups.specs.Writing.{Item, item, items_at, items, judged}
use Rattle.walks.specs.declared.walk.Walk.{Walk}
use Rattle.grouping.specs.Items.{bytes_in}
use Rattle.grouping.specs.Steps.{elements_at, list_number_at, MayTurn}
use Rattle.walks.specs.Steps.{walk}
use Rattle.grouping.specs.Walking.{rest, turns_below, Walking, Turned, to_go}
use Rattle.grouping.specs.Laws.ItemLaws.{bytes-append, bytes_one, bytes-elements, judged_front, judged-over, judged_deep}
use Rattle.grouping.specs.Laws.TurnLaws.{list_shallow, list_deep, deeper, list_left}
use Rattle.lists.specs.Lst.{Lst, len}
use Rattle.pool.specs.Operations.{list_at, Stands}
use Rattle.pool.specs.Pool.{Cell, kind_of, elem_of}
use Rattle.table.specs.declared.Shape.{Shape}
use Rattle.table.specs.View.{IsCell}
use Rattle.text.specs.Limits.{levels, text_most}
use Rattle.walks.specs.Laws.LevelLaws.{ahead, begin-levels, in_pool, span_of}

module _ (cs : List Cell) (x : ℕ) (h : Stands cs x) where
  abbrev whole : Lst
  whole = list_at cs x

  abbrev first : Item
  first = item (list_number whole) 0

  -- the number of the whole list is that of its main level
  pub its_number : list_number_at cs x ≡ list_number whole
  its_number = omega (arith, (span_of cs x whole (ahead cs x h)).0)

  first-size : (k : ℕ) → k ≡ length (number (list_number_at cs x)) → k ≡ length (bytes_in (first ∷ []))
  first-size k e = e ∙ ap (λ (v : ℕ). length (number v)) its_number ∙ sym (ap length (bytes_one first))

  pub no_room : (k u : ℕ) → k ≡ length (number (list_number_at cs x)) → u < k → judged u (items whole) ≡ OUTPUT
  no_room k u e l = judged-over (first ∷ []) (items_at 1 whole) u (list_shallow (len whole) 0 (omega arith), tt) (omega (arith, first-size k e))

  pub begins : (k u : ℕ) (w : Walk) → k ≡ length (number (list_number_at cs x)) → k ≤ u → w ≡ walk x 1 k → Walking cs whole u (replicate levels 0) w (whole ∷ [])
  begins k u w e l q =
      let n : k ≡ length (number (list_number whole)) = e ∙ ap (λ (v : ℕ). length (number v)) its_number in
      let end : items_at 1 whole ++ [] ≡ items_at 1 whole = append-nil (items_at 1 whole) in
      subst (λ (a : Walk). Walking cs whole u (replicate levels 0) a (whole ∷ [])) (sym q) (record {
        stands = begin-levels cs x h;
        is = ap (λ (j : ℕ). drop j (groups_of whole)) n ∙ drop-append_seam (number (list_number whole)) (elements whole)
            ∙ sym (bytes-elements whole 1) ∙ ap bytes_in (sym end);
        within = omega (arith, length-append (number (list_number whole)) (elements whole));
        short = l;
        judges = judged_front (first ∷ []) (items_at 1 whole) u (list_shallow (len whole) 0 (omega arith), tt) (omega (arith, first-size k e))
            ∙ ap (λ (j : ℕ). judged (u - j) (items_at 1 whole)) (sym (first-size k e)) ∙ ap (judged (u - k)) (sym end);
      })

module _ (cs : List Cell) (l : Lst) (u : ℕ) (after : List ℕ) (w : Walk) (opened : List Lst) (g : Walking cs l u after w opened) (some : 1 ≤ w.depth) where
  module _ (next : List ℕ) (r : Walk) (is : List Item) (d : Turned cs opened next w r is) where
    -- the bytes from the walk's place on
    pub onward : drop w.size (groups_of l) ≡ bytes_in is ++ bytes_in (rest d.left)
    onward = g.is ∙ ap bytes_in d.numbers ∙ bytes-append is (rest d.left)

    came : judged u (items l) ≡ judged (u - w.size) (is ++ rest d.left)
    came = g.judges ∙ ap (judged (u - w.size)) d.numbers

    pub inside : r.size ≤ length (groups_of l)
    inside = omega (arith, d.size, g.within, ap length onward, length-drop w.size (groups_of l), length-append (bytes_in is) (bytes_in (rest d.left)))

    pub goes_on_lem : r.size ≤ u → Walking cs l u next r d.left
    goes_on_lem fits =
        let n : ℕ = length (bytes_in is) in
        let k : u - w.size - n ≡ u - r.size = omega (arith, d.size) in
        record {
          stands = d.stands;
          is = ap (λ (j : ℕ). drop j (groups_of l)) d.size ∙ sym (drop-drop n w.size (groups_of l)) ∙ ap (drop n) onward
              ∙ drop-append_seam (bytes_in is) (bytes_in (rest d.left));
          within = inside;
          short = fits;
          judges = came ∙ judged_front is (rest d.left) (u - w.size) d.shallow (omega (arith, d.size)) ∙ ap (λ (j : ℕ). judged j (rest d.left)) k;
        }

    pub overflows : u < r.size → judged u (items l) ≡ OUTPUT
    overflows h = came ∙ judged-over is (rest d.left) (u - w.size) d.shallow (omega (arith, d.size, g.short))

    -- a turn leaves less to go
    pub less : (v : ℕ) → r.size ≤ v → to_go v r < to_go v w
    less v h = omega (arith, d.size, d.falls)

  pub too_deep_lem : w.at ≢ 0 → kind_of cs w.at ≢ 0 → levels ≤ w.depth → judged u (items l) ≡ DEEP
  too_deep_lem n k h =
      g.judges ∙ ap (judged (u - w.size)) (deeper cs after w opened g.stands some n k)
      ∙ judged_deep _ _ (u - w.size) (list_deep (elements_at cs (elem_of cs w.at)) w.depth h)

  pub at-cell : (s : Shape) → length cs ≡ s.cells → w.at ≢ 0 → IsCell s w.at
  at-cell s m n =
      let q = in_pool cs after w.at w.depth opened g.stands some n in
      record { low = q.0; high = omega (arith, q.1, m) }

  pub may_turn : (s : Shape) → length cs ≡ s.cells → u ≤ text_most → (w.at ≢ 0 → kind_of cs w.at ≢ 0 → w.depth < levels) → MayTurn s cs w
  may_turn s m h room = record {
    some = some;
    low = g.stands.low;
    short = omega (arith, g.short);
    cell = at-cell s m;
    room = room;
    list = list_left cs after w opened g.stands some;
  }

-- no level is open any more
pub ended : (cs : List Cell) (l : Lst) (u : ℕ) (after : List ℕ) (w : Walk) (opened : List Lst) → Walking cs l u after w opened → w.depth ≡ 0
    → (w.size ≡ length (groups_of l)) × (judged u (items l) ≡ DONE) × (turns_below opened ≡ 0)
unfolding bytes_in judged
ended cs l u after w [] g e = (omega (arith, ap length g.is, length-drop w.size (groups_of l), g.within), g.judges, refl)
ended cs l u after w (k ∷ ks) g e = absurd (omega (arith, g.stands.deep))
