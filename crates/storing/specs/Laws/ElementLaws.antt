-- The reader of an element, return by return: an even number is an atom, an odd one begins a list.
use Rattle.std.specs.Prelude.{◌≡◌, Some, IsSome, List, [], ◌∷◌, ◌++◌, false, ℕ, ◌/◌, ◌%◌, ◌^◌, ◌<◌, length}
use Rattle.std.proofs.Common.{sym, ap, subst, ◌∙◌, arith}
use Rattle.building.specs.Hooks.{hook_cell}
use Rattle.building.specs.Underway.{Coming, Comes, BeginsList, AddsAtom}
use Rattle.building.specs.Laws.StepLaws.{and_then, comes_then, first_comes}
use Rattle.building.specs.declared.hook.Hook.{Hook}
use Rattle.building.specs.declared.hook.Hook.TheVariants.{Next}
use Rattle.groups.specs.Groups.{elements}
use Rattle.lists.specs.Lst.{Lst}
use Rattle.numbers.specs.Numbers.{number_in}
use Rattle.numbers.specs.declared.Number.{Number}
use Rattle.table.specs.declared.Shape.{Shape}
use Rattle.table.specs.View.{view}
use Rattle.text.specs.Marks.{Mark, opened, value, marks_of}
use Rattle.text.specs.Laws.MarkLaws.{with_open}
use Rattle.storing.specs.Ahead.{after, AtomAhead, ListAhead}
use Rattle.storing.specs.Readers.{Due, DueElement, Gone, ReadsElement, ReadsList}
use Rattle.storing.specs.Laws.AheadLaws.{some_ahead, atom_ahead, list_ahead}
use Rattle.storing.specs.Laws.PassLaws.{front_comes, steps-passed}

-- the marks of what lies ahead
atom-marks : {s : List ℕ} {at : ℕ} {l : Lst} {later : List ℕ} {n : Number} (a : AtomAhead s at l later n)
    → marks_of false l ≡ value (n.value / 2) ∷ marks_of false a.rest
atom-marks {n = n} a =
    let half : a.atom-value ≡ n.value / 2 = omega (arith, a.number) in
    ap (marks_of false) a.is ∙ ap (λ (v : ℕ). value v ∷ marks_of false a.rest) half

list_marks : {s : List ℕ} {at : ℕ} {l : Lst} {later : List ℕ} {n : Number} (a : ListAhead s at l later n)
    → marks_of false l ≡ (opened ∷ marks_of false a.inside) ++ marks_of false a.rest
list_marks a =
    ap (marks_of false) a.is ∙ ap (λ (ms : List Mark). ms ++ marks_of false a.rest) (with_open a.inside)

pub due-number : {s : Shape} {h : ℕ} {bytes : List ℕ} {at : ℕ} {ts : List ℕ} {k : Hook} → DueElement s ts h bytes at k
    → IsSome (number_in bytes at)
due-number d = some_ahead d.2.rest d.2.ahead (omega (arith, d.1, d.2.count))

module _ {s : Shape} {h : ℕ} {bytes : List ℕ} {at : ℕ} {n : Number} (e : Some n ≡ number_in bytes at)
    {ts : List ℕ} {k : Hook} where
  -- an atom
  module _ (even : n.value % 2 ≡ 0) where
    due_atom : (d : DueElement s ts h bytes at k) → AtomAhead bytes at d.2.rest d.2.later n
    due_atom d = atom_ahead e d.2.rest d.2.ahead (omega (arith, d.1, d.2.count)) even

    pub atom_small : DueElement s ts h bytes at k → n.value / 2 < 2 ^ 32
    atom_small d = let a = due_atom d in omega (arith, a.number, a.small)

    pub atom_comes : DueElement s ts h bytes at k → Comes (view s ts) h k (value (n.value / 2) ∷ [])
    atom_comes d =
        let (cs, c) = d.2.comes in
        first_comes (subst (Coming (view s ts) h k cs) (atom-marks (due_atom d)) c)

    pub atom-read : {us : List ℕ} {j : Hook} → AddsAtom (n.value / 2) s h ts k us j
        → ReadsElement s h bytes ts at k us (record { at = n.end; hook = j })
    atom-read {us} {j} b l later ahead some =
        let a = atom_ahead e l ahead some even in
        subst (Gone s h bytes later ts at k l us (record { at = n.end; hook = j })) (sym (ap after a.is))
        record {
          on = omega (arith, a.on);
          ahead = a.ahead;
          passes = steps-passed l a.rest (value (n.value / 2) ∷ []) b (atom-marks a);
        }

  -- a list
  module _ (odd : n.value % 2 ≡ 0 → ⊥) where
    due_list : (d : DueElement s ts h bytes at k) → ListAhead bytes at d.2.rest d.2.later n
    due_list d = list_ahead e d.2.rest d.2.ahead (omega (arith, d.1, d.2.count)) odd

    pub list_on : DueElement s ts h bytes at k → (at < n.end) × (at < length bytes)
    list_on d = ((due_list d).on, (due_list d).within)

    pub list_comes : DueElement s ts h bytes at k → Comes (view s ts) h k (opened ∷ [])
    list_comes d =
        let (cs, c) = d.2.comes in
        first_comes (subst (Coming (view s ts) h k cs) (list_marks (due_list d)) c)

    module _ {us : List ℕ} {j : Hook} (b : BeginsList s h ts k us j) where
      pub inside_due : DueElement s ts h bytes at k → Due s us h bytes n.end (n.value / 2) j
      inside_due d =
          let a = due_list d in
          let (cs, c) = d.2.comes in
          let begun = comes_then {ms = opened ∷ []} (subst (Coming (view s ts) h k cs) (list_marks a) c) (b cs) in
          record {
            rest = a.inside;
            later = elements a.rest ++ d.2.later;
            ahead = a.ahead;
            count = omega (arith, a.number);
            comes = (hook_cell j ∷ cs, front_comes (marks_of false a.inside) (marks_of false a.rest) begun);
          }

      pub list_read : {vs : List ℕ} {end c : ℕ} → c ≡ hook_cell j → ReadsList s h bytes us n.end (n.value / 2) j vs end
          → ReadsElement s h bytes ts at k vs (record { at = end; hook = Next c })
      list_read {vs} {end} {c} cell inner l later ahead some =
          let a = list_ahead e l ahead some odd in
          let w = inner a.inside (elements a.rest ++ later) a.ahead (omega (arith, a.number)) in
          rw cell
          (subst (Gone s h bytes later ts at k l vs (record { at = end; hook = Next (hook_cell j) }))
          (sym (ap after a.is))
          record {
            on = omega (arith, a.on, w.on);
            ahead = a.behind end w.behind;
            passes =
                steps-passed l a.rest (opened ∷ marks_of false a.inside) (λ cs. and_then (b cs) (w.steps cs))
                (list_marks a);
          })
