-- What stands between two places of a text is read: a list begins, an atom and the ends of lists, or the ends of lists alone.
use Rattle.std.specs.Prelude.{◌≡◌, refl, List, [], ◌∷◌, ℕ, suc, ◌-◌, ◌≤◌, ◌<◌, length, set}
use Rattle.std.proofs.Common.{sym, ap, subst, ◌∙◌, arith, lt-ltb, le-ltb, length-set}
use Rattle.building.specs.Hooks.{hook_cell}
use Rattle.building.specs.Underway.{Coming, Comes, Steps, BeginsList, AddsAtom}
use Rattle.building.specs.Laws.StepLaws.{and_then, comes_then, first_comes}
use Rattle.building.specs.declared.hook.Hook.{Hook}
use Rattle.scan.specs.Places.{shuts, passed}
use Rattle.scan.specs.declared.step.Place.{Place}
use Rattle.table.specs.declared.Shape.{Shape}
use Rattle.table.specs.View.{view}
use Rattle.text.specs.Marks.{Mark, opened, value}
use Rattle.reading.specs.Adding.{stack, ShutTo, Adding, Added}
use Rattle.reading.specs.Laws.StackLaws.{stack_push}

module _ {s : Shape} {ts : List ℕ} {h : ℕ} {k : Hook} {xs : List ℕ} {p q : Place} {v : ℕ} (a : Adding s ts h k xs p q v) where
  -- the marks by the tests of the code
  module _ {ms : List Mark} (e : passed v p q ≡ ms) where
    coming : Coming (view s ts) h k (stack xs p.depth) ms
    coming = subst (Coming (view s ts) h k (stack xs p.depth)) e a.coming

    added : {us : List ℕ} {j : Hook} {ys : List ℕ} → length ys ≡ length xs → Steps s h ts k (stack xs p.depth) ms us j (stack ys q.depth)
        → Added s ts h k xs p q v us j ys
    added {us} {j} {ys} n st = record {
      long = n ∙ a.long;
      steps = subst (λ (es : List Mark). Steps s h ts k (stack xs p.depth) es us j (stack ys q.depth)) (sym e) st;
    }

  -- a list begins
  module _ (up : p.depth < q.depth) where
    opens : passed v p q ≡ opened ∷ []
    opens = simp (lt-ltb p.depth q.depth up)

    pub list_comes : Comes (view s ts) h k (opened ∷ [])
    list_comes = first_comes (coming opens)

    pub list_added : {us : List ℕ} {j : Hook} {c : ℕ} → c ≡ hook_cell j → BeginsList s h ts k us j → Added s ts h k xs p q v us j (set xs p.depth c)
    list_added {us} {j} {c} e b =
        let one : suc p.depth ≡ q.depth = omega (arith, a.high) in
        let top : hook_cell j ∷ stack xs p.depth ≡ stack (set xs p.depth c) q.depth =
        ap (λ (x : ℕ). x ∷ stack xs p.depth) (sym e) ∙ stack_push xs p.depth c (omega (arith, a.top, a.long)) ∙ ap (stack (set xs p.depth c)) one in
        added opens (length-set xs p.depth c)
        (subst (Steps s h ts k (stack xs p.depth) (opened ∷ []) us j) top (b (stack xs p.depth)))

  module _ (down : q.depth ≤ p.depth) where
    -- an atom, and the ends of lists
    module _ (more : p.elements < q.elements) where
      values : passed v p q ≡ value v ∷ shuts (p.depth - q.depth)
      values = simp (le-ltb p.depth q.depth down, lt-ltb p.elements q.elements more)

      pub atom_comes : Comes (view s ts) h k (value v ∷ [])
      atom_comes = first_comes (coming values)

      module _ {us : List ℕ} {j : Hook} (b : AddsAtom v s h ts k us j) where
        pub ends_come : Coming (view s us) h j (stack xs p.depth) (shuts (p.depth - q.depth))
        ends_come = comes_then (coming values) (b (stack xs p.depth))

        pub atom_added : {ws : List ℕ} {i : Hook} → ShutTo s h us j xs p.depth q.depth ws i → Added s ts h k xs p q v ws i xs
        atom_added st = added values refl (and_then (b (stack xs p.depth)) st)

    -- the ends of lists alone
    module _ (none : q.elements ≤ p.elements) where
      ends : passed v p q ≡ shuts (p.depth - q.depth)
      ends = simp (le-ltb p.depth q.depth down, le-ltb p.elements q.elements none)

      pub ends_alone : Coming (view s ts) h k (stack xs p.depth) (shuts (p.depth - q.depth))
      ends_alone = coming ends

      pub ends_added : {ws : List ℕ} {i : Hook} → ShutTo s h ts k xs p.depth q.depth ws i → Added s ts h k xs p q v ws i xs
      ends_added st = added ends refl st
