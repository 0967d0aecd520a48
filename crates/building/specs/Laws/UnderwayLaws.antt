-- Each mark that comes keeps what holds between two marks, and the last ")" reaches the pool that is aimed at.
use Rattle.std.specs.Prelude.{◌≡◌, refl, ◌≢◌, ℕ, length}
use Rattle.std.proofs.Common.{sym, arith, ◌∙◌}
use Rattle.std.proofs.Math.Path.{ap, subst}
use mathlib.Core.List.{List, [], ◌∷◌}
use Rattle.lists.specs.Lst.{Lst, nil, atom, list}
use Rattle.pool.specs.Pool.{Pool}
use Rattle.text.specs.Marks.{Mark, opened, shut, value}
use Rattle.building.specs.Build.{Open, Link, in_next}
use Rattle.building.specs.Hooks.{link_of, InTable, open_cells}
use Rattle.building.specs.Reading.{hang, hang_new, OpenOff, Reading}
use Rattle.building.specs.Underway.{marks_after, Underway, LeadsTo}
use Rattle.building.specs.Laws.HookLaws.{is_next, hook_in_table}
use Rattle.building.specs.Laws.MarksLeft.{opened-first, value-first, shut_first}
use Rattle.building.specs.Laws.ReadingLaws.{Fresh, fresh-atom, fresh_list, step-atom, step_open, step_shut, step_end}
use Rattle.building.specs.declared.hook.Hook.{Hook}
use Rattle.building.specs.declared.hook.Hook.TheVariants.{Next, Elem}
use Rattle.table.specs.declared.Shape.{Shape}

module _ {p : Pool} {h : ℕ} {k : Hook} {cs : List ℕ} {q : Pool} {ms : List Mark} where
  pub hooked : (s : Shape) → length p.cells ≡ s.cells → Underway p h k cs q ms → InTable s k
  hooked s n u = hook_in_table s k p.cells u.reading.chain n u.reading.hook

  -- an atom comes
  module _ (v : ℕ) (u : Underway p h k cs q (value v ∷ ms)) where
    reads-atom : (l : Lst) → u.rest ≡ atom v l → Reading p h (link_of k) (atom v l) u.opens q
    reads-atom l e = subst (λ (m : Lst). Reading p h (link_of k) m u.opens q) e u.reading

    pub atom-fresh : Fresh p (link_of k)
    atom-fresh =
        let t = value-first v u.rest u.opens ms (sym u.left) in
        fresh-atom p h (link_of k) v t.rest u.opens q (reads-atom t.rest t.is)

    pub atom-begun : Underway (hang_new 0 v (link_of k) h p) h (Next p.free) cs q ms
    atom-begun =
        let t = value-first v u.rest u.opens ms (sym u.left) in
        let some : p.free ≢ 0 = λ z. omega (arith, atom-fresh.low) in
        record {
          rest = t.rest;
          opens = u.opens;
          reading = subst (λ (j : Link). Reading (hang_new 0 v (link_of k) h p) h j t.rest u.opens q) (sym (is_next p.free some))
              (step-atom p h (link_of k) v t.rest u.opens q (reads-atom t.rest t.is));
          cells = u.cells;
          left = t.left;
        }

  -- a list begins
  module _ (u : Underway p h k cs q (opened ∷ ms)) where
    reads_list : (e l : Lst) → u.rest ≡ list e l → Reading p h (link_of k) (list e l) u.opens q
    reads_list e l i = subst (λ (m : Lst). Reading p h (link_of k) m u.opens q) i u.reading

    pub list_fresh : Fresh p (link_of k)
    list_fresh =
        let t = opened-first u.rest u.opens ms (sym u.left) in
        fresh_list p h (link_of k) t.elem t.rest u.opens q (reads_list t.elem t.rest t.is)

    pub list_begun : Underway (hang_new 1 0 (link_of k) h p) h (Elem p.free) (p.free ∷ cs) q ms
    unfolding open_cells
    list_begun =
        let t = opened-first u.rest u.opens ms (sym u.left) in
        let o : Open = record { cell = p.free; rest = t.rest } in
        record {
          rest = t.elem;
          opens = o ∷ u.opens;
          reading = step_open p h (link_of k) t.elem t.rest u.opens q (reads_list t.elem t.rest t.is);
          cells = ap (λ (l : List ℕ). p.free ∷ l) u.cells;
          left = t.left p.free;
        }

-- some list is open
leads : {p : Pool} {h : ℕ} {k : Hook} (os : List Open) {q : Pool} {ms : List Mark}
    → Underway p h k (open_cells os) q ms → LeadsTo p h k (open_cells os) q ms
unfolding open_cells
leads [] u = u
leads (o ∷ os) u = u

-- a mark is still to come, so that some list is open
pub none_left : {A : Type 0} {m : Mark} {ms : List Mark} → m ∷ ms ≡ [] → A
none_left e = let z : ◌≡◌ {A = ℕ} 0 1 = cc in absurd (omega arith)

pub underway : {p : Pool} {h : ℕ} {k : Hook} (cs : List ℕ) {q : Pool} {m : Mark} {ms : List Mark}
    → LeadsTo p h k cs q (m ∷ ms) → Underway p h k cs q (m ∷ ms)
underway [] l = none_left l.1
underway (c ∷ cs) l = l

-- a list ends
pub list_shut : {p : Pool} {h : ℕ} {k : Hook} (c : ℕ) (cs : List ℕ) {q : Pool} {ms : List Mark}
    → Underway p h k (c ∷ cs) q (shut ∷ ms) → LeadsTo (hang (link_of k) h 0 p) h (Next c) cs q ms
unfolding open_cells marks_after OpenOff
list_shut {p} {h} {k} c cs {q} {ms} u =
    let f = shut_first u.rest u.opens ms (sym u.left) in
    go u.opens (subst (λ (m : Lst). Reading p h (link_of k) m u.opens q) f.is u.reading) u.cells f.left
  where
    go : (os : List Open) → Reading p h (link_of k) nil os q → open_cells os ≡ c ∷ cs → ms ≡ marks_after os
        → LeadsTo (hang (link_of k) h 0 p) h (Next c) cs q ms
    go [] r e m =
        let none : [] ≡ cs = cc in
        subst (λ (ds : List ℕ). LeadsTo (hang (link_of k) h 0 p) h (Next c) ds q ms) none (step_end p h (link_of k) q r, m)
    go (o ∷ os) r e m =
        let own : o.cell ≡ c = cc in
        let outer : open_cells os ≡ cs = cc in
        let some : c ≢ 0 = λ n. omega (arith, r.opens.0.low, own) in
        subst (λ (ds : List ℕ). LeadsTo (hang (link_of k) h 0 p) h (Next c) ds q ms) outer
        (leads os record {
          rest = o.rest;
          opens = os;
          reading = subst (λ (j : Link). Reading (hang (link_of k) h 0 p) h j o.rest os q) (ap in_next own ∙ sym (is_next c some))
              (step_shut p h (link_of k) o os q r);
          cells = refl;
          left = m;
        })
