-- What the three functions ask and do, from the pools that their tables show; and steps one after another.
use Rattle.std.specs.Prelude.{◌≡◌, refl, List, [], ◌∷◌, ◌++◌, true, ℕ, ◌≤◌}
use Rattle.std.proofs.Common.{sym, subst, append_assoc, arith}
use Rattle.lists.specs.Lst.{Lst, extent}
use Rattle.pool.specs.Operations.{read}
use Rattle.pool.specs.Pool.{Pool, frees, Sound}
use Rattle.table.specs.declared.Shape.{Shape}
use Rattle.table.specs.View.{view, Table, Shows}
use Rattle.text.specs.Marks.{Mark, opened, value, marks_of}
use Rattle.building.specs.Hooks.{link_of, hook_holder, hook_cell, InTable, open_cells, Hangs, Hung}
use Rattle.building.specs.Reading.{hang}
use Rattle.building.specs.Underway.{LeadsTo, Coming, Comes, Steps, BeginsList, AddsAtom, ShutsList}
use Rattle.building.specs.Laws.HookLaws.{cell_in}
use Rattle.building.specs.Laws.MarksLeft.{all_left}
use Rattle.building.specs.Laws.ReadingLaws.{Fresh, start}
use Rattle.building.specs.Laws.UnderwayLaws.{hooked, atom-fresh, atom-begun, list_fresh, list_begun, none_left, underway, list_shut}
use Rattle.building.specs.declared.hook.Hook.{Hook}
use Rattle.building.specs.declared.hook.Hook.TheVariants.{Next, Elem}

-- behind the outermost "(" of a list that has room in a sound pool
pub starts : (p : Pool) (h : ℕ) (l : Lst) (ms : List Mark) → Sound p → extent l ≤ frees p.cells → marks_of true l ≡ opened ∷ ms
    → LeadsTo p h hook_holder (0 ∷ []) (read p h l) ms
unfolding open_cells
starts p h l ms sound room e = record { rest = l; opens = []; reading = start p h l sound room; cells = refl; left = all_left l ms e }

module _ {s : Shape} {h : ℕ} where
  -- steps one after another
  pub no_step : {ts : List ℕ} {k : Hook} {cs : List ℕ} → Table s ts → Steps s h ts k cs [] ts k cs
  no_step t = record { table = t; leads = λ q later l. l }

  pub and_then : {ts us vs : List ℕ} {i j k : Hook} {cs ds es : List ℕ} {ms ns : List Mark}
      → Steps s h ts i cs ms us j ds → Steps s h us j ds ns vs k es → Steps s h ts i cs (ms ++ ns) vs k es
  and_then {ts} {us} {vs} {i} {j} {k} {cs} {ds} {es} {ms} {ns} a b = record {
    table = b.table;
    leads = λ q later l. b.leads q later (a.leads q (ns ++ later) (subst (LeadsTo (view s ts) h i cs q) (append_assoc ms ns later) l));
  }

  -- what comes behind steps
  pub comes_then : {ts us : List ℕ} {j k : Hook} {cs ds : List ℕ} {ms ns : List Mark}
      → Coming (view s ts) h k cs (ms ++ ns) → Steps s h ts k cs ms us j ds → Coming (view s us) h j ds ns
  comes_then {ts} {us} {j} {k} {cs} {ds} {ms} {ns} c a = record {
    goal = c.goal;
    later = c.later;
    now = a.leads c.goal (ns ++ c.later) (subst (LeadsTo (view s ts) h k cs c.goal) (append_assoc ms ns c.later) c.now);
  }

-- the first mark of those that come
pub first_comes : {p : Pool} {h : ℕ} {k : Hook} {cs : List ℕ} {m : Mark} {ms : List Mark} → Coming p h k cs (m ∷ ms) → Comes p h k (m ∷ [])
first_comes {p} {h} {k} {cs} {m} {ms} c = (cs, record { goal = c.goal; later = ms ++ c.later; now = c.now })

module _ {s : Shape} {ts : List ℕ} (t : Table s ts) {h : ℕ} {k : Hook} where
  -- where a mark is still to come
  pub hook_in : {m : Mark} {ms : List Mark} → Comes (view s ts) h k (m ∷ ms) → InTable s k
  hook_in (cs, c) = hooked s t.measured (underway cs c.now)

  hangs : InTable s k → Fresh (view s ts) (link_of k) → Hangs s h ts k
  hangs at f = record {
    hook = at;
    spare = record { cell = record { low = f.low; high = omega (arith, f.high, t.measured) }; next = omega (arith, f.next, t.measured) };
  }

  pub list_hangs : Comes (view s ts) h k (opened ∷ []) → Hangs s h ts k
  list_hangs (cs, c) = hangs (hook_in (cs, c)) (list_fresh (underway cs c.now))

  pub atom_hangs : {v : ℕ} → Comes (view s ts) h k (value v ∷ []) → Hangs s h ts k
  atom_hangs {v} (cs, c) = hangs (hook_in (cs, c)) (atom-fresh v (underway cs c.now))

module _ {s : Shape} {ts us : List ℕ} {h : ℕ} {k : Hook} where
  pub begins : {c : ℕ} → Hung s h ts k 1 0 us c → BeginsList s h ts k us (Elem c)
  begins {c} n cs = record {
    table = n.shows.table;
    leads = λ q later l.
        subst (λ (x : ℕ). LeadsTo (view s us) h (Elem x) (x ∷ cs) q later) (sym n.cell)
        (subst (λ (w : Pool). LeadsTo w h (Elem (view s ts).free) ((view s ts).free ∷ cs) q later) (sym n.shows.is) (list_begun (underway cs l)));
  }

  pub adds : {v c : ℕ} → Hung s h ts k 0 v us c → AddsAtom v s h ts k us (Next c)
  adds {v} {c} n [] = record { table = n.shows.table; leads = λ q later l. none_left l.1 }
  adds {v} {c} n (d ∷ ds) = record {
    table = n.shows.table;
    leads = λ q later l.
        subst (λ (x : ℕ). LeadsTo (view s us) h (Next x) (d ∷ ds) q later) (sym n.cell)
        (subst (λ (w : Pool). LeadsTo w h (Next (view s ts).free) (d ∷ ds) q later) (sym n.shows.is) (atom-begun v l));
  }

  pub shuts : {c : ℕ} → Shows s us (hang (link_of k) h 0 (view s ts)) → ShutsList c s h ts k us (Next c)
  shuts {c} b cs = record {
    table = b.table;
    leads = λ q later l. subst (λ (w : Pool). LeadsTo w h (Next c) cs q later) (sym b.is) (list_shut c cs l);
  }

  -- the new cell of a list
  pub begun_in : {j : Hook} → Comes (view s ts) h k (opened ∷ []) → BeginsList s h ts k us j → hook_cell j ≤ s.cells
  begun_in {j} (cs, c) b = let n = b cs in cell_in s j (hooked s n.table.measured (n.leads c.goal c.later c.now))
