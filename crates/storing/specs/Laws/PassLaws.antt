-- From one rest of the innermost list to another: nothing is read, one part after another, and the marks between them.
use Rattle.std.specs.Prelude.{◌≡◌, List, [], ◌++◌, false, ℕ}
use Rattle.std.proofs.Common.{ap, subst, ◌∙◌, append_assoc}
use Rattle.building.specs.Underway.{LeadsTo, Coming, Comes, Steps}
use Rattle.building.specs.declared.hook.Hook.{Hook}
use Rattle.lists.specs.Lst.{Lst}
use Rattle.pool.specs.Pool.{Pool}
use Rattle.table.specs.declared.Shape.{Shape}
use Rattle.table.specs.View.{view, Table}
use Rattle.text.specs.Marks.{Mark, marks_of}
use Rattle.storing.specs.Readers.{Passes}

-- the first of the marks that come
pub front_comes : {p : Pool} {h : ℕ} {k : Hook} {cs : List ℕ} (ms ns : List Mark)
    → Coming p h k cs (ms ++ ns) → Coming p h k cs ms
front_comes {p} {h} {k} {cs} ms ns c = record {
  goal = c.goal;
  later = ns ++ c.later;
  now = subst (LeadsTo p h k cs c.goal) (append_assoc ms ns c.later) c.now;
}

module _ {s : Shape} {h : ℕ} where
  pub none_passed : {ts : List ℕ} {k : Hook} {l : Lst} → Table s ts → Passes s h ts k l ts k l
  none_passed t = record { table = t; leads = λ cs q later x. x }

  pub and_passed : {ts us vs : List ℕ} {i j k : Hook} {a b c : Lst}
      → Passes s h ts i a us j b → Passes s h us j b vs k c → Passes s h ts i a vs k c
  and_passed p q = record { table = q.table; leads = λ cs g later x. q.leads cs g later (p.leads cs g later x) }

  pub steps-passed : {ts us : List ℕ} {j k : Hook} (l m : Lst) (ms : List Mark)
      → ((cs : List ℕ) → Steps s h ts k cs ms us j cs) → marks_of false l ≡ ms ++ marks_of false m
      → Passes s h ts k l us j m
  steps-passed {ts} {us} {j} {k} l m ms st e = record {
    table = (st []).table;
    leads = λ cs q later x.
        let parts = ap (λ (ns : List Mark). ns ++ later) e ∙ append_assoc ms (marks_of false m) later in
        (st cs).leads q (marks_of false m ++ later) (subst (LeadsTo (view s ts) h k cs q) parts x);
  }

  pub comes_passed : {ts us : List ℕ} {j k : Hook} {l m : Lst} → Passes s h ts k l us j m
      → Comes (view s ts) h k (marks_of false l) → Comes (view s us) h j (marks_of false m)
  comes_passed p (cs, c) =
      (cs, record { goal = c.goal; later = c.later; now = p.leads cs c.goal c.later c.now })
