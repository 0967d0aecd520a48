-- The list of the bytes as a whole: it is due in a sound pool with room for it, and is there when it is read.
use Rattle.std.specs.Prelude.{◌≡◌, Some, List, [], ◌∷◌, ◌++◌, false, ℕ, ◌/◌, ◌≤◌, drop}
use Rattle.std.proofs.Common.{sym, subst, append-nil, arith}
use Rattle.building.specs.Hooks.{hook_holder}
use Rattle.building.specs.Underway.{LeadsTo}
use Rattle.building.specs.Laws.StepLaws.{starts}
use Rattle.groups.specs.Holding.{Holding}
use Rattle.lists.specs.Lst.{Lst, len, extent}
use Rattle.numbers.specs.Numbers.{number_in}
use Rattle.numbers.specs.declared.Number.{Number}
use Rattle.pool.specs.Operations.{read}
use Rattle.pool.specs.Pool.{frees, Sound}
use Rattle.table.specs.declared.Shape.{Shape}
use Rattle.table.specs.View.{view, Shows}
use Rattle.text.specs.Marks.{marks_of}
use Rattle.text.specs.Laws.MarkLaws.{with_open}
use Rattle.storing.specs.Readers.{Due, ReadsList}
use Rattle.storing.specs.Laws.AheadLaws.{whole-number, whole_ahead}

module _ {bytes : List ℕ} {m : ℕ} {l : Lst} (a : Holding bytes m l) {n : Number} (e : Some n ≡ number_in bytes 0) where
  counted : len l ≡ n.value / 2
  counted = omega (arith, whole-number a e)

  module _ (s : Shape) (ts : List ℕ) (h : ℕ) (sound : Sound (view s ts))
      (room : extent l ≤ frees (view s ts).cells) where
    leads : LeadsTo (view s ts) h hook_holder (0 ∷ []) (read (view s ts) h l) (marks_of false l ++ [])
    leads =
        subst (LeadsTo (view s ts) h hook_holder (0 ∷ []) (read (view s ts) h l)) (sym (append-nil (marks_of false l)))
        (starts (view s ts) h l (marks_of false l) sound room (with_open l))

    pub whole_due : Due s ts h bytes n.end (n.value / 2) hook_holder
    whole_due = record {
      rest = l;
      later = drop m bytes;
      ahead = whole_ahead a e;
      count = counted;
      comes = (0 ∷ [], record { goal = read (view s ts) h l; later = []; now = leads });
    }

    pub whole-read : {us : List ℕ} {end : ℕ} → ReadsList s h bytes ts n.end (n.value / 2) hook_holder us end
        → Shows s us (read (view s ts) h l)
    whole-read b =
        let st = (b l (drop m bytes) (whole_ahead a e) counted).steps [] in
        record { table = st.table; is = (st.leads (read (view s ts) h l) [] leads).0 }
