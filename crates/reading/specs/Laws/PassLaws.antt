-- The second pass begins behind the outermost "(", goes on with each step, and ends with the list in the holder.
use Rattle.std.specs.Prelude.{◌≡◌, List, [], ◌∷◌, ◌++◌, ℕ, ◌≤◌, ◌<◌, length, drop, get_or}
use Rattle.std.proofs.Common.{sym}
use Rattle.std.proofs.Math.Path.{subst}
use Rattle.building.specs.Underway.{LeadsTo}
use Rattle.building.specs.Laws.StepLaws.{starts}
use Rattle.building.specs.declared.hook.Hook.{Hook}
use Rattle.building.specs.Hooks.{hook_holder}
use Rattle.lists.specs.Lst.{extent}
use Rattle.pool.specs.Pool.{Pool, frees, Sound}
use Rattle.scan.specs.Places.{opened, prospect_at, emitted}
use Rattle.scan.specs.Runs.{numeral}
use Rattle.scan.specs.declared.step.Place.{Place}
use Rattle.table.specs.declared.Shape.{Shape}
use Rattle.table.specs.View.{holder_count, view, Table, Shows}
use Rattle.text.specs.Limits.{levels}
use Rattle.text.specs.Marks.{Mark, list_in}
use Rattle.reading.specs.Accepting.{Taken, Amid, Goes}
use Rattle.reading.specs.Adding.{stack, Adding, Added}
use Rattle.reading.specs.Pass.{goal_of, Pass}
use Rattle.reading.specs.Laws.AcceptingLaws.{first, goes_on_lem, marks-on}

-- with a null in the array for the outermost list
pub begins : {s : Shape} {ts : List ℕ} (h : ℕ) {text : List ℕ} → Taken text → Table s ts → Sound (view s ts)
    → extent (list_in text) ≤ frees (view s ts).cells → (xs : List ℕ) → length xs ≡ levels → get_or xs 0 0 ≡ 0
    → Pass s ts h text ts hook_holder xs opened
unfolding stack
begins {s} {ts} h {text} taken t sound room xs long null =
    let f = first text taken in
    let marks = (prospect_at text opened).marks in
    record {
      taken = taken;
      table = t;
      long = long;
      place = f.place;
      leads = subst (λ (c : ℕ). LeadsTo (view s ts) h hook_holder (c ∷ []) (goal_of s ts h text) marks) (sym null)
          (starts (view s ts) h (list_in text) marks sound room f.left);
    }

module _ {s : Shape} {ts : List ℕ} {h : ℕ} {text us : List ℕ} {k : Hook} {xs : List ℕ} {p : Place} (a : Pass s ts h text us k xs p) where
  abbrev goal : Pool
  goal = goal_of s ts h text

  pub over : p.depth ≡ 0 → Shows s us goal
  unfolding stack
  over z =
      let ended = subst (λ (d : ℕ). LeadsTo (view s us) h k (stack xs d) goal (prospect_at text p).marks) z a.leads in
      record { table = a.table; is = ended.0 }

  module _ (deep : 1 ≤ p.depth) where
    pub amid : Amid text p
    amid = record { taken = a.taken; place = a.place; deep = deep }

    module _ {q : Place} (w : Goes text p q) where
      abbrev later : List Mark
      later = (prospect_at text q).marks

      now : LeadsTo (view s us) h k (stack xs p.depth) goal (emitted text p q ++ later)
      now = subst (LeadsTo (view s us) h k (stack xs p.depth) goal) (marks-on text a.taken p a.place q w) a.leads

      pub adding : {v : ℕ} → h < holder_count s → v ≡ numeral 0 (drop p.at text) → Adding s us h k xs p q v
      adding holder e = record {
        table = a.table;
        holder = holder;
        long = a.long;
        levelled = a.place.levelled;
        high = w.high;
        top = w.levelled;
        coming = rw e record { goal = goal; later = later; now = now };
      }

      pub on : {v : ℕ} → v ≡ numeral 0 (drop p.at text) → (vs : List ℕ) (j : Hook) (ys : List ℕ) → Added s us h k xs p q v vs j ys
          → Pass s ts h text vs j ys q
      on e vs j ys d = record {
        taken = a.taken;
        table = d.steps.table;
        long = d.long;
        place = goes_on_lem text a.taken p a.place q w;
        leads = d.steps.leads goal later (rw e now);
      }
