-- The reader of a list, turn by turn, and its end.
use Rattle.std.specs.Prelude.{◌≡◌, refl, List, [], ◌∷◌, false, ℕ, ◌+◌, ◌-◌, ◌≤◌, ◌<◌}
use Rattle.std.proofs.Math.Path.{subst}
use Rattle.std.proofs.Common.{ap, ◌∙◌, arith}
use Rattle.building.specs.Hooks.{hook_cell}
use Rattle.building.specs.Underway.{LeadsTo, Comes, ShutsList}
use Rattle.building.specs.declared.hook.Hook.{Hook}
use Rattle.building.specs.declared.hook.Hook.TheVariants.{Next}
use Rattle.groups.specs.Groups.{elements}
use Rattle.lists.specs.Lst.{Lst, nil, atom, list, len}
use Rattle.table.specs.declared.Shape.{Shape}
use Rattle.table.specs.View.{view, Table}
use Rattle.text.specs.Marks.{shut, marks_of}
use Rattle.storing.specs.Ahead.{after}
use Rattle.storing.specs.Readers.{Due, DueElement, Gone, ReadsElement, Left, Leaves, ReadsList}
use Rattle.storing.specs.declared.Spot.{Spot}
use Rattle.storing.specs.Laws.PassLaws.{none_passed, and_passed, comes_passed}

len_after : (l : Lst) → len (after l) ≡ len l - 1
unfolding len
len_after nil = omega arith
len_after (atom v l) = omega arith
len_after (list e l) = omega arith

len-none : (l : Lst) → len l ≡ 0 → l ≡ nil
unfolding len
len-none nil e = refl
len-none (atom v l) e = absurd (omega arith)
len-none (list m l) e = absurd (omega arith)

module _ {s : Shape} {h : ℕ} {bytes : List ℕ} {ts : List ℕ} {at n : ℕ} {k : Hook} where
  pub all_left : Table s ts → Leaves s h bytes ts at n k ts (record { at = at; hook = k }) (n - 0)
  all_left t l later a c = record {
    rest = l;
    count = omega (arith, c);
    gone = record { on = omega arith; ahead = a; passes = none_passed t };
  }

  module _ {us : List ℕ} {r : Spot} {left : ℕ} (w : Leaves s h bytes ts at n k us r left) where
    -- what is left of the rest that is due
    due_left : (d : Due s ts h bytes at n k) → Left s h bytes d.later ts at k d.rest us r left
    due_left d = w d.rest d.later d.ahead d.count

    pub left_table : Due s ts h bytes at n k → Table s us
    left_table d = (due_left d).gone.passes.table

    pub left-on : Due s ts h bytes at n k → at ≤ r.at
    left-on d = (due_left d).gone.on

    left_due : Due s ts h bytes at n k → Due s us h bytes r.at left r.hook
    left_due d =
        let g = due_left d in
        record {
          rest = g.rest;
          later = d.later;
          ahead = g.gone.ahead;
          count = g.count;
          comes = comes_passed g.gone.passes d.comes;
        }

    pub next_due : 0 < left → Due s ts h bytes at n k → DueElement s us h bytes r.at r.hook
    next_due some d = (left, some, left_due d)

    pub one_less : {vs : List ℕ} {i : Spot} {m : ℕ} → m + 1 ≡ left → ReadsElement s h bytes us r.at r.hook vs i
        → Leaves s h bytes ts at n k vs i m
    one_less {vs} {i} {m} one b l later a c =
        let g = w l later a c in
        let x = b g.rest later g.gone.ahead (omega (arith, g.count)) in
        record {
          rest = after g.rest;
          count = omega (arith, len_after g.rest, g.count, one);
          gone = record {
            on = omega (arith, g.gone.on, x.on);
            ahead = x.ahead;
            passes = and_passed g.gone.passes x.passes;
          };
        }

    -- none is left
    module _ (none : left ≡ 0) where
      pub shut_comes : Due s ts h bytes at n k → Comes (view s us) h r.hook (shut ∷ [])
      shut_comes d =
          let g = left_due d in
          subst (λ (l : Lst). Comes (view s us) h r.hook (marks_of false l)) (len-none g.rest (g.count ∙ none))
          g.comes

      pub list_ended : {vs : List ℕ} {j : Hook} {c : ℕ} → c ≡ hook_cell k → ShutsList c s h us r.hook vs j → j ≡ Next c
          → ReadsList s h bytes ts at n k vs r.at
      unfolding elements
      list_ended {vs} {j} {c} cell b e l later a count =
          let own : ShutsList (hook_cell k) s h us r.hook vs j = subst (λ (x : ℕ). ShutsList x s h us r.hook vs j) cell b in
          let left = w l later a count in
          let nothing = len-none left.rest (left.count ∙ none) in
          let g = subst (Gone s h bytes later ts at k l us r) nothing left.gone in
          record {
            on = g.on;
            behind = g.ahead.bytes;
            steps = λ cs. record {
              table = (own cs).table;
              leads = λ q next x.
                  subst (λ (i : Hook). LeadsTo (view s vs) h i cs q next) (e ∙ ap Next cell)
                  ((own cs).leads q next (g.passes.leads (hook_cell k ∷ cs) q next x));
            };
          }
