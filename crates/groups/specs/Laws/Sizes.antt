-- What the groups of a list take: bytes, last groups, and room in an output.
use Rattle.std.specs.Prelude.{ℕ, suc, ◌<◌, ◌≤◌, ◌≡◌, Bool, cond, List, ◌⊎◌, ltb, length}
use Rattle.std.proofs.Common.{ap, ◌∙◌, arith, le-ltb}
use Rattle.std.proofs.lemmas.Bool.{lt-leb}
use Rattle.answers.specs.Answers.{DONE, DEEP, OUTPUT}
use Rattle.lists.specs.Lst.{Lst, order}
use Rattle.text.specs.Limits.{levels}
use Rattle.groups.specs.Depth.{OpensIn}
use Rattle.groups.specs.Groups.{groups_of}
use Rattle.groups.specs.Writing.{items, judged}
use Rattle.groups.specs.Laws.ItemLaws.{bytes_of, list_deep, order_shallow, shallow_order}
use Rattle.groups.specs.Laws.Judging.{Shallow, shallow_room, done_shallow, output_long, deep_at, at_deep, three_ways}
use Rattle.groups.specs.Laws.OpensLaws.{opens_items, items_open}
pub use Rattle.groups.specs.Laws.NumberSizes.{number_size, one_group, two-groups, three-groups, four-groups, five_groups}
pub use Rattle.groups.specs.Laws.LastGroupLaws.{last-here, last_not, last-append, last-groups}

module _ (u : ℕ) (l : Lst) where
  its_numbers : order l ≤ levels → Shallow (items l)
  its_numbers h = (list_deep l 0 ∙ lt-leb levels 0 (omega arith), order_shallow l 1 (omega arith))

  -- with no level too many, the bytes decide
  pub shallow_judged : order l ≤ levels → judged u (items l) ≡ cond (ltb u (length (groups_of l))) OUTPUT DONE
  shallow_judged h =
      shallow_room (items l) u (its_numbers h)
      ∙ ap (λ (s : List ℕ). cond (ltb u (length s)) OUTPUT DONE) (bytes_of l)

  -- done exactly where no level is too many and the bytes have room
  pub judged_fits : judged u (items l) ≡ DONE → (order l ≤ levels) × (length (groups_of l) ≤ u)
  judged_fits e =
      let f = done_shallow (items l) u e in
      (omega (arith, shallow_order l 1 (omega arith) f.0.1), omega (arith, f.1, ap length (bytes_of l)))

  pub fits_judged : order l ≤ levels → length (groups_of l) ≤ u → judged u (items l) ≡ DONE
  fits_judged h k = shallow_judged h ∙ ap (λ (b : Bool). cond b OUTPUT DONE) (le-ltb u (length (groups_of l)) k)

  pub judged_ways : (judged u (items l) ≡ DONE) ⊎ (judged u (items l) ≡ DEEP) ⊎ (judged u (items l) ≡ OUTPUT)
  judged_ways = three_ways (items l) u

  pub judged_long : judged u (items l) ≡ OUTPUT → u < length (groups_of l)
  judged_long e = omega (arith, output_long (items l) u e, ap length (bytes_of l))

  -- deep exactly where level 201 opens no later than just behind the room
  pub judged_deep : judged u (items l) ≡ DEEP → (k : ℕ) × (v : ℕ) × OpensIn l (suc levels) k v × (k ≤ u)
  judged_deep e =
      let f = deep_at (items l) u e in
      let o = items_open l f.0 f.1 f.2 in
      (o.0, o.1, o.2, omega (arith, o.3, f.3))

  pub deep_judged : (k v : ℕ) → OpensIn l (suc levels) k v → k ≤ u → judged u (items l) ≡ DEEP
  deep_judged k v o h = at_deep (items l) u k v (opens_items l k v o) h
