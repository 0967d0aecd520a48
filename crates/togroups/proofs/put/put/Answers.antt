-- `togroups::put::put` meets its contract.
use Prim.Native.Nat.{◌+◌, ◌/◌, ◌%◌}
use mathlib.Core.Path.{◌≡◌, ◌∙◌}
use mathlib.Core.List.{[], ◌∷◌, reverse}
use native.Mathlib.Omega.{arith}
use Rattle.groups.specs.Groups.{number}
use Rattle.togroups.specs.Laws.PutLaws.{back_one, back_more, back_room, back_end, back_laid}
use Rattle.togroups.proofs.put.put.Goals.{Then-a-lt128, Then-b-lt128, Then-v-lt128}
use Rattle.togroups.proofs.put.put.Goals as goal

one : (c : Then-v-lt128) →
    let v = c.args.v in
    reverse (number v) ≡ v ∷ []
one c =
    let v = c.args.v in
    back_one v c.if-v-lt128.true

two : (c : Then-a-lt128) →
    let v = c.args.v in
    reverse (number v) ≡ (v / 128) ∷ ((128 + v % 128) ∷ [])
two c =
    let v = c.args.v in
    back_more v _ c.if-v-lt128.false c.requires.v_lt_numbers_end (back_one (v / 128) c.if-a-lt128.true)

three : (c : Then-b-lt128) →
    let v = c.args.v in
    reverse (number v) ≡ (v / 128 / 128) ∷ ((128 + (v / 128) % 128) ∷ ((128 + v % 128) ∷ []))
three c =
    let v = c.args.v in
    back_more v _ c.if-v-lt128.false c.requires.v_lt_numbers_end (back_more (v / 128) _ c.if-a-lt128.false (omega (arith, c.requires.v_lt_numbers_end)) (back_one (v / 128 / 128) c.if-b-lt128.true))

pub lay-requires : goal.lay-requires
lay-requires c =
    omega (arith, back_room c.args.out.now c.args.at c.args.v _ (one (goal.at.lay-requires c).Then-v-lt128) c.requires.v_in_bounds)

pub returns-then-v-lt128 : goal.returns-then-v-lt128
returns-then-v-lt128 c =
    let number = one (goal.at.returns-then-v-lt128 c).Then-v-lt128 in
    record {
      value = c.lay.ensures.value ∙ back_end c.args.out.now c.args.at c.args.v _ number c.requires.v_in_bounds;
      out_after = c.lay.ensures.out_after ∙ back_laid c.args.out.now c.args.at c.args.v _ number c.requires.v_in_bounds;
    }

pub lay-requires-then-a-lt128 : goal.lay-requires-then-a-lt128
lay-requires-then-a-lt128 c =
    omega (arith, back_room c.args.out.now c.args.at c.args.v _ (two (goal.at.lay-requires-then-a-lt128 c).Then-a-lt128) c.requires.v_in_bounds)

pub returns-then-a-lt128 : goal.returns-then-a-lt128
returns-then-a-lt128 c =
    let number = two (goal.at.returns-then-a-lt128 c).Then-a-lt128 in
    record {
      value = c.lay-then-a-lt128.ensures.value ∙ back_end c.args.out.now c.args.at c.args.v _ number c.requires.v_in_bounds;
      out_after = c.lay-then-a-lt128.ensures.out_after ∙ back_laid c.args.out.now c.args.at c.args.v _ number c.requires.v_in_bounds;
    }

pub lay-requires-then-b-lt128 : goal.lay-requires-then-b-lt128
lay-requires-then-b-lt128 c =
    omega (arith, back_room c.args.out.now c.args.at c.args.v _ (three (goal.at.lay-requires-then-b-lt128 c).Then-b-lt128) c.requires.v_in_bounds)

pub returns-then-b-lt128 : goal.returns-then-b-lt128
returns-then-b-lt128 c =
    let number = three (goal.at.returns-then-b-lt128 c).Then-b-lt128 in
    record {
      value = c.lay-then-b-lt128.ensures.value ∙ back_end c.args.out.now c.args.at c.args.v _ number c.requires.v_in_bounds;
      out_after = c.lay-then-b-lt128.ensures.out_after ∙ back_laid c.args.out.now c.args.at c.args.v _ number c.requires.v_in_bounds;
    }
