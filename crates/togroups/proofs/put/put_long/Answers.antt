-- `togroups::put::put_long` meets its contract.
use Prim.Native.Nat.{◌+◌, ◌/◌, ◌%◌}
use mathlib.Core.Path.{◌≡◌, ◌∙◌}
use mathlib.Core.List.{[], ◌∷◌, reverse}
use native.Mathlib.Omega.{arith}
use Rattle.groups.specs.Groups.{number}
use Rattle.togroups.specs.Laws.PutLaws.{back_one, back_more, back_room, back_end, back_laid}
use Rattle.togroups.proofs.put.put_long.Goals.{Else-c-lt128, Then-c-lt128}
use Rattle.togroups.proofs.put.put_long.Goals as goal

four : (c : Then-c-lt128) →
    let v = c.args.v in
    reverse (number v) ≡ (v / 128 / 128 / 128) ∷ ((128 + (v / 128 / 128) % 128) ∷ ((128 + (v / 128) % 128) ∷ ((128 + v % 128) ∷ [])))
four c =
    let v = c.args.v in
    back_more v _ (omega (arith, c.requires.le_v)) (omega (arith, c.requires.le_v)) (back_more (v / 128) _ (omega (arith, c.requires.le_v)) (omega (arith, c.requires.le_v)) (back_more (v / 128 / 128) _ (omega (arith, c.requires.le_v)) (omega (arith, c.requires.le_v)) (back_one (v / 128 / 128 / 128) c.if-c-lt128.true)))

five : (c : Else-c-lt128) →
    let v = c.args.v in
    reverse (number v) ≡ (v / 128 / 128 / 128 / 128) ∷ ((128 + (v / 128 / 128 / 128) % 128) ∷ ((128 + (v / 128 / 128) % 128) ∷ ((128 + (v / 128) % 128) ∷ ((128 + v % 128) ∷ []))))
five c =
    let v = c.args.v in
    back_more v _ (omega (arith, c.requires.le_v)) (omega (arith, c.requires.le_v)) (back_more (v / 128) _ (omega (arith, c.requires.le_v)) (omega (arith, c.requires.le_v)) (back_more (v / 128 / 128) _ (omega (arith, c.requires.le_v)) (omega (arith, c.requires.le_v)) (back_more (v / 128 / 128 / 128) _ c.if-c-lt128.false (omega (arith, c.requires.le_v)) (back_one (v / 128 / 128 / 128 / 128) (omega (arith, c.requires.le_v))))))

pub lay-requires : goal.lay-requires
lay-requires c =
    omega (arith, back_room c.args.out.now c.args.at c.args.v _ (four (goal.at.lay-requires c).Then-c-lt128) c.requires.v_in_bounds)

pub returns-then-c-lt128 : goal.returns-then-c-lt128
returns-then-c-lt128 c =
    let number = four (goal.at.returns-then-c-lt128 c).Then-c-lt128 in
    record {
      value = c.lay.ensures.value ∙ back_end c.args.out.now c.args.at c.args.v _ number c.requires.v_in_bounds;
      out_after = c.lay.ensures.out_after ∙ back_laid c.args.out.now c.args.at c.args.v _ number c.requires.v_in_bounds;
    }

pub lay-requires-2 : goal.lay-requires-2
lay-requires-2 c =
    omega (arith, back_room c.args.out.now c.args.at c.args.v _ (five (goal.at.lay-requires-2 c).Else-c-lt128) c.requires.v_in_bounds)

pub returns : goal.returns
returns c =
    let number = five (goal.at.returns c).Else-c-lt128 in
    record {
      value = c.lay-2.ensures.value ∙ back_end c.args.out.now c.args.at c.args.v _ number c.requires.v_in_bounds;
      out_after = c.lay-2.ensures.out_after ∙ back_laid c.args.out.now c.args.at c.args.v _ number c.requires.v_in_bounds;
    }
