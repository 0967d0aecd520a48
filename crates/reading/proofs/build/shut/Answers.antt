use Rattle.std.proofs.Common.{◌≡◌, refl, ℕ, subst, arith}
use Rattle.reading.specs.Adding.{ShutTo}
use Rattle.reading.specs.Laws.StackLaws.{shut_none, shut_comes, shut_again}
use Rattle.reading.proofs.build.shut.Goals as goal

pub loop-level-init : goal.loop-level-init
loop-level-init c = (c.requires.from_le_levels.1, shut_none c.args.lists.now c.args.from c.requires.table)

pub shut_list-at-requires : goal.shut_list-at-requires
shut_list-at-requires c =
    let turn = c.loop-level in
    record {
      table = turn.invariant.1.table;
      h_bound = c.requires.h_bound;
      comes = shut_comes c.args.lists.now c.args.from turn.level turn.invariant.1 c.loop-level-test.true (omega (arith, turn.auto)) c.requires.coming;
    }

pub loop-level-preserved : goal.loop-level-preserved
loop-level-preserved c =
    let turn = c.loop-level in (
      omega (arith, c.loop-level-test.true),
      shut_again c.args.lists.now c.args.from turn.level turn.invariant.1 c.loop-level-test.true (omega (arith, turn.auto)) refl
          c.shut_list-at.ensures.shuts_list,
    )

pub returns : goal.returns
returns c =
    let a = c.args in
    let turn = c.loop-level in
    let last : turn.level ≡ a.to = omega (arith, turn.invariant.0, c.loop-level-test.false) in
    subst (λ (n : ℕ). ShutTo a.s a.h a.t.now a.k a.lists.now a.from n turn.t turn.at) last turn.invariant.1
