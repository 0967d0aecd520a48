use Rattle.std.proofs.Common.{◌≡◌, ap, arith}
use Rattle.togroups.specs.Walking.{met}
use Rattle.togroups.specs.Laws.PassLaws.{pass_begins, pass_on, room_end, pass_ends}
use Rattle.togroups.proofs.pass.pass.Given as given
use Rattle.togroups.proofs.pass.pass.Goals.{After-loop-w}
use Rattle.togroups.proofs.pass.pass.Goals as goal

first : (g : given.Over) (c : After-loop-w g) → c.loop-w.w.at ≡ 1
first g c = omega (arith, c.loop-w.invariant.walks.some, c.loop-w-test.false)

pub loop-w-init : goal.loop-w-init
loop-w-init g c = pass_begins _ _ _ _ c.requires.listed c.behind-w.ensures

pub loop-w-preserved-in-Some : goal.loop-w-preserved-in-Some
loop-w-preserved-in-Some g c =
    pass_on _ _ _ _ _ _ _ c.requires.listed c.loop-w.invariant c.requires.text_in_bounds _ _ c.step-w.ensures _ (ap met c.in-Some.is) _ _
    c.give-size.ensures.value c.give-size.ensures.out_after

pub give-requires-clause-v_in_bounds : goal.give-requires-clause-v_in_bounds
give-requires-clause-v_in_bounds g c =
    room_end _ _ _ _ _ _ _ c.requires.listed c.loop-w.invariant c.requires.text_in_bounds (first g (goal.at.give-requires-clause-v_in_bounds g c).After-loop-w)
    _ (omega (arith, c.from.ensures))

pub returns : goal.returns
returns g c =
    let q = pass_ends _ _ _ _ _ _ _ c.requires.listed c.loop-w.invariant c.requires.text_in_bounds (first g (goal.at.returns g c).After-loop-w)
    _ (omega (arith, c.from.ensures)) _ _ c.give.ensures.value c.give.ensures.out_after in
    record { value = q.0; out_after = q.1 }
