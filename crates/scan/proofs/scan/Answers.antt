-- `scan`: the outlook at a place is that of the text, and so is what is said at its end.
use Rattle.std.specs.Prelude.{Ok}
use Rattle.std.proofs.Common.{arith, subst}
use Rattle.scan.specs.Places.{Taken}
use Rattle.scan.proofs.Whole.{starts, starts_not, inside, goes_on_lem, faults, runs_out, ends}
use Rattle.scan.proofs.scan.Goals.{In-Ok}
use Rattle.scan.proofs.scan.Goals as goal

-- the step that a turn takes is a mark
marked : (c : In-Ok) → Taken c.args.text.now c.loop-p.p (Ok c.in-Ok.next)
marked c = subst (Taken c.args.text.now c.loop-p.p) c.in-Ok.is c.take-read.ensures

pub returns-then-text-ne40 : goal.returns-then-text-ne40
returns-then-text-ne40 c = starts_not c.args.text.now c.requires.some c.if-text-ne40.true

pub loop-p-init : goal.loop-p-init
loop-p-init c = rw c.opened-p.ensures (starts c.args.text.now c.requires.some c.if-text-ne40.false)

pub take-read-requires : goal.take-read-requires
take-read-requires c = inside c.args.text.now c.loop-p.p c.requires c.loop-p.invariant c.loop-p-test.true

pub returns-in_default : goal.returns-in_default
returns-in_default c =
    faults c.args.text.now c.loop-p.p c.unwrap_err.result c.loop-p.invariant (subst (Taken c.args.text.now c.loop-p.p) c.unwrap_err.ensures c.take-read.ensures)

pub ending-requires : goal.ending-requires
ending-requires c = record { sized = c.requires; from_in_bounds = (marked (goal.at.ending-requires c).In-Ok).within }

pub returns-then-p-eq0 : goal.returns-then-p-eq0
returns-then-p-eq0 c =
    ends c.args.text.now c.loop-p.p _ _ c.loop-p.invariant (marked (goal.at.returns-then-p-eq0 c).In-Ok) c.if-p-eq0.true c.ending.ensures

pub loop-p-smaller : goal.loop-p-smaller
loop-p-smaller c = omega (arith, (marked (goal.at.loop-p-smaller c).In-Ok).on, c.loop-p-test.true)

pub loop-p-preserved : goal.loop-p-preserved
loop-p-preserved c =
    goes_on_lem c.args.text.now c.loop-p.p _ c.loop-p.invariant (marked (goal.at.loop-p-preserved c).In-Ok) c.if-p-eq0.false

pub returns : goal.returns
returns c = runs_out c.args.text.now c.loop-p.p c.loop-p.invariant c.loop-p-test.false
