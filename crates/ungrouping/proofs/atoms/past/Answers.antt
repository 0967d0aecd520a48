use Rattle.std.proofs.Common.{rules, subst, ◌≡◌, ◌+◌, ◌≤◌, length, arith}
use Rattle.ungrouping.specs.Places.{Atoms}
use Rattle.ungrouping.specs.Laws.PlaceLaws.{atoms-none, atoms-on}
use Rattle.ungrouping.proofs.atoms.past.Goals as goal

pub loop-at-init : goal.loop-at-init
loop-at-init c = atoms-none c.requires

pub loop-at-preserved : goal.loop-at-preserved
loop-at-preserved c =
    let most : c.min.result ≤ c.args.most = search (rules, c.min.ensures) in
    let inside : c.args.from + c.min.result ≤ length c.args.bytes.now = search (rules, c.min.ensures) in
    let a = c.loop-at.invariant in
    atoms-on a (omega (arith, a.on)) (omega arith) c.if-bytes-at-ge128.false (omega arith)

pub returns : goal.returns
returns c =
    let end : c.loop-at.at ≡ c.args.from + c.min.result = omega arith in
    subst (Atoms c.args.bytes.now c.args.from c.args.most) end c.loop-at.invariant
