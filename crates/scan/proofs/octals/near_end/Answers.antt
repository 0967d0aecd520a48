-- `near_end`: fewer than eight bytes, eight digits, or the first byte of eight that is none.
use Rattle.std.proofs.Common.{arith, ap, ◌-◌, length, drop, take_all, length-drop}
use Rattle.scan.proofs.RunLaws.{run_most}
use Rattle.scan.proofs.Words.{room, eight_more, eight_less, eight_most}
use Rattle.scan.proofs.octals.near_end.Goals as goal

pub returns-in_default : goal.returns-in_default
returns-in_default c =
    let s = c.args.text.now in
    let i = c.args.from in
    let all = ap length (take_all (length s - i) (drop i s) (omega (arith, length-drop i s))) in
    (c.run_by_one.ensures, omega (arith, c.run_by_one.ensures, all, run_most (drop i s), c.in_default.ensures.cases))

pub returns-then-others-eq0 : goal.returns-then-others-eq0
returns-then-others-eq0 c =
    let s = c.args.text.now in
    let chunk = c.in-Some.ensures.cases in
    let word = c.from_le_bytes.ensures in
    (room s c.args.from _ chunk c.type_inv.text, eight_more s c.args.from _ chunk c.type_inv.text (rw (← word) c.if-others-eq0.true))

pub returns : goal.returns
returns c =
    let s = c.args.text.now in
    let chunk = c.in-Some.ensures.cases in
    let word = c.from_le_bytes.ensures in
    let less = eight_less s c.args.from _ chunk c.type_inv.text (rw (← word) c.if-others-eq0.false) in
    let most = eight_most s c.args.from _ chunk c.type_inv.text (rw (← word) c.if-others-eq0.false) in
    rw word (omega (arith, less), omega (arith, most))
