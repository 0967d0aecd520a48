-- `answering::texts::without_fill` meets its contract.
use Rattle.std.proofs.Common.{◌≡◌, ◌≢◌, ◌<◌, ℕ, length, get_or, rules, ◌∙◌, add-one, arith}
use Rattle.answering.specs.Laws.TrimLaws.{trimmed_at, trimmed_none}
use Rattle.answering.proofs.texts.without_fill.Goals as goal

pub returns-in-Some : goal.returns-in-Some
returns-in-Some c =
    let s = c.args.text.now in
    let l : c.in-Some.last < length s = search rules in
    let n : get_or s c.in-Some.last 0 ≢ 32 = search rules in
    let h : (k : ℕ) → c.in-Some.last < k → k < length s → get_or s k 0 ≡ 32 = search rules in
    (add-one c.in-Some.last ∙ trimmed_at s c.in-Some.last l n h, omega (arith, l))

pub returns-in-None : goal.returns-in-None
returns-in-None c =
    let h : (k : ℕ) → k < length c.args.text.now → get_or c.args.text.now k 0 ≡ 32 = search rules in
    (trimmed_none c.args.text.now h, omega arith)
