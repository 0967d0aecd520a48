-- `run_by_one` ends where the run of digits does, which is at the first byte that is none.
use Rattle.std.proofs.Common.{arith, rules, tests, ◌+◌, ◌∙◌, ℕ, ap, not, drop, take_all, length-drop}
use Rattle.std.proofs.lemmas.Iterator.{YieldsList-from_slice}
use Rattle.std.proofs.lemmas.Iterator.Search.{position_from_yields_List}
use Rattle.text.specs.ListText.{is_digit_byte}
use Rattle.scan.specs.Runs.{digit_run}
use Rattle.scan.proofs.RunLaws.{run_first}
use Rattle.scan.proofs.octals.run_by_one.Goals as goal

pub returns : goal.returns
returns c =
    let items = YieldsList-from_slice _ c.iter.ensures.rest in
    let first = position_from_yields_List (λ b. not (is_digit_byte b)) _ _ _ c.position.ensures.ran items (λ x b q k. search (rules, tests)) in
    let behind = drop c.args.from c.args.text.now in
    let all = take_all _ behind (omega (arith, length-drop c.args.from c.args.text.now)) in
    ap (λ (n : ℕ). c.args.from + n) (c.unwrap_or.ensures ∙ run_first _ _ first ∙ ap digit_run all)
