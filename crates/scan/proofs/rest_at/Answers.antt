-- `rest_at` counts the bytes before the rest, which lies in the text.
use Prim.Native.Nat.{ℕ, ◌-◌, ◌≤◌}
use mathlib.Core.Path.{◌≡◌, ap, ◌∙◌}
use native.Mathlib.Omega.{arith}
use lib.ListN.{length, length-drop}
use Rattle.text.specs.Text.{rest_at}
use Rattle.text.specs.Laws.Rest.{rest-within}
use Rattle.scan.proofs.rest_at.Goals.{After-rest-left}
use Rattle.scan.proofs.rest_at.Goals as goal

back : (n k : ℕ) → k ≤ n → n - (n - k) ≡ k
back n k l = omega arith

-- the bytes that are left
left : (c : After-rest-left) →
    let s = c.args.text.now in
    length c.rest-left.result.now ≡ length s - rest_at s
left c =
    let s = c.args.text.now in
    ap length c.rest-left.ensures.result_value ∙ length-drop (rest_at s) s

pub overflow_sub-result : goal.overflow_sub-result
overflow_sub-result c = omega (arith, left c)

pub returns : goal.returns
returns c =
    let s = c.args.text.now in
    ap (λ (n : ℕ). length s - n) (left c) ∙ back (length s) (rest_at s) (rest-within s)
