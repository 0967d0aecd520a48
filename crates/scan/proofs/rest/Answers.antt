-- `rest` is the part of the text from where the rest begins.
use Prim.Native.Nat.{ℕ}
use mathlib.Core.Path.{refl, ap, ◌∙◌}
use native.Mathlib.Omega.{arith}
use lib.ListN.{drop}
use Rattle.scan.proofs.Checks.{whole-rest}
use Rattle.scan.proofs.rest.Goals as goal

pub returns : goal.returns
returns c = record {
  result_value = whole-rest c.rest_start-start.result c.args.text.now ∙ ap (λ (n : ℕ). drop n c.args.text.now) c.rest_start-start.ensures.0;
  own = (refl, omega (arith, c.rest_start-start.ensures.0));
}
