-- The value of digits, one after another, and how far they go.
use mathlib.Core.Path.{◌≡◌, ap, ◌∙◌}
use mathlib.Core.Bool.{Bool, true, false, cond}
use mathlib.Core.List.{List, [], ◌∷◌}
use Prim.Native.Nat.{ℕ, ◌+◌, ◌-◌, ◌*◌, ◌≤◌, ◌<◌}
use native.Mathlib.Omega.{arith}
use lib.ListN.{length, drop, get_or}
use Rattle.scan.proofs.RunLaws.{digit_bounds, next, run-next, run-stop}
use Rattle.scan.specs.Runs.{numeral}
use Rattle.text.specs.ListText.{is_digit_byte}
use Rattle.text.specs.Laws.TextLaws.{by_case}
use Rattle.reading.specs.Numbers.{end_at}

-- it grows with each digit
grows : (l : List ℕ) (v : ℕ) → v ≤ numeral v l
grows [] v = omega arith
grows (b ∷ l) v =
    by_case (is_digit_byte b) (λ (n : ℕ). v ≤ n) {x = numeral (v * 8 + (b - 48)) l} {y = v} (λ e. omega (arith, grows l (v * 8 + (b - 48)))) (λ e. omega arith)

-- a digit at i, behind digits of the value v
pub record On (s : List ℕ) (i v : ℕ) : Type 0 where
  pub low : 48 ≤ get_or s i 0
  pub further : end_at s i ≡ end_at s (i + 1)
  pub value : numeral v (drop i s) ≡ numeral (v * 8 + (get_or s i 0 - 48)) (drop (i + 1) s)
  pub small : v * 8 + (get_or s i 0 - 48) ≤ numeral v (drop i s)

module _ (s : List ℕ) (i v : ℕ) (h : i < length s) where
  by_first : {t : Bool} → is_digit_byte (get_or s i 0) ≡ t → numeral v (drop i s) ≡ cond t (numeral (v * 8 + (get_or s i 0 - 48)) (drop (i + 1) s)) v
  by_first e =
      let b = get_or s i 0 in
      let l = drop (i + 1) s in
      ap (numeral v) (next s i h) ∙ ap (λ (t : Bool). cond t (numeral (v * 8 + (b - 48)) l) v) e

  pub digit-on : is_digit_byte (get_or s i 0) ≡ true → On s i v
  digit-on e = record {
    low = (digit_bounds (get_or s i 0) e).0;
    further = omega (arith, run-next s i h e);
    value = by_first e;
    small = omega (arith, by_first e, grows (drop (i + 1) s) (v * 8 + (get_or s i 0 - 48)));
  }

  pub digit-off : is_digit_byte (get_or s i 0) ≡ false → (end_at s i ≡ i) × (numeral v (drop i s) ≡ v)
  digit-off e = (omega (arith, run-stop s i h e), by_first e)
