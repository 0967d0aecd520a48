-- A number group by group, the low one first: what is below a group goes along as a sum and a scale.
use Rattle.std.specs.Prelude.{ℕ, ◌+◌, ◌-◌, ◌*◌, ◌<◌, ◌≤◌, ◌≡◌, refl, List, [], ◌∷◌, None, Bool, true, false, cond, eqb, ltb, length, drop, get_or}
use Rattle.std.proofs.Common.{sym, ◌∙◌, add-one, mul-add, mul_assoc, mul-le-mul_left, mul-le-mul_right, arith, le-ltb, ltb-false, ne_eqb, drop_of_length-le, drop-cons}
use Rattle.std.proofs.Math.Path.{ap}
use Rattle.std.proofs.lemmas.Bool.{eqb-false}
use Rattle.groups.specs.Groups.{numbers_end}
use Rattle.groups.specs.Reading.{Token, num, bad, more, tokens}
use Rattle.groups.specs.Laws.NumberLaws as groups
use Rattle.numbers.specs.Numbers.{ending, first, number_in, raised}

-- ---- a group before a number
module _ (low scale i g : ℕ) (ts : List Token) (some : 1 ≤ scale) where
  module _ (w k : ℕ) where
    abbrev sum : ℕ
    sum = g + 128 * w

    same : low + scale * sum ≡ low + scale * g + scale * 128 * w
    same = omega (arith, mul-add scale g (128 * w), mul_assoc scale 128 w)

    over : numbers_end ≤ sum → numbers_end ≤ low + scale * g + scale * 128 * w
    over h = omega (arith, same, mul-le-mul_right sum some)

    raised_by : (x y : Bool) → eqb w 0 ≡ x → ltb sum numbers_end ≡ y →
        raised low scale i (cond x (bad ∷ ts) (cond y (num sum (k + 1) ∷ ts) (bad ∷ ts))) ≡
        cond x None (cond (ltb (low + scale * g + scale * 128 * w) numbers_end)
        (ending (low + scale * g + scale * 128 * w) (i + 1 + k)) None)
    raised_by true y p q = refl
    raised_by false false p q = rw (le-ltb _ _ (over (ltb-false sum numbers_end q)))
    raised_by false true p q =
        let n : sum ≡ 0 → ⊥ = λ z. eqb-false w 0 p (omega (arith, z)) in
        let end : i + (k + 1) ≡ i + 1 + k = omega arith in
        rw (ne_eqb sum 0 n)
        (ap (λ (v : ℕ). cond (ltb v numbers_end) (ending v (i + (k + 1))) None) same ∙
        ap (λ (j : ℕ). cond (ltb (low + scale * g + scale * 128 * w) numbers_end)
        (ending (low + scale * g + scale * 128 * w) j) None) end)

pub raised-more : (low scale i g : ℕ) (ts : List Token) → 1 ≤ scale →
    raised low scale i (more g ts) ≡ raised (low + scale * g) (scale * 128) (i + 1) ts
raised-more low scale i g [] some = refl
raised-more low scale i g (bad ∷ ts) some = refl
raised-more low scale i g (num w k ∷ ts) some =
    raised_by low scale i g ts some w k (eqb w 0) (ltb (g + 128 * w) numbers_end) refl refl

first_by : (i g w k : ℕ) (ts : List Token) (x y : Bool) →
    first i (cond x (bad ∷ ts) (cond y (num (g + 128 * w) (k + 1) ∷ ts) (bad ∷ ts))) ≡
    cond x None (cond y (ending (g + 128 * w) (i + 1 + k)) None)
first_by i g w k ts true y = refl
first_by i g w k ts false false = refl
first_by i g w k ts false true =
    let end : i + (k + 1) ≡ i + 1 + k = omega arith in
    ap (ending (g + 128 * w)) end

first_more : (i g : ℕ) (ts : List Token) → first i (more g ts) ≡ raised g 128 (i + 1) ts
first_more i g [] = refl
first_more i g (bad ∷ ts) = refl
first_more i g (num w k ∷ ts) = first_by i g w k ts (eqb w 0) (ltb (g + 128 * w) numbers_end)

-- ---- a number above a scale of 2^33 or more
none_by : (low scale w j : ℕ) (x : Bool) → eqb w 0 ≡ x → numbers_end ≤ scale →
    cond x None (cond (ltb (low + scale * w) numbers_end) (ending (low + scale * w) j) None) ≡ None
none_by low scale w j true p h = refl
none_by low scale w j false p h =
    let n = eqb-false w 0 p in
    let some : 1 ≤ w = omega arith in
    let large : numbers_end ≤ low + scale * w = omega (arith, mul-le-mul_left scale some) in
    rw (le-ltb (low + scale * w) numbers_end large)

pub raised-none : (low scale i : ℕ) (ts : List Token) → numbers_end ≤ scale → raised low scale i ts ≡ None
raised-none low scale i [] h = refl
raised-none low scale i (bad ∷ ts) h = refl
raised-none low scale i (num w k ∷ ts) h = none_by low scale w (i + k) (eqb w 0) refl h

-- ---- the byte at a place
module _ (s : List ℕ) (i : ℕ) where
  abbrev b : ℕ
  b = get_or s i 0

  abbrev behind : List Token
  behind = tokens (drop (i + 1) s)

  pub tokens_out : length s ≤ i → tokens (drop i s) ≡ []
  unfolding tokens
  tokens_out l = ap tokens (drop_of_length-le s l)

  tokens-here : i < length s → tokens (drop i s) ≡ tokens (b ∷ drop (i + 1) s)
  tokens-here l = ap tokens (drop-cons s i 0 l) ∙ ap (λ (j : ℕ). tokens (b ∷ drop j s)) (sym (add-one i))

  pub tokens-last : i < length s → b < 128 → tokens (drop i s) ≡ num b 1 ∷ behind
  tokens-last l h = tokens-here l ∙ groups.tokens-one b (drop (i + 1) s) h

  pub tokens-more : i < length s → 128 ≤ b → b < 256 → tokens (drop i s) ≡ more (b - 128) behind
  tokens-more l h f = tokens-here l ∙ groups.tokens-more b (drop (i + 1) s) h f

  pub none_here : length s ≤ i → None ≡ number_in s i
  none_here l = sym (ap (first i) (tokens_out l))

  pub one-here : i < length s → b < 128 → ending b (i + 1) ≡ number_in s i
  one-here l h = sym (ap (first i) (tokens-last l h))

  pub more-here : i < length s → 128 ≤ b → b < 256 → raised (b - 128) 128 (i + 1) behind ≡ number_in s i
  more-here l h f = sym (ap (first i) (tokens-more l h f) ∙ first_more i (b - 128) behind)
