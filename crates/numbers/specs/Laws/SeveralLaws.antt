-- What is added up over the bytes from a place on is the number that begins there: by the place of its last group.
use Rattle.std.specs.Prelude.{ℕ, ◌+◌, ◌-◌, ◌*◌, ◌%◌, ◌<◌, ◌≤◌, ◌≡◌, refl, Option, None, Bool, true, false, cond, List, eqb, ltb, leb, length, drop, get_or}
use Rattle.std.proofs.Common.{sym, ap, ◌∙◌, mul-le-mul_right, arith, le-ltb, leb-true, leb-false}
use Rattle.std.proofs.Math.ListN.{get_or-eq_default}
use Rattle.groups.specs.Groups.{numbers_end}
use Rattle.groups.specs.Reading.{tokens}
use Rattle.numbers.specs.Numbers.{ending, ended, raised, number_in}
use Rattle.numbers.specs.Several.{has_third, has_fourth, has_fifth, last_at, sum_of, sum}
use Rattle.numbers.specs.declared.Number.{Number}
use Rattle.numbers.specs.Laws.RaisedLaws.{raised-more, raised-none, tokens_out, tokens-last, tokens-more, more-here}

ended-none : (v j : ℕ) (x : Bool) → numbers_end ≤ v → cond x None (cond (ltb v numbers_end) (ending v j) None) ≡ None
ended-none v j true h = refl
ended-none v j false h = rw (le-ltb v numbers_end h)

-- a 0 or 1 times a number
pub once : (c x : ℕ) → c ≤ 1 → c * x ≤ x
once c x l = omega (arith, mul-le-mul_right x l)

module _ (s : List ℕ) (fits : (j : ℕ) → get_or s j 0 < 256) where
  top_off : (j : ℕ) → 128 ≤ get_or s j 0 → get_or s j 0 % 128 ≡ get_or s j 0 - 128
  top_off j h = omega (arith, fits j)

  -- ---- one group above those that come to low
  group_last : (low scale j : ℕ) → get_or s j 0 < 128 →
      raised low scale j (tokens (drop j s)) ≡ ended (low + scale * get_or s j 0) (get_or s j 0) (j + 1)
  group_last low scale j h = go (leb (length s) j) refl
    where
      go : (x : Bool) → leb (length s) j ≡ x →
          raised low scale j (tokens (drop j s)) ≡ ended (low + scale * get_or s j 0) (get_or s j 0) (j + 1)
      go true q =
          let out : length s ≤ j = leb-true (length s) j q in
          ap (raised low scale j) (tokens_out s j out)
          ∙ sym (ap (λ (w : ℕ). ended (low + scale * get_or s j 0) w (j + 1)) (get_or-eq_default s 0 out))
      go false q = ap (raised low scale j) (tokens-last s j (leb-false (length s) j q) h)

  within : (j : ℕ) → 128 ≤ get_or s j 0 → j < length s
  within j h = go (leb (length s) j) refl
    where
      go : (x : Bool) → leb (length s) j ≡ x → j < length s
      go true q = absurd (omega (arith, get_or-eq_default s 0 (leb-true (length s) j q)))
      go false q = leb-false (length s) j q

  group_more : (low scale j low₂ scale₂ j₂ : ℕ) → 128 ≤ get_or s j 0 → 1 ≤ scale →
      low + scale * (get_or s j 0 - 128) ≡ low₂ → scale * 128 ≡ scale₂ → j + 1 ≡ j₂ →
      raised low scale j (tokens (drop j s)) ≡ raised low₂ scale₂ j₂ (tokens (drop j₂ s))
  group_more low scale j low₂ scale₂ j₂ h some e f g =
      ap (raised low scale j) (tokens-more s j (within j h) h (fits j))
      ∙ raised-more low scale j (get_or s j 0 - 128) (tokens (drop (j + 1) s)) some
      ∙ ap (λ (x : ℕ). raised x (scale * 128) (j + 1) (tokens (drop (j + 1) s))) e
      ∙ ap (λ (x : ℕ). raised low₂ x (j + 1) (tokens (drop (j + 1) s))) f
      ∙ ap (λ (x : ℕ). raised low₂ scale₂ x (tokens (drop x s))) g

  module _ (i : ℕ) where
    module _ (h : 128 ≤ get_or s i 0) where
      abbrev total : ℕ → ℕ → ℕ → ℕ
      total = sum_of (get_or s i 0) (get_or s (i + 1) 0) (get_or s (i + 2) 0) (get_or s (i + 3) 0) (get_or s (i + 4) 0)

      abbrev third : ℕ
      third = has_third (get_or s (i + 1) 0)

      abbrev fourth : ℕ
      fourth = has_fourth (get_or s (i + 1) 0) (get_or s (i + 2) 0)

      abbrev fifth : ℕ
      fifth = has_fifth (get_or s (i + 1) 0) (get_or s (i + 2) 0) (get_or s (i + 3) 0)

      abbrev whole : ℕ
      whole = total third fourth fifth

      abbrev last : ℕ
      last = last_at i (get_or s (i + 1) 0) (get_or s (i + 2) 0) (get_or s (i + 3) 0)

      abbrev low₁ : ℕ
      low₁ = get_or s i 0 - 128

      abbrev low₂ : ℕ
      low₂ = low₁ + 128 * (get_or s (i + 1) 0 - 128)

      abbrev low₃ : ℕ
      low₃ = low₂ + 16384 * (get_or s (i + 2) 0 - 128)

      abbrev low₄ : ℕ
      low₄ = low₃ + 2097152 * (get_or s (i + 3) 0 - 128)

      abbrev from : ℕ → ℕ → ℕ → Type 0
      from low scale j = raised low scale j (tokens (drop j s)) ≡ number_in s i

      abbrev Is : Type 0
      Is = ended (whole) (get_or s (last) 0) (last + 1) ≡ number_in s i

      sum_by : (x y z : ℕ) → third ≡ x → fourth ≡ y → fifth ≡ z → whole ≡ total x y z
      sum_by x y z e f g =
          ap (λ (c : ℕ). total c (fourth) (fifth)) e
          ∙ ap (λ (c : ℕ). total x c (fifth)) f
          ∙ ap (total x y) g

      -- the last group stands at m
      last_by : (low scale m : ℕ) → from low scale m → get_or s m 0 < 128 →
          last ≡ m → whole ≡ low + scale * get_or s m 0 → Is
      last_by low scale m p b e f =
          ap (λ (j : ℕ). ended (whole) (get_or s j 0) (j + 1)) e
          ∙ ap (λ (v : ℕ). ended v (get_or s m 0) (m + 1)) f
          ∙ sym (group_last low scale m b)
          ∙ p

      five_more : 128 ≤ get_or s (i + 1) 0 → 128 ≤ get_or s (i + 2) 0 → 128 ≤ get_or s (i + 3) 0 → from low₄ 268435456 (i + 4) →
          (x : Bool) → leb 128 (get_or s (i + 4) 0) ≡ x → Is
      five_more b₁ b₂ b₃ p x e = go x e
        where
          all : whole ≡ total 1 1 1
          all =
              sum_by 1 1 1 (omega (arith, fits (i + 1))) (omega (arith, fits (i + 1), fits (i + 2)))
              (omega (arith, fits (i + 1), fits (i + 2), fits (i + 3)))

          added : total 1 1 1 ≡ low₄ + 268435456 * get_or s (i + 4) 0
          added = omega (arith, top_off i h, top_off (i + 1) b₁, top_off (i + 2) b₂, top_off (i + 3) b₃)

          go : (x : Bool) → leb 128 (get_or s (i + 4) 0) ≡ x → Is
          go false q =
              last_by low₄ 268435456 (i + 4) p (leb-false 128 (get_or s (i + 4) 0) q)
              (omega (arith, fits (i + 1), fits (i + 2), fits (i + 3)))
              (all ∙ added)
          go true q =
              let b₄ : 128 ≤ get_or s (i + 4) 0 = leb-true 128 (get_or s (i + 4) 0) q in
              ended-none (whole) (last + 1) (eqb (get_or s (last) 0) 0) (omega (arith, all))
              ∙ sym (raised-none (low₄ + 268435456 * (get_or s (i + 4) 0 - 128)) 34359738368 (i + 5) (tokens (drop (i + 5) s)) (omega arith))
              ∙ sym (group_more low₄ 268435456 (i + 4) _ 34359738368 (i + 5) b₄ (omega arith) refl refl (omega arith))
              ∙ p

      four-more : 128 ≤ get_or s (i + 1) 0 → 128 ≤ get_or s (i + 2) 0 → from low₃ 2097152 (i + 3) →
          (x : Bool) → leb 128 (get_or s (i + 3) 0) ≡ x → Is
      four-more b₁ b₂ p true q =
          let b₃ : 128 ≤ get_or s (i + 3) 0 = leb-true 128 (get_or s (i + 3) 0) q in
          five_more b₁ b₂ b₃
          (sym (group_more low₃ 2097152 (i + 3) low₄ 268435456 (i + 4) b₃ (omega arith) refl refl (omega arith)) ∙ p)
          (leb 128 (get_or s (i + 4) 0)) refl
      four-more b₁ b₂ p false q =
          let b₃ : get_or s (i + 3) 0 < 128 = leb-false 128 (get_or s (i + 3) 0) q in
          last_by low₃ 2097152 (i + 3) p b₃
          (omega (arith, fits (i + 1), fits (i + 2)))
          (sum_by 1 1 0 (omega (arith, fits (i + 1))) (omega (arith, fits (i + 1), fits (i + 2))) (omega (arith, fits (i + 1), fits (i + 2)))
          ∙ omega (arith, top_off i h, top_off (i + 1) b₁, top_off (i + 2) b₂))

      three-more : 128 ≤ get_or s (i + 1) 0 → from low₂ 16384 (i + 2) → (x : Bool) → leb 128 (get_or s (i + 2) 0) ≡ x → Is
      three-more b₁ p true q =
          let b₂ : 128 ≤ get_or s (i + 2) 0 = leb-true 128 (get_or s (i + 2) 0) q in
          four-more b₁ b₂
          (sym (group_more low₂ 16384 (i + 2) low₃ 2097152 (i + 3) b₂ (omega arith) refl refl (omega arith)) ∙ p)
          (leb 128 (get_or s (i + 3) 0)) refl
      three-more b₁ p false q =
          let b₂ : get_or s (i + 2) 0 < 128 = leb-false 128 (get_or s (i + 2) 0) q in
          last_by low₂ 16384 (i + 2) p b₂
          (omega (arith, fits (i + 1), fits (i + 3)))
          (sum_by 1 0 0 (omega (arith, fits (i + 1))) (omega (arith, fits (i + 1))) (omega (arith, fits (i + 1), fits (i + 3)))
          ∙ omega (arith, top_off i h, top_off (i + 1) b₁))

      two-more : from low₁ 128 (i + 1) → (x : Bool) → leb 128 (get_or s (i + 1) 0) ≡ x → Is
      two-more p true q =
          let b₁ : 128 ≤ get_or s (i + 1) 0 = leb-true 128 (get_or s (i + 1) 0) q in
          three-more b₁
          (sym (group_more low₁ 128 (i + 1) low₂ 16384 (i + 2) b₁ (omega arith) refl refl (omega arith)) ∙ p)
          (leb 128 (get_or s (i + 2) 0)) refl
      two-more p false q =
          let b₁ : get_or s (i + 1) 0 < 128 = leb-false 128 (get_or s (i + 1) 0) q in
          last_by low₁ 128 (i + 1) p b₁
          (omega (arith, fits (i + 2), fits (i + 3)))
          (sum_by 0 0 0 (omega arith) (omega (arith, fits (i + 2))) (omega (arith, fits (i + 2), fits (i + 3)))
          ∙ omega (arith, top_off i h))

      pub several_is : (b₀ b₁ b₂ b₃ b₄ w : ℕ) → b₀ ≡ get_or s i 0 → b₁ ≡ get_or s (i + 1) 0 → b₂ ≡ get_or s (i + 2) 0 → b₃ ≡ get_or s (i + 3) 0 →
          b₄ ≡ get_or s (i + 4) 0 → w ≡ get_or s (last_at i b₁ b₂ b₃) 0 →
          ended (sum b₀ b₁ b₂ b₃ b₄) w (last_at i b₁ b₂ b₃ + 1) ≡ number_in s i
      several_is b₀ b₁ b₂ b₃ b₄ w e₀ e₁ e₂ e₃ e₄ e =
          ap (λ (x : ℕ). ended (sum x b₁ b₂ b₃ b₄) w (last_at i b₁ b₂ b₃ + 1)) e₀
          ∙ ap (λ (x : ℕ). ended (sum (get_or s i 0) b₁ b₂ b₃ b₄) x (last_at i b₁ b₂ b₃ + 1)) e
          ∙ ap (λ (x : ℕ). of x b₂ b₃ b₄) e₁
          ∙ ap (λ (x : ℕ). of (get_or s (i + 1) 0) x b₃ b₄) e₂
          ∙ ap (λ (x : ℕ). of (get_or s (i + 1) 0) (get_or s (i + 2) 0) x b₄) e₃
          ∙ ap (of (get_or s (i + 1) 0) (get_or s (i + 2) 0) (get_or s (i + 3) 0)) e₄
          ∙ two-more (more-here s i (within i h) h (fits i)) (leb 128 (get_or s (i + 1) 0)) refl
        where
          of : ℕ → ℕ → ℕ → ℕ → Option Number
          of x y z u = ended (sum (get_or s i 0) x y z u) (get_or s (last_at i x y z) 0) (last_at i x y z + 1)
