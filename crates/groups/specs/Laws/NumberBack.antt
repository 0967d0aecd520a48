-- Read back, one number: where bytes begin with a number, its groups stand there. By induction on the bytes.
use Rattle.std.specs.Prelude.{ℕ, ◌+◌, ◌-◌, ◌*◌, ◌/◌, ◌%◌, ◌<◌, ◌≤◌, ◌≡◌, refl, List, [], ◌∷◌, ◌++◌, length, eqb, ltb}
use Rattle.std.proofs.Common.{sym, ap, subst, ◌∙◌, arith, ltb-true, ltb-false}
use Rattle.std.proofs.lemmas.Bool.{eqb-false}
use Rattle.text.specs.Laws.TextLaws.{by_case}
use Rattle.groups.specs.Groups.{numbers_end, number}
use Rattle.groups.specs.Reading.{Token, num, bad, more, tokens}
use Rattle.groups.specs.Laws.NumberLaws.{number-one, number_more}

-- s begins with the number v, which takes k bytes, and ts are the numbers behind it
pub record Begins (s : List ℕ) (v k : ℕ) (ts : List Token) : Type 0 where
  pub rest : List ℕ
  pub parts : s ≡ number v ++ rest
  pub behind : tokens rest ≡ ts
  pub size : k ≡ length (number v)
  pub small : v < numbers_end

none : {A : Type 0} {t : Token} {ts : List Token} → ◌≡◌ {A = List Token} [] (t ∷ ts) → A
none e = let z : ◌≡◌ {A = ℕ} 0 1 = cc in absurd (omega arith)

not_bad : {A : Type 0} {v k : ℕ} {ts us : List Token} → bad ∷ us ≡ num v k ∷ ts → A
not_bad e = let z : ◌≡◌ {A = ℕ} 0 1 = cc in absurd (omega arith)

one : (b : ℕ) (s : List ℕ) (v k : ℕ) (ts : List Token) → b < 128 → num b 1 ∷ tokens s ≡ num v k ∷ ts
    → Begins (b ∷ s) v k ts
one b s v k ts l e =
    let value : b ≡ v = cc in
    let count : 1 ≡ k = cc in
    let single : number v ≡ b ∷ [] = ap number (sym value) ∙ number-one b l in
    record {
      rest = s;
      parts = ap (λ (t : List ℕ). t ++ s) (sym single);
      behind = cc;
      size = sym count ∙ sym (ap length single);
      small = omega (arith, value);
    }

-- a group before the groups of a number
grown : (b : ℕ) (s : List ℕ) (w j : ℕ) (ts : List Token) → 128 ≤ b → b < 256 → (w ≡ 0 → ⊥)
    → b - 128 + 128 * w < numbers_end → Begins s w j ts → Begins (b ∷ s) (b - 128 + 128 * w) (j + 1) ts
grown b s w j ts lo hi some small g =
    let v : ℕ = b - 128 + 128 * w in
    let low : 128 + v % 128 ≡ b = omega arith in
    let high : v / 128 ≡ w = omega arith in
    let groups : number v ≡ b ∷ number w
    = number_more v (omega arith) small ∙ ap (λ (x : ℕ). x ∷ number (v / 128)) low
    ∙ ap (λ (x : ℕ). b ∷ number x) high in
    record {
      rest = g.rest;
      parts = ap (λ (t : List ℕ). b ∷ t) g.parts ∙ ap (λ (t : List ℕ). t ++ g.rest) (sym groups);
      behind = g.behind;
      size = omega (arith, g.size, ap length groups);
      small = small;
    }

module _ (b : ℕ) (s : List ℕ) (v k : ℕ) (ts : List Token) (lo : 128 ≤ b) (hi : b < 256)
    (hyp : (w j : ℕ) (us : List Token) → tokens s ≡ num w j ∷ us → Begins s w j us) where
  above : (us : List Token) → tokens s ≡ us → more (b - 128) us ≡ num v k ∷ ts → Begins (b ∷ s) v k ts
  above [] q e = none e
  above (bad ∷ us) q e = not_bad e
  above (num w j ∷ us) q e =
      let P : List Token → Type 0 = λ xs. xs ≡ num v k ∷ ts → Begins (b ∷ s) v k ts in
      by_case (eqb w 0) P (λ z x. not_bad x)
      (λ z. by_case (ltb (b - 128 + 128 * w) numbers_end) P
      (λ l x.
      let value : b - 128 + 128 * w ≡ v = cc in
      let count : j + 1 ≡ k = cc in
      let others : us ≡ ts = cc in
      subst (λ (y : ℕ). Begins (b ∷ s) y k ts) value
      (subst (λ (y : ℕ). Begins (b ∷ s) (b - 128 + 128 * w) y ts) count
      (subst (λ (ys : List Token). Begins (b ∷ s) (b - 128 + 128 * w) (j + 1) ys) others
      (grown b s w j us lo hi (eqb-false w 0 z) (ltb-true (b - 128 + 128 * w) numbers_end l) (hyp w j us q)))))
      (λ l x. not_bad x)) e

pub number_back : (s : List ℕ) (v k : ℕ) (ts : List Token) → tokens s ≡ num v k ∷ ts → Begins s v k ts
unfolding tokens
number_back [] v k ts e = none e
number_back (b ∷ s) v k ts e =
    let P : List Token → Type 0 = λ xs. xs ≡ num v k ∷ ts → Begins (b ∷ s) v k ts in
    by_case (ltb b 128) P (λ l x. one b s v k ts (ltb-true b 128 l) x)
    (λ l. by_case (ltb b 256) P
    (λ h x. above b s v k ts (ltb-false b 128 l) (ltb-true b 256 h) (number_back s) (tokens s) refl x)
    (λ h x. not_bad x)) e
