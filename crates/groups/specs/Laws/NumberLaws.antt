-- Laws of one number: its first group and the others, how many groups it takes, and that it is read as itself.
use Rattle.std.specs.Prelude.{ℕ, zero, suc, ◌+◌, ◌-◌, ◌*◌, ◌/◌, ◌%◌, ◌<◌, ◌≤◌, ◌≡◌, refl, List, [], ◌∷◌, ◌++◌, Bool, cond, length, ltb}
use Rattle.std.proofs.Common.{sym, ap, ◌∙◌, arith, lt-ltb, le-ltb, ne_eqb, ltb-true, ltb-false}
use Rattle.text.specs.Laws.TextLaws.{by_case}
use Rattle.groups.specs.Groups.{numbers_end, groups_f, number}
use Rattle.groups.specs.Reading.{Token, num, more, tokens}

-- v takes at most f + 1 groups
abbrev pub Under : ℕ → ℕ → Type 0
Under zero v = v < 128
Under (suc f) v = Under f (v / 128)

pub under : (v : ℕ) → v < numbers_end → Under 4 v
under v h = omega arith

-- one more group than needed is not used
enough : (f v : ℕ) → Under f v → groups_f (suc f) v ≡ groups_f f v
unfolding groups_f
enough zero v h = ap (λ (b : Bool). cond b (v ∷ []) ((128 + v % 128) ∷ (v / 128) ∷ [])) (lt-ltb v 128 h)
enough (suc f) v h =
    ap (λ (gs : List ℕ). cond (ltb v 128) (v ∷ []) ((128 + v % 128) ∷ gs)) (enough f (v / 128) h)

-- the groups of a number: one, or one and those of what is above it
pub number-one : (v : ℕ) → v < 128 → number v ≡ v ∷ []
unfolding number groups_f
number-one v h = rw (lt-ltb v 128 h) refl

pub number_more : (v : ℕ) → 128 ≤ v → v < numbers_end → number v ≡ (128 + v % 128) ∷ number (v / 128)
unfolding number groups_f
number_more v l h =
    ap (λ (b : Bool). cond b (v ∷ []) ((128 + v % 128) ∷ groups_f 3 (v / 128))) (le-ltb v 128 l)
    ∙ ap (λ (gs : List ℕ). (128 + v % 128) ∷ gs) (sym (enough 3 (v / 128) (omega arith)))

-- a number's groups are read as the number, whatever follows
pub tokens-one : (v : ℕ) (s : List ℕ) → v < 128 → tokens (v ∷ s) ≡ num v 1 ∷ tokens s
unfolding tokens
tokens-one v s h = rw (lt-ltb v 128 h) refl

pub tokens-more : (b : ℕ) (s : List ℕ) → 128 ≤ b → b < 256 → tokens (b ∷ s) ≡ more (b - 128) (tokens s)
unfolding tokens
tokens-more b s h l = rw (le-ltb b 128 h, lt-ltb b 256 l) refl

more_num : (g v k : ℕ) (ts : List Token) → (v ≡ 0 → ⊥) → g + 128 * v < numbers_end
    → more g (num v k ∷ ts) ≡ num (g + 128 * v) (k + 1) ∷ ts
more_num g v k ts n h = rw (ne_eqb v 0 n, lt-ltb (g + 128 * v) numbers_end h) refl

-- a group before the groups of what is above it
tokens-above : (v : ℕ) (gs s : List ℕ) → 128 ≤ v → v < numbers_end
    → tokens (gs ++ s) ≡ num (v / 128) (length gs) ∷ tokens s
    → tokens ((128 + v % 128) ∷ gs ++ s) ≡ num v (suc (length gs)) ∷ tokens s
tokens-above v gs s l h e =
    let low : 128 + v % 128 - 128 ≡ v % 128 = omega arith in
    let value : v % 128 + 128 * (v / 128) ≡ v = omega arith in
    let count : length gs + 1 ≡ suc (length gs) = omega arith in
    tokens-more (128 + v % 128) (gs ++ s) (omega arith) (omega arith)
    ∙ ap (λ (g : ℕ). more g (tokens (gs ++ s))) low
    ∙ ap (more (v % 128)) e
    ∙ more_num (v % 128) (v / 128) (length gs) (tokens s) (λ z. omega arith) (omega arith)
    ∙ ap (λ (w : ℕ). num w (length gs + 1) ∷ tokens s) value
    ∙ ap (λ (k : ℕ). num v k ∷ tokens s) count

tokens-groups : (f v : ℕ) (s : List ℕ) → Under f v → v < numbers_end
    → tokens (groups_f f v ++ s) ≡ num v (length (groups_f f v)) ∷ tokens s
unfolding groups_f
tokens-groups zero v s u h = tokens-one v s u
tokens-groups (suc f) v s u h =
    by_case (ltb v 128) (λ (gs : List ℕ). tokens (gs ++ s) ≡ num v (length gs) ∷ tokens s)
    (λ e. tokens-one v s (ltb-true v 128 e))
    (λ e. tokens-above v (groups_f f (v / 128)) s (ltb-false v 128 e) h (tokens-groups f (v / 128) s u (omega arith)))

pub tokens-number : (v : ℕ) (s : List ℕ) → v < numbers_end
    → tokens (number v ++ s) ≡ num v (length (number v)) ∷ tokens s
unfolding number
tokens-number v s h = tokens-groups 4 v s (under v h) h
