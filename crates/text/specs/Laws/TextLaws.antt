-- Laws of the automaton: what is at rest stays, a run over two parts, the classes of a character. By induction on the characters.
use Rattle.std.specs.Prelude.{ℕ, ◌+◌, ◌-◌, ◌<◌, ◌≤◌, ◌≡◌, refl, List, [], ◌∷◌, ◌++◌, Bool, true, false, cond, eqb, leb}
use Rattle.std.proofs.Common.{ap, ◌∙◌, arith, le-leb, ne_eqb, eqb-true, leb-true}
use Rattle.text.specs.Text.{Scan, fault, State, refused, taken, next, run, step_of, digit_at}

-- what both sides of a choice have, each with what it knows of the test
pub by_case {ℓ} : {A : Type ℓ} (t : Bool) (P : A → Type 0) {x y : A} → (t ≡ true → P x) → (t ≡ false → P y) → P (cond t x y)
by_case true P h k = h refl
by_case false P h k = k refl

pub decide : (t : Bool) (A : Type 0) → (t ≡ true → A) → (t ≡ false → A) → A
decide true A h k = h refl
decide false A h k = k refl

pub no_yes : {A : Type 0} → false ≡ true → A
no_yes e = let z : ◌≡◌ {A = ℕ} 0 1 = cc in absurd (omega arith)

-- a state at rest stays
pub rests_refused : (k : ℕ) (l : List ℕ) → run (refused k) l ≡ refused k
rests_refused k [] = refl
rests_refused k (b ∷ l) = rests_refused k l

pub rests_taken : (n : ℕ) (l : List ℕ) → run (taken n) l ≡ taken n
rests_taken n [] = refl
rests_taken n (b ∷ l) = rests_taken n l

pub never_taken : (k m : ℕ) (l : List ℕ) → run (refused k) l ≡ taken m → ⊥
never_taken k m [] e = let z : ◌≡◌ {A = ℕ} 0 1 = cc in omega arith
never_taken k m (b ∷ l) e = never_taken k m l e

pub run-append : (a b : List ℕ) (st : State) → run st (a ++ b) ≡ run (run st a) b
run-append [] b st = refl
run-append (x ∷ a) b st = run-append a b (next st x)

-- a digit is none of the other characters
pub record Digit (b : ℕ) : Type 0 where
  pub no_open : b ≡ 40 → ⊥
  pub no_shut : b ≡ 41 → ⊥
  pub no_comma : b ≡ 44 → ⊥
  pub no_blank : b ≡ 32 → ⊥
  pub low : 48 ≤ b
  pub high : b ≤ 55

pub digit : (x : ℕ) → x < 8 → Digit (48 + x)
digit x h =
    record {
      no_open = λ e. omega arith;
      no_shut = λ e. omega arith;
      no_comma = λ e. omega arith;
      no_blank = λ e. omega arith;
      low = omega arith;
      high = omega arith;
    }

pub digit-step : (s : Scan) (x : ℕ) → x < 8 → step_of s (48 + x) ≡ digit_at s x
digit-step s x h =
    let d = digit x h in
    let e : 48 + x - 48 ≡ x = omega arith in
    let q : step_of s (48 + x) ≡ digit_at s (48 + x - 48)
    = simp (
      ne_eqb _ _ d.no_open,
      ne_eqb _ _ d.no_shut,
      ne_eqb _ _ d.no_comma,
      ne_eqb _ _ d.no_blank,
      le-leb _ _ d.low,
      le-leb _ _ d.high,
    ) in
    q ∙ ap (digit_at s) e

-- the classes of a character
pub data Class (b : ℕ) : Type 0 where
  is_open : b ≡ 40 → Class b
  is_shut : b ≡ 41 → Class b
  is_comma : b ≡ 44 → Class b
  is_blank : b ≡ 32 → Class b
  is_digit : (x : ℕ) → x < 8 → b ≡ 48 + x → Class b
  is_other : ((s : Scan) → step_of s b ≡ fault 15) → Class b

pub class : (b : ℕ) → Class b
class b =
    decide (eqb b 40) (Class b) (λ e. is_open (eqb-true _ _ e))
    (λ e0. decide (eqb b 41) (Class b) (λ e. is_shut (eqb-true _ _ e))
    (λ e1. decide (eqb b 44) (Class b) (λ e. is_comma (eqb-true _ _ e))
    (λ e2. decide (eqb b 32) (Class b) (λ e. is_blank (eqb-true _ _ e))
    (λ e3. decide (leb 48 b) (Class b)
    (λ e4. decide (leb b 55) (Class b)
    (λ e5. let lo : 48 ≤ b = leb-true _ _ e4 in let hi : b ≤ 55 = leb-true _ _ e5 in is_digit (b - 48) (omega arith) (omega arith))
    (λ e5. is_other (λ s. simp (e0, e1, e2, e3, e4, e5))))
    (λ e4. is_other (λ s. simp (e0, e1, e2, e3, e4)))))))
