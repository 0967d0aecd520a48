-- A test tells whether a condition holds; and a chain of tests gives the answer of the first row that holds.
use Rattle.std.specs.Prelude.{◌≡◌, refl, ◌⊎◌, ◌↔◌, Bool, true, false, cond, not, ◌&&◌, ◌||◌, List, [], ◌∷◌, ◌++◌, ℕ, ◌≤◌, ◌<◌, eqb, leb, ltb}
use Rattle.std.proofs.Common.{sym, ap, ◌∙◌, subst, inl, inr, true≢false, arith, ltb-true, ltb-false, leb-true, leb-false, eqb-true}
use Rattle.std.proofs.lemmas.Bool.{false≢true, eqb-false}
use Rattle.answers.specs.Answers.{DONE, unless}
use Rattle.answers.specs.Laws.Unless.{goes_on_lem, refuses}
use Rattle.pool.specs.Script.{among}
use Rattle.promises.specs.Rows.{Row, First, Answers, None, OneOf}

abbrev pub Tells : Bool → Type 0 → Type 0
Tells b A = (b ≡ true → A) × (b ≡ false → A → ⊥)

pub tells_eq : (a b : ℕ) → Tells (eqb a b) (a ≡ b)
tells_eq a b = (eqb-true a b, eqb-false a b)

pub tells_le : (a b : ℕ) → Tells (leb a b) (a ≤ b)
tells_le a b = (leb-true a b, λ e h. omega (arith, leb-false a b e))

pub tells_lt : (a b : ℕ) → Tells (ltb a b) (a < b)
tells_lt a b = (ltb-true a b, λ e h. omega (arith, ltb-false a b e))

pub tells_not : (b : Bool) {A : Type 0} → Tells b A → Tells (not b) (A → ⊥)
tells_not true t = (λ e. absurd (false≢true e), λ e f. f (t.0 refl))
tells_not false t = (λ e. t.1 refl, λ e. absurd (true≢false e))

pub tells_and : (b c : Bool) {A B : Type 0} → Tells b A → Tells c B → Tells (b && c) (A × B)
tells_and true true t u = (λ e. (t.0 refl, u.0 refl), λ e. absurd (true≢false e))
tells_and true false t u = (λ e. absurd (false≢true e), λ e h. u.1 refl h.1)
tells_and false c t u = (λ e. absurd (false≢true e), λ e h. t.1 refl h.0)

pub tells_or : (b c : Bool) {A B : Type 0} → Tells b A → Tells c B → Tells (b || c) (A ⊎ B)
tells_or true c t u = (λ e. inl (t.0 refl), λ e. absurd (true≢false e))
tells_or false true t u = (λ e. inr (u.0 refl), λ e. absurd (true≢false e))
tells_or false false {A} {B} t u = (λ e. absurd (false≢true e), λ e h. neither h)
  where
    neither : A ⊎ B → ⊥
    neither (inl a) = t.1 refl a
    neither (inr b) = u.1 refl b

-- the same said in other words
pub tells_as : {b : Bool} {A B : Type 0} → Tells b A → (A → B) → (B → A) → Tells b B
tells_as t f g = (λ e. f (t.0 e), λ e h. t.1 e (g h))

pub tells_among : (c : ℕ) (ds : List ℕ) → Tells (among c ds) (OneOf c ds)
tells_among c [] = (λ e. absurd (false≢true e), λ e h. h)
tells_among c (d ∷ ds) = tells_or (eqb c d) (among c ds) (tells_eq c d) (tells_among c ds)

-- the first test of a chain, and the first row; P is what the later rows say
pub first : {X : Type 0} (f : X → ℕ) (P : ℕ → Type 0) (b : Bool) {A : Type 0} {n : ℕ} (x y : X) → Tells b A → f x ≡ n → (b ≡ false → P (f y)) → (A × (f (cond b x y) ≡ n)) ⊎ ((A → ⊥) × P (f (cond b x y)))
first f P true x y t e k = inl (t.0 refl, e)
first f P false x y t e k = inr (t.1 refl, k refl)

-- every number of the rows has the property
abbrev pub Each : (ℕ → Type 0) → List Row → Type 0
Each P [] = Unit {0}
Each P (r ∷ rs) = P r.number × Each P rs

-- an answer that is no row's number: no row holds
pub first-none : (rs : List Row) (rest : ℕ → Type 0) (n : ℕ) → Each (λ k. n ≡ k → ⊥) rs → First rs rest n → None rs × rest n
first-none [] rest n h k = (tt, k)
first-none (r ∷ rs) rest n h (inl k) = absurd (h.0 k.1)
first-none (r ∷ rs) rest n h (inr k) = let (m, q) = first-none rs rest n h.1 k.1 in ((k.0, m), q)

-- rows that do not hold are passed over
pub passed_over : (rs qs : List Row) (rest : ℕ → Type 0) (n : ℕ) → None rs → First (rs ++ qs) rest n → First qs rest n
passed_over [] qs rest n h k = k
passed_over (r ∷ rs) qs rest n h (inl k) = absurd (h.0 k.0)
passed_over (r ∷ rs) qs rest n h (inr k) = passed_over rs qs rest n h.1 k.1

-- the last row alone: its number is given exactly if it holds
pub last_row : {A : Type 0} {n k : ℕ} → (k ≡ DONE → ⊥) → (A × (n ≡ k)) ⊎ ((A → ⊥) × (n ≡ DONE)) → (n ≡ k) ↔ A
last_row d (inl h) = (λ e. h.0, λ a. h.1)
last_row d (inr h) = (λ e. absurd (d (sym e ∙ h.1)), λ a. absurd (h.0 a))

-- rows whose answer is known, before others
pub rows_before : (rs qs : List Row) (rest : ℕ → Type 0) (k n : ℕ) → Each (λ j. j ≡ DONE → ⊥) rs → Answers rs k → ((k ≡ DONE → ⊥) → n ≡ k) → (k ≡ DONE → First qs rest n) → First (rs ++ qs) rest n
rows_before [] qs rest k n h a f g = g a
rows_before (r ∷ rs) qs rest k n h (inl a) f g = inl (a.0, f (λ z. h.0 (sym a.1 ∙ z)) ∙ a.1)
rows_before (r ∷ rs) qs rest k n h (inr a) f g = inr (a.0, rows_before rs qs rest k n h.1 a.1 f g)

-- tests whose answer is known, at the start of a call
module _ (rs qs : List Row) (n : ℕ) (each : Each (λ j. j ≡ DONE → ⊥) rs) (a : Answers rs n) where
  pub unless-first : {X : Type 0} (f : X → ℕ) (rest : ℕ → Type 0) (refuse : ℕ → X) (go : X) → ((m : ℕ) → f (refuse m) ≡ m) → (n ≡ DONE → First qs rest (f go))
      → First (rs ++ qs) rest (f (unless n refuse go))
  unless-first f rest refuse go e g =
      rows_before rs qs rest n (f (unless n refuse go)) each a (λ d. ap f (refuses n refuse go d) ∙ e n)
      (λ z. subst (First qs rest) (sym (ap f (goes_on_lem n refuse go z))) (g z))

-- no row holds exactly if the answer is DONE
pub answered-none : (rs : List Row) (n : ℕ) → Each (λ j. j ≡ DONE → ⊥) rs → Answers rs n → n ≡ DONE → None rs
answered-none rs n each a z = (first-none rs (λ m. m ≡ DONE) n (differs rs each) a).0
  where
    differs : (ps : List Row) → Each (λ j. j ≡ DONE → ⊥) ps → Each (λ j. n ≡ j → ⊥) ps
    differs [] e = tt
    differs (p ∷ ps) e = ((λ q. e.0 (sym q ∙ z)), differs ps e.1)

pub none-answered : (rs : List Row) (n : ℕ) → None rs → Answers rs n → n ≡ DONE
none-answered [] n h a = a
none-answered (r ∷ rs) n h (inl a) = absurd (h.0 a.0)
none-answered (r ∷ rs) n h (inr a) = none-answered rs n h.1 a.1

pub none_both : (rs qs : List Row) → (None rs × None qs) ↔ None (rs ++ qs)
none_both [] qs = ((λ h. h.1), (λ h. (tt, h)))
none_both (r ∷ rs) qs = ((λ h. (h.0.0, (none_both rs qs).0 (h.0.1, h.1))), (λ h. let k = (none_both rs qs).1 h.1 in ((h.0, k.0), k.1)))
