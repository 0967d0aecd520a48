-- Counting: what equal and unequal numbers count, and a tally where one element is replaced, found, or more are appended.
use Rattle.std.specs.Prelude.{◌≡◌, refl, ◌≢◌, Bool, true, false, cond, eqb, T, get_or, set}
use mathlib.Core.List.{List, [], ◌∷◌, ◌++◌}
use Prim.Native.Nat.{ℕ, zero, suc, ◌+◌, ◌≤◌, ◌<◌}
use Rattle.std.proofs.Common.{le_of_suc-le-suc, not-suc-le-zero, eqb→eq}
use Rattle.std.proofs.Math.Decide.{ℕ_discrete}
use native.Mathlib.Omega.{arith}
use Rattle.std.proofs.Math.Dec.{eqb_refl}
use Rattle.std.proofs.Math.ListN.{length}
use Rattle.pool.specs.Tally.{same, tally}

cond_T : (b : Bool) (x y : ℕ) → T b → cond b x y ≡ x
cond_T true x y t = refl
cond_T false x y t = absurd t

cond_F : (b : Bool) (x y : ℕ) → (T b → ⊥) → cond b x y ≡ y
cond_F true x y f = absurd (f tt)
cond_F false x y f = refl

pub same_eq : (a : ℕ) → same a a ≡ 1
unfolding same
same_eq a = cond_T (eqb a a) 1 0 (eqb_refl a)

pub same_ne : (a b : ℕ) → a ≢ b → same a b ≡ 0
unfolding same
same_ne a b n = cond_F (eqb a b) 1 0 (λ t. n (eqb→eq a b t))

pub same_of : (a b : ℕ) → a ≡ b → same a b ≡ 1
same_of a b e = rw (← e) (same_eq a)

-- either equal, and 1, or not, and 0
pub data Same (a b : ℕ) : Type 0 where
  eq : a ≡ b → same a b ≡ 1 → Same a b
  ne : a ≢ b → same a b ≡ 0 → Same a b

pub same? : (a b : ℕ) → Same a b
same? a b = go (ℕ_discrete a b)
  where
    go : Dec (a ≡ b) → Same a b
    go (yes e) = eq e (same_of a b e)
    go (no n) = ne n (same_ne a b n)

pub same_pos : (a b : ℕ) → 0 < same a b → a ≡ b
same_pos a b h = go (same? a b)
  where
    go : Same a b → a ≡ b
    go (eq e z) = e
    go (ne n z) = absurd (omega arith)

pub same_le : (a b : ℕ) → same a b ≤ 1
same_le a b = go (same? a b)
  where
    go : Same a b → same a b ≤ 1
    go (eq e z) = omega arith
    go (ne n z) = omega arith

module _ {A : Type 0} where
  pub tally-set : (f : A → ℕ) (xs : List A) (i : ℕ) (x d : A) → i < length xs → tally f (set xs i x) + f (get_or xs i d) ≡ tally f xs + f x
  unfolding tally
  tally-set f [] i x d h = absurd (not-suc-le-zero h)
  tally-set f (y ∷ ys) zero x d h = omega arith
  tally-set f (y ∷ ys) (suc i) x d h = let e = tally-set f ys i x d (le_of_suc-le-suc h) in omega arith

  pub tally_ge : (f : A → ℕ) (xs : List A) (i : ℕ) (d : A) → f d ≡ 0 → f (get_or xs i d) ≤ tally f xs
  unfolding tally
  tally_ge f [] i d z = omega arith
  tally_ge f (y ∷ ys) zero d z = omega arith
  tally_ge f (y ∷ ys) (suc i) d z = let e = tally_ge f ys i d z in omega arith

  pub tally_find : (f : A → ℕ) (xs : List A) (d : A) → 0 < tally f xs → (i : ℕ) × (i < length xs) × (0 < f (get_or xs i d))
  unfolding tally
  tally_find f [] d h = absurd (omega arith)
  tally_find f (y ∷ ys) d h = go (ℕ_discrete (f y) 0) (tally_find f ys d)
    where
      go : Dec (f y ≡ 0) → (0 < tally f ys → (i : ℕ) × (i < length ys) × (0 < f (get_or ys i d))) → (i : ℕ) × (i < length (y ∷ ys)) × (0 < f (get_or (y ∷ ys) i d))
      go (yes z) r = let (i, b, p) = r (omega arith) in (suc i, omega arith, p)
      go (no z) r = (0, omega arith, omega arith)

  pub tally-append : (f : A → ℕ) (xs ys : List A) → tally f (xs ++ ys) ≡ tally f xs + tally f ys
  unfolding tally
  tally-append f [] ys = omega arith
  tally-append f (x ∷ xs) ys = let e = tally-append f xs ys in omega arith
