-- The length and the elements of a list that is given by a function, and when two such lists agree. Each by induction on the length.
use Prim.Native.Nat.{ℕ, zero, suc, ◌<◌, suc-le-suc}
use Rattle.std.specs.Prelude.{◌≢◌, ◌≡◌, length, get_or, set, replicate}
use Rattle.std.proofs.Math.Path.{refl, ap, ap₂}
use mathlib.Core.List.{List, [], ◌∷◌}
use Rattle.std.proofs.Common.{arith}
use Rattle.table.specs.Tab.{tab}

module _ {A : Type 0} where
  pub length-tab : (n : ℕ) (f : ℕ → A) → length (tab n f) ≡ n
  unfolding tab
  length-tab zero f = refl
  length-tab (suc n) f = ap suc (length-tab n (λ i. f (suc i)))

  pub get_or-tab : (n : ℕ) (f : ℕ → A) (i : ℕ) (d : A) → i < n → get_or (tab n f) i d ≡ f i
  unfolding tab
  get_or-tab zero f i d h = absurd (omega arith)
  get_or-tab (suc n) f zero d h = refl
  get_or-tab (suc n) f (suc i) d h = get_or-tab n (λ j. f (suc j)) i d (omega arith)

  pub tab-same : (n : ℕ) (f g : ℕ → A) → ((i : ℕ) → i < n → f i ≡ g i) → tab n f ≡ tab n g
  unfolding tab
  tab-same zero f g h = refl
  tab-same (suc n) f g h = ap₂ ◌∷◌ (h zero (omega arith)) (tab-same n (λ i. f (suc i)) (λ i. g (suc i)) (λ i l. h (suc i) (suc-le-suc l)))

  -- where g is f but at j, g's list is f's with one element set
  pub tab-set : (n : ℕ) (f g : ℕ → A) (j : ℕ) → j < n → ((i : ℕ) → i < n → i ≢ j → g i ≡ f i) → tab n g ≡ set (tab n f) j (g j)
  unfolding tab
  tab-set zero f g j l h = absurd (omega arith)
  tab-set (suc n) f g zero l h = ap (λ (xs : List A). g zero ∷ xs) (tab-same n (λ i. g (suc i)) (λ i. f (suc i)) (λ i m. h (suc i) (suc-le-suc m) (omega arith)))
  tab-set (suc n) f g (suc j) l h =
      ap₂ ◌∷◌ (h zero (omega arith) (omega arith)) (tab-set n (λ i. f (suc i)) (λ i. g (suc i)) j (omega arith) (λ i m ne. h (suc i) (suc-le-suc m) (λ e. ne (omega arith))))

  -- a list is given by its own elements
  pub tab-get_or : (xs : List A) (d : A) → tab (length xs) (λ i. get_or xs i d) ≡ xs
  unfolding tab
  tab-get_or [] d = refl
  tab-get_or (x ∷ xs) d = ap (λ (ys : List A). x ∷ ys) (tab-get_or xs d)

  pub tab_always : (n : ℕ) (f : ℕ → A) (a : A) → ((i : ℕ) → i < n → f i ≡ a) → tab n f ≡ replicate n a
  unfolding tab
  tab_always zero f a h = refl
  tab_always (suc n) f a h = ap₂ ◌∷◌ (h zero (omega arith)) (tab_always n (λ i. f (suc i)) a (λ i l. h (suc i) (suc-le-suc l)))
