-- What rows fix: whether one of them holds, one answer, and one work space.
use Rattle.std.specs.Prelude.{◌≡◌, ◌⊎◌, List, [], ◌∷◌, ◌++◌, ℕ}
use Rattle.std.proofs.Common.{sym, ◌∙◌, inl, inr}
use Rattle.promises.specs.Rows.{Row, First, None}
use Rattle.promises.specs.Demand1.{WorkSpace}

-- where an answer is that of its rows, one of the first rows holds or none does
pub decide : (rs qs : List Row) (rest : ℕ → Type 0) (n : ℕ) → First (rs ++ qs) rest n → None rs ⊎ (None rs → ⊥)
decide [] qs rest n f = inl tt
decide (r ∷ rs) qs rest n (inl h) = inr (λ m. m.0 h.0)
decide (r ∷ rs) qs rest n (inr h) = go (decide rs qs rest n h.1)
  where
    go : None rs ⊎ (None rs → ⊥) → None (r ∷ rs) ⊎ (None (r ∷ rs) → ⊥)
    go (inl m) = inl (h.0, m)
    go (inr m) = inr (λ z. m z.1)

-- one answer where a row holds
pub same_first : (rs : List Row) (rest : ℕ → Type 0) (n m : ℕ) → First rs rest n → First rs rest m → (None rs → ⊥) → n ≡ m
same_first [] rest n m f g h = absurd (h tt)
same_first (r ∷ rs) rest n m (inl f) (inl g) h = f.1 ∙ sym g.1
same_first (r ∷ rs) rest n m (inl f) (inr g) h = absurd (g.0 f.0)
same_first (r ∷ rs) rest n m (inr f) (inl g) h = absurd (f.0 g.0)
same_first (r ∷ rs) rest n m (inr f) (inr g) h = same_first rs rest n m f.1 g.1 (λ z. h (f.0, z))

-- one work space
pub same_work : (rs : List Row) (ts ws us vs : List ℕ) → None rs ⊎ (None rs → ⊥) → WorkSpace rs ts ws us → WorkSpace rs ts ws vs → us ≡ vs
same_work rs ts ws us vs (inl n) a b = a.1 n ∙ sym (b.1 n)
same_work rs ts ws us vs (inr n) a b = a.0 n ∙ sym (b.0 n)
