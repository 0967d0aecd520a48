-- Bytes that are no blanks, record by record.
use Rattle.std.proofs.Common.{◌≡◌, ◌≢◌, ap, ◌∙◌, Bool, true, false, cond, List, [], ◌∷◌, ◌++◌, ℕ, suc, ◌+◌, ◌%◌, ◌<◌, eqb, length, length-append, get_or, arith}
use Rattle.text.specs.Limits.{record_bytes}
use Rattle.text.specs.Text.{others}
use Rattle.text.specs.Laws.Blanks.{others_out, an_other}

pub others-append : (a b : List ℕ) → others (a ++ b) ≡ others a + others b
unfolding others
others-append [] b = omega arith
others-append (x ∷ a) b = go (eqb x 32) (others-append a b)
  where
    go : (c : Bool) → others (a ++ b) ≡ others a + others b → cond c (others (a ++ b)) (suc (others (a ++ b))) ≡ cond c (others a) (suc (others a)) + others b
    go true e = e
    go false e = omega (arith, e)

-- of what is left, a record and what stands behind it
pub behind : (s x t : List ℕ) → s ≡ x ++ t → others s ≡ others x + others t
behind s x t e = ap others e ∙ others-append x t

pub still_whole : (s x t : List ℕ) → s ≡ x ++ t → length x ≡ record_bytes → length s % record_bytes ≡ 0 → length t % record_bytes ≡ 0
still_whole s x t e n w = omega (arith, ap length e, length-append x t, n, w)

-- less than a record is nothing
pub none_left : (s : List ℕ) → length s % record_bytes ≡ 0 → length s < record_bytes → others s ≡ 0
none_left s e l = others_out s 0 (omega arith)

pub another_first : (s : List ℕ) → 0 < length s → get_or s 0 0 ≢ 32 → others s ≢ 0
another_first s l n e = omega (arith, e, an_other s 0 l n)
