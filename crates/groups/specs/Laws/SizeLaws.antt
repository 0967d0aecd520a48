-- The size of a run of bytes: its fault by the two tests, and what bytes without one are.
use Rattle.std.specs.Prelude.{◌≡◌, ◌≢◌, Bool, List, ℕ, ◌≤◌, ◌<◌}
use Rattle.std.proofs.Math.Path.{refl}
use Rattle.std.proofs.Common.{ap}
use Rattle.std.proofs.Math.Bool.{true, false, cond}
use native.Mathlib.Omega.{arith}
use Rattle.std.proofs.Math.Dec.{eqb, ltb}
use Rattle.std.proofs.Math.ListN.{length}
use borrow.Author.Tests.{ltb-false, eqb-false, lt-ltb, le-ltb, eq-eqb, ne_eqb}
use Rattle.answers.specs.Answers.{DONE, TEXT_SIZE, END}
use Rattle.answers.specs.Laws.Unless.{goes_on_lem, refuses, both_ways}
use Rattle.text.specs.Limits.{text_most}
use Rattle.text.specs.Text.{Answer, done, refusal}
use Rattle.groups.specs.Reading.{scanned, size_fault, verdict}

module _ (s : List ℕ) where
  pub too_long : text_most < length s → size_fault s ≡ TEXT_SIZE
  unfolding size_fault
  too_long l = rw (lt-ltb text_most (length s) l) refl

  pub empty : length s ≡ 0 → size_fault s ≡ END
  unfolding size_fault
  empty e = rw (le-ltb text_most (length s) (omega arith), eq-eqb (length s) 0 e) refl

  pub no_fault : 0 < length s → length s ≤ text_most → size_fault s ≡ DONE
  unfolding size_fault
  no_fault h l = rw (le-ltb text_most (length s) l, ne_eqb (length s) 0 (λ z. omega arith)) refl

  pub its_size : size_fault s ≡ DONE → (0 < length s) × (length s ≤ text_most)
  unfolding size_fault
  its_size e = go (ltb text_most (length s)) (eqb (length s) 0) refl refl e
    where
      go : (a b : Bool) → ltb text_most (length s) ≡ a → eqb (length s) 0 ≡ b → cond a TEXT_SIZE (cond b END DONE) ≡ DONE
          → (0 < length s) × (length s ≤ text_most)
      go true b p q z = absurd (omega arith)
      go false true p q z = absurd (omega arith)
      go false false p q z = let n = eqb-false (length s) 0 q in (omega arith, ltb-false text_most (length s) p)

  pub right-size : size_fault s ≡ DONE → verdict s ≡ scanned s
  unfolding verdict
  right-size = goes_on_lem (size_fault s) refusal (scanned s)

  pub wrong_size : size_fault s ≢ DONE → verdict s ≡ refusal (size_fault s)
  unfolding verdict
  wrong_size = refuses (size_fault s) refusal (scanned s)

  -- what is taken was of the right size
  pub accepted-size : (m : ℕ) → verdict s ≡ done m → (size_fault s ≡ DONE) × (scanned s ≡ done m)
  unfolding verdict
  accepted-size m = both_ways (size_fault s) refusal (scanned s)
      (λ (a : Answer). a ≡ done m → (size_fault s ≡ DONE) × (scanned s ≡ done m))
      (λ n e. absurd (n (ap (λ (a : Answer). a.no) e))) (λ z e. (z, e))
