-- The size of a text: its fault by the two tests, and what a text without one is.
use Rattle.std.specs.Prelude.{◌≡◌, ◌≢◌, Bool, true, false, cond, not, ◌||◌, List, ℕ, ◌%◌, ◌≤◌, ◌<◌, eqb, ltb, length}
use Rattle.std.proofs.Math.Path.{refl}
use Rattle.std.proofs.Common.{true≢false, arith}
use Rattle.std.proofs.Math.Decide.{ℕ_discrete}
use borrow.Author.Tests.{ltb-false, lt-ltb, le-ltb, eqb-true, eqb-false, eq-eqb, ne_eqb}
use Rattle.answers.specs.Answers.{DONE, TEXT_SIZE, END}
use Rattle.answers.specs.Laws.Unless.{goes_on_lem, refuses}
use Rattle.text.specs.Limits.{record_bytes, text_most}
use Rattle.text.specs.Text.{refusal, scanned, bad_text, others, at_end, size_fault, verdict}
use Rattle.text.specs.Laws.Blanks.{others_out}

-- whole records, at least one, and not too many
pub record Sized (s : List ℕ) : Type 0 where
  pub some : 0 < length s
  pub small : length s ≤ text_most
  pub whole : length s % record_bytes ≡ 0

-- test by test
pub size_ways : (s : List ℕ) (P : ℕ → Type 0) → (bad_text s ≡ true → P TEXT_SIZE) → (bad_text s ≡ false → at_end s ≡ true → P END)
    → (bad_text s ≡ false → at_end s ≡ false → P DONE) → P (size_fault s)
unfolding size_fault
size_ways s P f g h = go (bad_text s) (at_end s) refl refl
  where
    go : (a b : Bool) → bad_text s ≡ a → at_end s ≡ b → P (cond a TEXT_SIZE (cond b END DONE))
    go true b p q = f p
    go false true p q = g p q
    go false false p q = h p q

pub not_bad : (s : List ℕ) → bad_text s ≡ false → (length s % record_bytes ≡ 0) × (length s ≤ text_most)
not_bad s e = go (eqb (length s % record_bytes) 0) (ltb text_most (length s)) refl refl e
  where
    go : (a b : Bool) → eqb (length s % record_bytes) 0 ≡ a → ltb text_most (length s) ≡ b → (not a || b) ≡ false
        → (length s % record_bytes ≡ 0) × (length s ≤ text_most)
    go true false ea eb q = (eqb-true (length s % record_bytes) 0 ea, ltb-false text_most (length s) eb)
    go true true ea eb q = absurd (true≢false q)
    go false b ea eb q = absurd (true≢false q)

not_empty : (s : List ℕ) → others s ≢ 0 → 0 < length s
not_empty s n = go (ℕ_discrete (length s) 0)
  where
    go : Dec (length s ≡ 0) → 0 < length s
    go (yes e) = absurd (n (others_out s 0 (omega arith)))
    go (no d) = omega arith

module _ (s : List ℕ) where
  pub its_size : size_fault s ≡ DONE → Sized s
  its_size = size_ways s (λ n. n ≡ DONE → Sized s) (λ p e. absurd (omega arith)) (λ p q e. absurd (omega arith))
      (λ p q e. let n = not_bad s p in record { some = not_empty s (eqb-false (others s) 0 q); small = n.1; whole = n.0 })

  -- the fault by each test
  pub not_whole : length s % record_bytes ≢ 0 → size_fault s ≡ TEXT_SIZE
  unfolding size_fault
  not_whole n = rw (ne_eqb (length s % record_bytes) 0 n) refl

  pub too_long : length s % record_bytes ≡ 0 → text_most < length s → size_fault s ≡ TEXT_SIZE
  unfolding size_fault
  too_long w l = rw (eq-eqb (length s % record_bytes) 0 w, lt-ltb text_most (length s) l) refl

  module _ (w : length s % record_bytes ≡ 0) (l : length s ≤ text_most) where
    pub blank : at_end s ≡ true → size_fault s ≡ END
    unfolding size_fault
    blank e = rw (eq-eqb (length s % record_bytes) 0 w, le-ltb text_most (length s) l, e) refl

    pub no_fault : at_end s ≡ false → size_fault s ≡ DONE
    unfolding size_fault
    no_fault e = rw (eq-eqb (length s % record_bytes) 0 w, le-ltb text_most (length s) l, e) refl

  pub right-size : size_fault s ≡ DONE → verdict s ≡ scanned s
  unfolding verdict
  right-size = goes_on_lem (size_fault s) refusal (scanned s)

  pub wrong_size : size_fault s ≢ DONE → verdict s ≡ refusal (size_fault s)
  unfolding verdict
  wrong_size = refuses (size_fault s) refusal (scanned s)
