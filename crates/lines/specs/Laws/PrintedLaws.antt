-- Bytes stored one run after another, and the decimal digits of a number from the left.
use Rattle.std.specs.Prelude.{◌≡◌, refl, Bool, true, false, cond, List, [], ◌∷◌, ◌++◌, ℕ, zero, suc, ◌+◌, ◌*◌, ◌/◌, ◌%◌, ◌≤◌, ◌<◌, ltb, length, set}
use Rattle.std.proofs.Common.{sym, ap, ◌∙◌, arith, lt-ltb, le-ltb, length-append}
use Rattle.std.proofs.lemmas.List.Edits.{sets}
use Rattle.lines.specs.Numbers.{digits_most}
use Rattle.lines.specs.Printed.{decimal_f, decimal, column}
use Rattle.lines.specs.Meaning.{Puts}

sets_then : (a b l : List ℕ) (i : ℕ) → sets (sets l i a) (i + length a) b ≡ sets l i (a ++ b)
sets_then [] b l i = let q : i + 0 ≡ i = omega arith in ap (λ (k : ℕ). sets l k b) q
sets_then (x ∷ a) b l i =
    let q : i + suc (length a) ≡ suc i + length a = omega arith in
    ap (λ (k : ℕ). sets (sets (set l i x) (suc i) a) k b) q ∙ sets_then a b (set l i x) (suc i)

-- one run of bytes behind another
pub puts_then : (a b : List ℕ) {at r q : ℕ} {l m n : List ℕ} → Puts a at l r m → Puts b r m q n → Puts (a ++ b) at l q n
puts_then a b {at} {r} {q} {l} {m} {n} p s = record {
  place = omega (arith, p.place, s.place, length-append a b);
  bytes = s.bytes ∙ ap (λ (u : List ℕ). sets u r b) p.bytes ∙ ap (λ (k : ℕ). sets (sets l at a) k b) p.place ∙ sets_then a b l at;
}

-- at most f digits
pub decimal_short : (f v : ℕ) → length (decimal_f f v) ≤ f
unfolding decimal_f
decimal_short zero v = omega arith
decimal_short (suc f) v = go (ltb v 10) (decimal_short f (v / 10))
  where
    go : (b : Bool) → length (decimal_f f (v / 10)) ≤ f → length (cond b ((48 + v) ∷ []) (decimal_f f (v / 10) ++ ((48 + v % 10) ∷ []))) ≤ suc f
    go true h = omega arith
    go false h = omega (arith, length-append (decimal_f f (v / 10)) ((48 + v % 10) ∷ []))

-- numbers of f + 1 digits end here
top : ℕ → ℕ
top zero = 10
top (suc f) = 10 * top f

-- more digits than a number has change nothing
stable : (f v : ℕ) → v < top f → decimal_f (suc (suc f)) v ≡ decimal_f (suc f) v
unfolding decimal_f top
stable zero v h = rw (lt-ltb v 10 h) refl
stable (suc f) v h = go (ltb v 10) (stable f (v / 10) (omega arith))
  where
    go : (b : Bool) → decimal_f (suc (suc f)) (v / 10) ≡ decimal_f (suc f) (v / 10)
        → cond b ((48 + v) ∷ []) (decimal_f (suc (suc f)) (v / 10) ++ ((48 + v % 10) ∷ [])) ≡ cond b ((48 + v) ∷ []) (decimal_f (suc f) (v / 10) ++ ((48 + v % 10) ∷ []))
    go true e = refl
    go false e = ap (λ (u : List ℕ). u ++ ((48 + v % 10) ∷ [])) e

pub one-digit : (v : ℕ) → v < 10 → decimal v ≡ (48 + v) ∷ []
unfolding decimal_f
one-digit v h = rw (lt-ltb v 10 h) refl

pub more-digits : (v : ℕ) → 10 ≤ v → v < 4294967296 → decimal v ≡ decimal (v / 10) ++ ((48 + v % 10) ∷ [])
unfolding decimal_f top
more-digits v l h = rw (le-ltb v 10 l) (ap (λ (u : List ℕ). u ++ ((48 + v % 10) ∷ [])) (sym (stable 8 (v / 10) (omega arith))))

-- so the first digits leave room for the last
pub first-digits : (v : ℕ) → 10 ≤ v → v < 4294967296 → length (decimal (v / 10)) < digits_most
unfolding top
first-digits v l h = omega (arith, ap length (stable 8 (v / 10) (omega arith)), decimal_short 9 (v / 10))

pub column_short : (v c : ℕ) → length (column v c) ≤ suc digits_most
column_short v c = omega (arith, length-append (decimal v) (c ∷ []), decimal_short digits_most v)
