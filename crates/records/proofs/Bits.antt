-- Bits gathered along a record: they stay 0 as long as each byte is a blank.
use Rattle.std.proofs.Common.{ℕ, ◌+◌, ◌<◌, ◌≤◌, ◌≡◌, ◌≢◌, refl, ap, ◌∙◌, List, length, get_or, drop, bit_or, bit_xor, arith}
use Rattle.std.specs.Int.Bits.{or_add_and, xor_add_and, and_le_l, and_le_r, or_zero_l, xor_self}
use Rattle.std.proofs.Math.Decide.{ℕ_discrete}
use Rattle.text.specs.Text.{others}
use Rattle.text.specs.Laws.Blanks.{a_blank, an_other, others_out}
use Rattle.records.specs.Differing.{Differing}

-- n tells of the bytes before i
pub record Gathered (s : List ℕ) (i n : ℕ) : Type 0 where
  pub none : n ≡ 0 → others s ≡ others (drop i s)
  pub some : n ≢ 0 → others (drop i s) < others s

or_none : (a b : ℕ) → bit_or a b ≡ 0 → (a ≡ 0) × (b ≡ 0)
or_none a b e = omega (arith, or_add_and a b, and_le_l a b, and_le_r a b)

xor_none : (a b : ℕ) → bit_xor a b ≡ 0 → a ≡ b
xor_none a b e = omega (arith, xor_add_and a b, and_le_l a b, and_le_r a b)

or_blank : (n b : ℕ) → n ≡ 0 → b ≡ 32 → bit_or n (bit_xor b 32) ≡ 0
or_blank n b z e = ap (λ (k : ℕ). bit_or k (bit_xor b 32)) z ∙ or_zero_l (bit_xor b 32) ∙ ap (λ (k : ℕ). bit_xor k 32) e ∙ xor_self 32

pub nothing_yet : (s : List ℕ) → Gathered s 0 0
nothing_yet s = record { none = λ e. refl; some = λ n. absurd (n refl) }

pub one_more : (s : List ℕ) (i n : ℕ) → i < length s → Gathered s i n → Gathered s (i + 1) (bit_or n (bit_xor (get_or s i 0) 32))
one_more s i n h d = record {
  none = λ e. let (z, x) = or_none n (bit_xor (get_or s i 0) 32) e in d.none z ∙ a_blank s i h (xor_none (get_or s i 0) 32 x);
  some = λ m. go m (ℕ_discrete n 0) (ℕ_discrete (get_or s i 0) 32);
}
  where
    go : bit_or n (bit_xor (get_or s i 0) 32) ≢ 0 → Dec (n ≡ 0) → Dec (get_or s i 0 ≡ 32) → others (drop (i + 1) s) < others s
    go m (no k) (yes b) = omega (arith, d.some k, a_blank s i h b)
    go m (no k) (no q) = omega (arith, d.some k, an_other s i h q)
    go m (yes z) (no q) = omega (arith, d.none z, an_other s i h q)
    go m (yes z) (yes b) = absurd (m (or_blank n (get_or s i 0) z b))

pub all_seen : (s : List ℕ) (i n : ℕ) → length s ≤ i → Gathered s i n → Differing s n
all_seen s i n h d = record { none = λ e. d.none e ∙ others_out s i h; some = λ m z. omega (arith, z, d.some m) }
