-- The digits of an atom as the code works them out in a store, from the last to the first. By induction on the digits.
use Rattle.std.specs.Prelude.{ℕ, zero, suc, ◌+◌, ◌-◌, ◌*◌, ◌/◌, ◌%◌, ◌^◌, ◌≤◌, ◌<◌, ◌≡◌, refl, List, [], ◌∷◌, ◌++◌, ltb, length, take, drop, set}
use Rattle.std.proofs.Common.{sym, ap, ◌∙◌, append_assoc, mul_left_comm, arith, length-append, length-set, pow-add, shl_exact, take_all, drop-cons, get_or-set_same, drop-set-lt, ltb-true}
use Rattle.std.proofs.lemmas.List.{take-append-le}
use Rattle.text.specs.Limits.{atoms_end, digits_most}
use Rattle.text.specs.ListText.{octal_f}
use Rattle.text.specs.Laws.RoundTrip.{Under, under}
use Rattle.text.specs.Laws.TextLaws.{by_case}
use Rattle.octal.specs.Numeral.{numeral, last_digits}
use Rattle.octal.specs.Laws.NumeralLaws.{length_last}

-- all of them are the number's digits
all_digits : (f v : ℕ) → Under f v → octal_f f v ≡ last_digits (length (octal_f f v)) v
unfolding last_digits
all_digits zero v u = let e : v % 8 ≡ v = omega arith in ap (λ (d : ℕ). (48 + d) ∷ []) (sym e)
all_digits (suc f) v u =
    let one : v % 8 ≡ v → (48 + v) ∷ [] ≡ last_digits 1 v = λ e. ap (λ (d : ℕ). (48 + d) ∷ []) (sym e) in
    let rest = octal_f f (v / 8) in
    let size : length (rest ++ ((48 + v % 8) ∷ [])) ≡ suc (length rest) = omega (arith, length-append rest ((48 + v % 8) ∷ [])) in
    by_case (ltb v 8) (λ (t : List ℕ). t ≡ last_digits (length t) v)
    (λ e. one (omega (arith, ltb-true v 8 e)))
    (λ e. ap (λ (t : List ℕ). t ++ ((48 + v % 8) ∷ [])) (all_digits f (v / 8) u) ∙ ap (λ (n : ℕ). last_digits n v) (sym size))

-- zeros behind them leave them in front
eighth : (v m : ℕ) → v * 2 ^ (3 * suc m) / 8 ≡ v * 2 ^ (3 * m)
eighth v m =
    let p : ℕ = 2 ^ (3 * m) in
    let q : 3 * suc m ≡ 3 + 3 * m = omega arith in
    let e : v * 2 ^ (3 * suc m) ≡ 8 * (v * p) = ap (λ (k : ℕ). v * 2 ^ k) q ∙ ap (λ (k : ℕ). v * k) (pow-add 2 3 (3 * m)) ∙ mul_left_comm v 8 p in
    ap (λ (k : ℕ). k / 8) e ∙ omega arith

shifted : (n m v : ℕ) → take n (last_digits (n + m) (v * 2 ^ (3 * m))) ≡ last_digits n v
unfolding last_digits
shifted n zero v =
    let e : n + 0 ≡ n = omega arith in
    let w : v * 1 ≡ v = omega arith in
    take_all n (last_digits (n + 0) (v * 1)) (omega (arith, length_last (n + 0) (v * 1))) ∙ ap (λ (k : ℕ). last_digits k (v * 1)) e ∙ ap (last_digits n) w
shifted n (suc m) v =
    let w : ℕ = v * 2 ^ (3 * suc m) in
    let k : n + suc m ≡ suc (n + m) = omega arith in
    ap (λ (j : ℕ). take n (last_digits j w)) k
    ∙ take-append-le n (last_digits (n + m) (w / 8)) ((48 + w % 8) ∷ []) (omega (arith, length_last (n + m) (w / 8)))
    ∙ ap (λ (u : ℕ). take n (last_digits (n + m) u)) (eighth v m) ∙ shifted n m v

pub worked_out : (v n w : ℕ) (store : List ℕ) → v < atoms_end → n ≡ length (numeral v) → 1 ≤ n → n ≤ digits_most → w ≡ (v * 2 ^ (3 * (digits_most - n))) % 2 ^ 64
    → last_digits digits_most w ≡ store → take n store ≡ numeral v
unfolding numeral
worked_out v n w store l e o h s d =
    let m : ℕ = digits_most - n in
    let q : n + m ≡ digits_most = omega arith in
    let x : w ≡ v * 2 ^ (3 * m) = s ∙ shl_exact {a = v} 32 (3 * m) 64 l (omega arith) in
    ap (take n) (sym d) ∙ ap (λ (u : ℕ). take n (last_digits digits_most u)) x ∙ ap (λ (k : ℕ). take n (last_digits k (v * 2 ^ (3 * m)))) (sym q) ∙ shifted n m v
    ∙ ap (λ (k : ℕ). last_digits k v) e ∙ sym (all_digits 10 v (under v l))

-- a turn of the loop that works the digits out
pub last_step : (i w : ℕ) (store : List ℕ) (ds : List ℕ) → 0 < i → i ≤ length store → ds ≡ last_digits i w ++ drop i store
    → ds ≡ last_digits (i - 1) (w / 8) ++ drop (i - 1) (set store (i - 1) (48 + w % 8))
unfolding last_digits
last_step zero w store ds p h e = absurd (omega arith)
last_step (suc i) w store ds p h e =
    let k : suc i - 1 ≡ i = omega arith in
    let b : ℕ = 48 + w % 8 in
    let t : drop i (set store i b) ≡ b ∷ drop (suc i) store
    = drop-cons (set store i b) i 0 (omega (arith, length-set store i b))
    ∙ cc (get_or-set_same store i b 0 (omega arith), drop-set-lt (suc i) store i b (omega arith)) in
    rw k (e ∙ append_assoc (last_digits i (w / 8)) (b ∷ []) (drop (suc i) store) ∙ ap (λ (u : List ℕ). last_digits i (w / 8) ++ u) (sym t))

pub none_left : (i w : ℕ) (store : List ℕ) → i ≡ 0 → last_digits i w ++ drop i store ≡ store
unfolding last_digits
none_left zero w store e = refl
none_left (suc i) w store e = absurd (omega arith)
