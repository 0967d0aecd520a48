-- Read back, an atom: the digits kept of it, from what was read so far and what is to come, are those that it is written with.
use Rattle.std.specs.Prelude.{ℕ, zero, suc, ◌+◌, ◌*◌, ◌/◌, ◌%◌, ◌<◌, ◌≤◌, ◌≡◌, refl, List, [], ◌∷◌, ◌++◌, Bool, true, false, cond, eqb, ltb}
use Rattle.std.proofs.Common.{sym, ap, ◌∙◌, append_assoc, arith, lt-ltb, le-ltb, le-leb, ne_eqb}
use Rattle.text.specs.Limits.{atoms_end}
use Rattle.text.specs.ListText.{octal_f, octal, is_digit_byte, head_digit, idle, bare}
use Rattle.text.specs.Laws.RoundTrip.{Under}

-- an atom's digits grow at the end
fuel : (f v : ℕ) → Under f v → octal_f (suc f) v ≡ octal_f f v
fuel zero v u = simp (lt-ltb _ _ u)
fuel (suc f) v u =
    ap (λ (t : List ℕ). cond (ltb v 8) ((48 + v) ∷ []) (t ++ ((48 + v % 8) ∷ []))) (fuel f (v / 8) u)

one : (x : ℕ) → x < 8 → octal x ≡ (48 + x) ∷ []
one x h = simp (lt-ltb _ _ h)

grows : (v x : ℕ) → (v ≡ 0 → ⊥) → x < 8 → v * 8 + x < atoms_end → octal (v * 8 + x) ≡ octal v ++ ((48 + x) ∷ [])
grows v x nz h b =
    let big : 8 ≤ v * 8 + x = omega arith in
    let q : (v * 8 + x) / 8 ≡ v = omega arith in
    let r : (v * 8 + x) % 8 ≡ x = omega arith in
    let u : Under 9 v = omega arith in
    simp (le-ltb _ _ big, q, r) (ap (λ (t : List ℕ). t ++ ((48 + x) ∷ [])) (sym (fuel 9 v u)))

-- the digits kept so far of an atom of the value v, with t to come, and whether one was kept
abbrev pub pre : ℕ → List ℕ → List ℕ
pre v t = cond (eqb v 0) (cond (head_digit t) [] (48 ∷ [])) (octal v)

abbrev pub flag : ℕ → List ℕ → Bool
flag v t = cond (eqb v 0) (cond (head_digit t) false true) true

abbrev pub kept : ℕ → List ℕ → List ℕ
kept v t = pre v t ++ bare (flag v t) t

digit-head : (x : ℕ) → x < 8 → is_digit_byte (48 + x) ≡ true
digit-head x h = simp (le-leb 48 (48 + x) (omega arith), le-leb (48 + x) 55 (omega arith))

zero-first : (h : Bool) (t : List ℕ) → cond h (bare false t) (48 ∷ bare true t) ≡ cond h [] (48 ∷ []) ++ bare (cond h false true) t
zero-first true t = refl
zero-first false t = refl

nonzero : (k : Bool) (b : ℕ) (bs : List ℕ) → (b ≡ 48 → ⊥) → idle k b bs ≡ false
nonzero true b bs h = refl
nonzero false b bs h = simp (ne_eqb _ _ h)

-- the first digit of an atom
pub d1 : (x : ℕ) → x < 8 → (t : List ℕ) → bare false ((48 + x) ∷ t) ≡ kept x t
d1 zero h t = zero-first (head_digit t) t
d1 (suc x) h t =
    let e : eqb (48 + suc x) 32 ≡ false = ne_eqb (48 + suc x) 32 (λ q. omega arith) in
    let i : idle false (48 + suc x) t ≡ false = nonzero false (48 + suc x) t (λ q. omega arith) in
    let z : eqb (suc x) 0 ≡ false = ne_eqb (suc x) 0 (λ q. omega arith) in
    simp (e, digit-head (suc x) h, i, z) (ap (λ (l : List ℕ). l ++ bare true t) (sym (one (suc x) h)))

-- a later digit
pub d2 : (v x : ℕ) → x < 8 → v * 8 + x < atoms_end → (t : List ℕ) → kept v ((48 + x) ∷ t) ≡ kept (v * 8 + x) t
d2 zero x h b t =
    let e : 0 * 8 + x ≡ x = omega arith in
    let q : kept 0 ((48 + x) ∷ t) ≡ bare false ((48 + x) ∷ t) = simp (digit-head x h) in
    q ∙ d1 x h t ∙ ap (λ (n : ℕ). kept n t) (sym e)
d2 (suc v) x h b t =
    let z : eqb (suc v) 0 ≡ false = ne_eqb (suc v) 0 (λ q. omega arith) in
    let z2 : eqb (suc v * 8 + x) 0 ≡ false = ne_eqb (suc v * 8 + x) 0 (λ q. omega arith) in
    let e : eqb (48 + x) 32 ≡ false = ne_eqb (48 + x) 32 (λ q. omega arith) in
    let one_more : bare true ((48 + x) ∷ t) ≡ (48 + x) ∷ bare true t = simp (e, digit-head x h) in
    let l : kept (suc v) ((48 + x) ∷ t) ≡ octal (suc v) ++ bare true ((48 + x) ∷ t) = simp z in
    let r : kept (suc v * 8 + x) t ≡ octal (suc v * 8 + x) ++ bare true t = simp z2 in
    l ∙ ap (λ (u : List ℕ). octal (suc v) ++ u) one_more
    ∙ sym (append_assoc (octal (suc v)) ((48 + x) ∷ []) (bare true t))
    ∙ ap (λ (u : List ℕ). u ++ bare true t) (sym (grows (suc v) x (λ q. omega arith) h b)) ∙ sym r

-- what ends an atom
pub d3 : (v : ℕ) (t : List ℕ) → (kept v (44 ∷ t) ≡ octal v ++ (44 ∷ bare false t)) × (kept v (41 ∷ t) ≡ octal v ++ (41 ∷ bare false t))
d3 zero t = (refl, refl)
d3 (suc v) t =
    let z : eqb (suc v) 0 ≡ false = ne_eqb (suc v) 0 (λ q. omega arith) in
    (simp z, simp z)
