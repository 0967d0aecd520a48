-- Engines that write the digits of an atom wrongly: each breaks the statement that its theorem names. A numeral that is
-- wrong at any one atom is refused.
use Rattle.std.specs.Prelude.{◌≡◌, refl, ◌≢◌, List, [], ◌∷◌, ◌++◌, ℕ, zero, suc, ◌+◌, ◌-◌, ◌/◌, ◌%◌, ◌^◌, ◌≤◌, ltb, length, get_or, take}
use Rattle.std.proofs.Common.{sym, ap, ◌∙◌, append_assoc, arith, length-append, take_at}
use Rattle.std.proofs.Math.Seq.{get_or-append_seam, take-append_seam}
use Rattle.lists.specs.Lst.{nil, atom, order}
use Rattle.pool.specs.Pool.{ListAt}
use Rattle.text.specs.ListText.{octal_f, octal, text_of, fill}
use Rattle.text.specs.Laws.TextLaws.{by_case}
use Rattle.text.specs.Laws.WritingLaws.{writes}
use Rattle.calls.specs.Chars.{blanks}
use Rattle.calls.specs.Entry.{over}
use Rattle.promises.specs.TextGrounds.{Records, plain}
use Rattle.promises.specs.StoredGrounds.{filled}
use Rattle.promises.specs.Demand2.{WritingGives, ReadWritesBack}
use Rattle.promises.specs.Refuted.WrongDigits.{text_by, writes_by, last_first, short_at_eight, ten_at_most, zero_first}
use Rattle.promises.specs.Refuted.Computed.{storing}
use Rattle.promises.specs.Refuted.SmallTables.{held, word, zeros, one}
use Rattle.groups.specs.declared.Stored.TheVariants.{Text}
use Rattle.table.specs.declared.Form.TheVariants.{Four}

-- the list of an atom fits into a record: its digits are at most eleven
few : (f v : ℕ) → length (octal_f f v) ≤ f + 1
few zero v = omega arith
few (suc f) v =
    by_case (ltb v 8) (λ (t : List ℕ). length t ≤ suc f + 1) (λ e. omega arith)
    (λ e. omega (arith, few f (v / 8), length-append (octal_f f (v / 8)) ((48 + v % 8) ∷ [])))

-- the fill hides nothing of what stands before the last ")"
blank : (n i : ℕ) → get_or (blanks n) i 32 ≡ 32
blank zero i = refl
blank (suc n) zero = refl
blank (suc n) (suc i) = blank n i

no_shut : (us : List ℕ) (m n : ℕ) → fill m ≡ us ++ (41 ∷ fill n) → ⊥
no_shut us m n e =
    let i = length us in
    let z = ap (λ (t : List ℕ). get_or t i 32) e in
    omega (arith, blank ((72 - m % 72) % 72) i, get_or-append_seam us 41 (fill n) 32)

before_shut : (us vs : List ℕ) (m n : ℕ) → us ++ (41 ∷ fill m) ≡ vs ++ (41 ∷ fill n) → us ≡ vs
before_shut [] [] m n e = refl
before_shut [] (c ∷ vs) m n e = absurd (no_shut vs m n (cc))
before_shut (b ∷ us) [] m n e = absurd (no_shut us n m (cc))
before_shut (b ∷ us) (c ∷ vs) m n e = let h = before_shut us vs m n (cc) in cc

-- nor does what stands behind it in the output
same_over : (us vs out : List ℕ) → over us out ≡ over vs out → length us ≡ length vs → us ≡ vs
same_over us vs out e n =
    sym (take-append_seam us _) ∙ ap (take (length us)) e ∙ take_at vs _ (length us) (sym n)

-- a numeral that is wrong at v breaks the statement at the list of v
pub another_numeral : (f : ℕ → List ℕ) (v : ℕ) → f v ≢ octal v → WritingGives Four (writes_by f) → ⊥
unfolding storing ListAt order
another_numeral f v wrong d =
    let l = atom v nil in
    let t = text_by f l in
    let fits = writes 72 l (omega arith) (omega (arith, few 10 v, length-append (octal v) (41 ∷ []))) in
    let (o, n) = rw fits at (d Text (held 0 v) (zeros 2) 0 (zeros 72) l (omega arith, refl, refl, refl)) refl in
    let e = same_over (filled t) (filled (text_of l)) (zeros 72) o n in
    let same = before_shut (40 ∷ f v) (40 ∷ octal v) (length t) (length (text_of l)) (simp append_assoc at e) in
    wrong (cc)

-- (12) is written as (21)
pub reverses_digits : WritingGives Four (writes_by last_first) → ⊥
reverses_digits = another_numeral last_first 10 (λ e. let z : ◌≡◌ {A = ℕ} 50 49 = word 0 e in omega arith)

-- (10) is written as (0)
pub short_at_eight_lem : WritingGives Four (writes_by short_at_eight) → ⊥
short_at_eight_lem = another_numeral short_at_eight 8 (λ e. let z : ◌≡◌ {A = ℕ} 48 49 = word 0 e in omega arith)

-- (37777777777) is written as (7777777777)
pub short_at_the_largest : WritingGives Four (writes_by ten_at_most) → ⊥
short_at_the_largest =
    another_numeral ten_at_most (2 ^ 32 - 1) (λ e. let z : ◌≡◌ {A = ℕ} 55 51 = word 0 e in omega arith)

-- (12) is written as (012)
pub zero_first_lem : WritingGives Four (writes_by zero_first) → ⊥
zero_first_lem = another_numeral zero_first 10 (λ e. let z : ◌≡◌ {A = ℕ} 48 49 = word 0 e in omega arith)

-- (07) is read, and written as it was
pub zero_first_again : ReadWritesBack (writes_by zero_first) → ⊥
unfolding storing
zero_first_again d =
    let t : List ℕ = 40 ∷ 48 ∷ 55 ∷ 41 ∷ [] in
    let xs = t ++ blanks 68 in
    let r : Records xs 72 t = record {
      blanks = 68;
      bytes = refl;
      few = omega arith;
      whole = refl;
      within = omega arith;
      solid = refl;
    } in
    let (_, o) = d Text one (zeros 2) (zeros 2) (zeros 72) 0 xs (filled (plain t)) refl (t, r, refl) (omega arith)
    (omega arith) in
    let e : ◌≡◌ {A = ℕ} 48 55 = word 1 o in
    omega arith
