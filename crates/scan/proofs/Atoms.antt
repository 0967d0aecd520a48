-- An atom's digits: up to eleven of them, the first at most 3 where there are eleven, are taken; a longer run is the fault 16.
-- By induction on the characters: the value lies between the first digit and its successor, eight times larger with every digit.
use Prim.Native.Nat.{ℕ, zero, suc, ◌+◌, ◌-◌, ◌*◌, ◌<◌, ◌≤◌}
use mathlib.Core.Path.{◌≡◌, refl, sym, ap, subst, ◌∙◌}
use mathlib.Core.List.{List, [], ◌∷◌}
use mathlib.Core.Bool.{Bool, true, false, cond}
use native.Mathlib.Omega.{arith}
use native.Mathlib.Numerals.{add-one}
use lib.ListN.{length, drop, get_or}
use lib.Seq.{drop-drop}
use lib.Dec.{leb, ltb}
use borrow.Author.Tests.{lt-ltb, leb-true, leb-false, ltb-true, ltb-false}
use Rattle.text.specs.Limits.{digits_most, atoms_end}
use Rattle.text.specs.Text.{Scan, place, in_atom, may_begin, Step, mark, at, settle, step_of, digit_at, more_at, refusal}
use Rattle.text.specs.ListText.{is_digit_byte}
use Rattle.text.specs.Marks.{Mark}
use Rattle.text.specs.Laws.TextLaws.{by_case, decide, no_yes}
use Rattle.scan.specs.Runs.{digit_run, numeral}
use Rattle.scan.specs.Places.{too_long_atom, Prospect, prospect, behind}
use Rattle.scan.proofs.RunLaws.{next, digit_bounds}
use Rattle.scan.proofs.Outlooks.{turned, faulted, digit_goes, digit-marks}

-- x with j zeros behind it
abbrev pub scale : ℕ → ℕ → ℕ
scale zero x = x
scale (suc j) x = scale j x * 8

scale_mono : (j : ℕ) {x y : ℕ} → x ≤ y → scale j x ≤ scale j y
scale_mono zero h = h
scale_mono (suc j) h = omega (arith, scale_mono j h)

scale_up : (j m x : ℕ) → j ≤ m → scale j x ≤ scale m x
scale_up j zero x h = let e : j ≡ 0 = omega arith in rw e (omega arith)
scale_up j (suc m) x h =
    decide (leb j m) (scale j x ≤ scale (suc m) x) (λ e. omega (arith, scale_up j m x (leb-true _ _ e)))
    (λ e. let q : j ≡ suc m = omega (arith, leb-false j m e) in rw q (omega arith))

one_more : (j x : ℕ) → scale (j + 1) x ≡ scale j x * 8
one_more j x = ap (λ (n : ℕ). scale n x) (add-one j)

-- a digit inside an atom
inside : (d j v n b : ℕ) (l : List ℕ) → is_digit_byte b ≡ true
    → prospect (at (place in_atom d j v) n) (b ∷ l) ≡ prospect (settle (n + 1) (more_at d j v (b - 48))) l
inside d j v n b l e =
    let s = place in_atom d j v in
    ap (λ (es : List Mark). behind es (prospect (settle (n + 1) (step_of s b)) l)) (digit-marks (at s n) b e)
    ∙ ap (λ (u : Step). prospect (settle (n + 1) u) l) (digit_goes s b e)

-- from inside an atom on past its digits, whose value is w
pub record Past (d : ℕ) (o : Prospect) (n w : ℕ) (l : List ℕ) : Type 0 where
  pub digits : ℕ
  pub value : ℕ
  pub is : value ≡ w
  pub same : o ≡ prospect (at (place in_atom d digits value) n) l

past-digits : (l : List ℕ) (d j v n f : ℕ) → scale j f ≤ v → v < scale j (f + 1) → j + digit_run l < digits_most → scale (j + digit_run l) (f + 1) ≤ atoms_end
    → Past d (prospect (at (place in_atom d (j + 1) v) n) l) (n + digit_run l) (numeral v l) (drop (digit_run l) l)
past-digits [] d j v n f lo hi most small =
    let z : n + 0 ≡ n = omega arith in
    record { digits = j + 1; value = v; is = refl; same = ap (λ (m : ℕ). prospect (at (place in_atom d (j + 1) v) m) []) (sym z) }
past-digits (b ∷ l) d j v n f lo hi most small =
    by_case (is_digit_byte b)
    (λ (c : ℕ). j + c < digits_most → scale (j + c) (f + 1) ≤ atoms_end
    → Past d (prospect (at (place in_atom d (j + 1) v) n) (b ∷ l)) (n + c) (numeral v (b ∷ l)) (drop c (b ∷ l))) {x = suc (digit_run l)} {y = 0}
    (λ e more fits.
    let x = b - 48 in
    let digit = digit_bounds b e in
    let up = scale_up (j + 1) (j + suc (digit_run l)) (f + 1) (omega arith) in
    let value : v * 8 + x < atoms_end = omega (arith, up, one_more j (f + 1)) in
    let step : more_at d (j + 1) v x ≡ mark (place in_atom d (j + 1 + 1) (v * 8 + x)) = simp (lt-ltb (j + 1) digits_most (omega arith), lt-ltb _ _ value) in
    let q : j + 1 + digit_run l ≡ j + suc (digit_run l) = omega arith in
    let r = past-digits l d (j + 1) (v * 8 + x) (n + 1) f (omega (arith, one_more j f)) (omega (arith, one_more j (f + 1)))
    (omega arith) (subst (λ (m : ℕ). scale m (f + 1) ≤ atoms_end) (sym q) fits) in
    let here : n + 1 + digit_run l ≡ n + suc (digit_run l) = omega arith in
    record {
      digits = r.digits;
      value = r.value;
      is = r.is ∙ sym (ap (λ (t : Bool). cond t (numeral (v * 8 + x) l) v) e);
      same = inside d (j + 1) v n b l e ∙ ap (λ (u : Step). prospect (settle (n + 1) u) l) step ∙ r.same
          ∙ ap (λ (m : ℕ). prospect (at (place in_atom d r.digits r.value) m) (drop (digit_run l) l)) here;
    })
    (λ e more fits.
    let z : n + 0 ≡ n = omega arith in
    record {
      digits = j + 1;
      value = v;
      is = sym (ap (λ (t : Bool). cond t (numeral (v * 8 + (b - 48)) l) v) e);
      same = ap (λ (m : ℕ). prospect (at (place in_atom d (j + 1) v) m) (b ∷ l)) (sym z);
    })
    most small

-- the value of such digits is a word
pub numeral_fits : (l : List ℕ) (j v f : ℕ) → v < scale j (f + 1) → scale (j + digit_run l) (f + 1) ≤ atoms_end → numeral v l < atoms_end
numeral_fits [] j v f hi small =
    let z : j + 0 ≡ j = omega arith in
    omega (arith, subst (λ (m : ℕ). scale m (f + 1) ≤ atoms_end) z small)
numeral_fits (b ∷ l) j v f hi small =
    by_case (is_digit_byte b) (λ (c : ℕ). scale (j + c) (f + 1) ≤ atoms_end → numeral v (b ∷ l) < atoms_end) {x = suc (digit_run l)} {y = 0}
    (λ e fits.
    let digit = digit_bounds b e in
    let q : j + suc (digit_run l) ≡ j + 1 + digit_run l = omega arith in
    rw e (numeral_fits l (j + 1) (v * 8 + (b - 48)) f (omega (arith, one_more j (f + 1))) (subst (λ (m : ℕ). scale m (f + 1) ≤ atoms_end) q fits)))
    (λ e fits.
    let z : j + 0 ≡ j = omega arith in
    rw e (omega (arith, subst (λ (m : ℕ). scale m (f + 1) ≤ atoms_end) z fits)))
    small

-- a run that is too long
stopped : (l : List ℕ) (d j v n f : ℕ) → scale j f ≤ v → v < atoms_end → j < digits_most
    → (j + digit_run l < digits_most → atoms_end ≤ scale (j + digit_run l) f)
    → (prospect (at (place in_atom d (j + 1) v) n) l).answered ≡ refusal 16
stopped [] d j v n f lo hi most long =
    let z : j + 0 ≡ j = omega arith in
    let big : atoms_end ≤ scale j f = subst (λ (m : ℕ). atoms_end ≤ scale m f) z (long (omega arith)) in
    absurd (omega arith)
stopped (b ∷ l) d j v n f lo hi most long =
    by_case (is_digit_byte b)
    (λ (c : ℕ). (j + c < digits_most → atoms_end ≤ scale (j + c) f) → (prospect (at (place in_atom d (j + 1) v) n) (b ∷ l)).answered ≡ refusal 16)
    {x = suc (digit_run l)} {y = 0}
    (λ e far.
    let x = b - 48 in
    let P : Step → Type 0 = λ u. (prospect (settle (n + 1) u) l).answered ≡ refusal 16 in
    let q : j + 1 + digit_run l ≡ j + suc (digit_run l) = omega arith in
    ap (λ (o : Prospect). o.answered) (inside d (j + 1) v n b l e)
    ∙ by_case (ltb (j + 1) digits_most) P
    (λ t. by_case (ltb (v * 8 + x) atoms_end) P
    (λ u. stopped l d (j + 1) (v * 8 + x) (n + 1) f (omega (arith, one_more j f)) (ltb-true _ _ u) (ltb-true _ _ t)
    (λ h. subst (λ (m : ℕ). atoms_end ≤ scale m f) (sym q) (far (omega arith))))
    (λ u. faulted 16 l))
    (λ t. faulted 16 l))
    (λ e far.
    let z : j + 0 ≡ j = omega arith in
    let big : atoms_end ≤ scale j f = subst (λ (m : ℕ). atoms_end ≤ scale m f) z (far (omega arith)) in
    absurd (omega arith))
    long

-- an atom that begins at a place
module _ (text : List ℕ) (s : Scan) (i : ℕ) (h : i < length text) (may : may_begin s.phase ≡ true) (e : is_digit_byte (get_or text i 0) ≡ true) where
  begins : prospect (at s i) (drop i text) ≡ prospect (at (place in_atom s.depth 1 (get_or text i 0 - 48)) (i + 1)) (drop (i + 1) text)
  begins =
      let b = get_or text i 0 in
      let first : digit_at s (b - 48) ≡ mark (place in_atom s.depth 1 (b - 48)) = simp may in
      turned text s i h ∙ ap (λ (es : List Mark). behind es (prospect (settle (i + 1) (step_of s b)) (drop (i + 1) text))) (digit-marks (at s i) b e)
      ∙ ap (λ (u : Step). prospect (settle (i + 1) u) (drop (i + 1) text)) (digit_goes s b e ∙ first)

  -- the value of all the digits
  whole : numeral (get_or text i 0 - 48) (drop (i + 1) text) ≡ numeral 0 (drop i text)
  whole =
      let b = get_or text i 0 in
      let z : b - 48 ≡ 0 * 8 + (b - 48) = omega arith in
      ap (λ (v : ℕ). numeral v (drop (i + 1) text)) z ∙ sym (ap (λ (t : Bool). cond t (numeral (0 * 8 + (b - 48)) (drop (i + 1) text)) 0) e)
      ∙ ap (numeral 0) (sym (next text i h))

  pub atom-on : (c : ℕ) → c ≡ digit_run (drop (i + 1) text) → c < digits_most → scale c (get_or text i 0 - 48 + 1) ≤ atoms_end
      → Past s.depth (prospect (at s i) (drop i text)) (i + 1 + c) (numeral 0 (drop i text)) (drop (i + 1 + c) text)
  atom-on c r most small =
      let f = get_or text i 0 - 48 in
      let l = drop (i + 1) text in
      let z : 0 + digit_run l ≡ c = omega arith in
      let q = past-digits l s.depth 0 f (i + 1) f (omega arith) (omega arith) (omega arith) (subst (λ (m : ℕ). scale m (f + 1) ≤ atoms_end) (sym z) small) in
      record {
        digits = q.digits;
        value = q.value;
        is = q.is ∙ whole;
        same = begins ∙ q.same ∙ ap (λ (m : ℕ). prospect (at (place in_atom s.depth q.digits q.value) (i + 1 + m)) (drop m l)) (sym r)
            ∙ ap (prospect (at (place in_atom s.depth q.digits q.value) (i + 1 + c))) (drop-drop c (i + 1) text);
      }

  pub atom-off : (c : ℕ) → c ≡ digit_run (drop (i + 1) text) → (c < digits_most → atoms_end ≤ scale c (get_or text i 0 - 48))
      → (prospect (at s i) (drop i text)).answered ≡ refusal 16
  atom-off c r long =
      let f = get_or text i 0 - 48 in
      let l = drop (i + 1) text in
      let z : 0 + digit_run l ≡ c = omega arith in
      let digit = digit_bounds (get_or text i 0) e in
      ap (λ (o : Prospect). o.answered) begins
      ∙ stopped l s.depth 0 f (i + 1) f (omega arith) (omega arith) (omega arith) (λ m. subst (λ (j : ℕ). atoms_end ≤ scale j f) (sym z) (long (omega arith)))

-- c digits behind the first, b: the code's test tells the runs that are too long
pub short : (c b : ℕ) → is_digit_byte b ≡ true → too_long_atom (c + 1) b ≡ false → (c < digits_most) × (scale c (b - 48 + 1) ≤ atoms_end)
short c b e =
    let digit = digit_bounds b e in
    let A = (c < digits_most) × (scale c (b - 48 + 1) ≤ atoms_end) in
    by_case (ltb (c + 1) digits_most) (λ (t : Bool). t ≡ false → A) {x = false} {y = cond (ltb digits_most (c + 1)) true (ltb 51 b)}
    (λ t u. let less = ltb-true (c + 1) digits_most t in
    let eight : scale 9 (b - 48 + 1) ≤ scale 9 8 = scale_mono 9 {x = b - 48 + 1} {y = 8} (omega arith) in
    (omega arith, omega (arith, scale_up c 9 (b - 48 + 1) (omega arith))))
    (λ t. by_case (ltb digits_most (c + 1)) (λ (u : Bool). u ≡ false → A) {x = true} {y = ltb 51 b} (λ u v. no_yes (sym v))
    (λ u v. let most = ltb-false digits_most (c + 1) u in
    let low = ltb-false 51 b v in
    let four : scale 10 (b - 48 + 1) ≤ scale 10 4 = scale_mono 10 {x = b - 48 + 1} {y = 4} (omega arith) in
    (omega arith, omega (arith, scale_up c 10 (b - 48 + 1) (omega arith)))))

pub long : (c b : ℕ) → too_long_atom (c + 1) b ≡ true → c < digits_most → atoms_end ≤ scale c (b - 48)
long c b t m =
    let A = atoms_end ≤ scale c (b - 48) in
    by_case (ltb (c + 1) digits_most) (λ (u : Bool). u ≡ true → A) {x = false} {y = cond (ltb digits_most (c + 1)) true (ltb 51 b)} (λ u v. no_yes v)
    (λ u. by_case (ltb digits_most (c + 1)) (λ (v : Bool). v ≡ true → A) {x = true} {y = ltb 51 b}
    (λ v w. let more = ltb-true digits_most (c + 1) v in absurd (omega arith))
    (λ v w. let e : c ≡ 10 = omega (arith, ltb-false (c + 1) digits_most u) in
    let high = ltb-true 51 b w in
    rw e (scale_mono 10 {x = 4} {y = b - 48} (omega arith))))
    t
