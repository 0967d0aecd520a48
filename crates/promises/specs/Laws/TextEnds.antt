-- The bytes of a text that is taken: the characters of one list without a blank, and fewer than a record of blanks behind them.
-- By induction on the characters.
use Rattle.std.specs.Prelude.{◌≡◌, refl, Bool, true, false, cond, List, [], ◌∷◌, ◌++◌, ℕ, zero, suc, ◌+◌, ◌%◌, ◌<◌, eqb, leb, length, replicate, take}
use Rattle.std.proofs.Common.{sym, ap, ◌∙◌, subst, append_assoc, arith, length-append, take_at, eqb-true}
use Rattle.std.proofs.lemmas.List.{length-replicate}
use Rattle.std.proofs.lemmas.Bool.{eqb-false}
use Rattle.answers.specs.Answers.{NOT_A_LIST}
use Rattle.pool.specs.Tally.{same, tally, occ}
use Rattle.pool.specs.Laws.TallyLaws.{same_ne}
use Rattle.text.specs.Limits.{record_bytes}
use Rattle.text.specs.ListText.{head_digit, bare}
use Rattle.text.specs.Text.{Phase, at_start, after_open, after_comma, in_atom, after_element, after_all, Scan, place, Step, mark, fault, State, at, taken, begin, step_of, settle, run, is_over, done, verdict}
use Rattle.text.specs.Laws.TextLaws.{by_case, no_yes, never_taken, rests_taken}
use Rattle.text.specs.Laws.Accepted.{taken-run, taken-within}
use Rattle.promises.specs.TextGrounds.{plain, Records}
use Rattle.promises.specs.Laws.TextForm.{marks}
use Rattle.promises.specs.Laws.TextRows.{both}

abbrev phase_of : Step → Phase
phase_of (mark s) = s.phase
phase_of (fault k) = at_start

no_mark : {A : Type 0} (k : ℕ) (t : Scan) → fault k ≡ mark t → A
no_mark k t e = let z : ◌≡◌ {A = ℕ} 0 1 = ap marks e in absurd (omega arith)

-- behind the last ")" only a blank is taken, and before it none
over-step : (p : Phase) (d n v b : ℕ) → is_over p ≡ true → (t : Scan) → step_of (place p d n v) b ≡ mark t → (b ≡ 32) × (t.phase ≡ after_all)
over-step at_start d n v b o t = no_yes o
over-step after_open d n v b o t = no_yes o
over-step after_comma d n v b o t = no_yes o
over-step in_atom d n v b o t = no_yes o
over-step after_element d n v b o t = no_yes o
over-step after_all d n v b o t =
    by_case (eqb b 40) P (λ _. no_mark NOT_A_LIST t) (λ _. by_case (eqb b 41) P (λ _. no_mark NOT_A_LIST t) (λ _. by_case (eqb b 44) P (λ _. no_mark NOT_A_LIST t)
    (λ _. by_case (eqb b 32) P (λ e m. (eqb-true b 32 e, sym (ap phase_of m))) (λ _. by_case (leb 48 b) P (λ _. by_case (leb b 55) P (λ _. no_mark NOT_A_LIST t) (λ _. no_mark NOT_A_LIST t)) (λ _. no_mark NOT_A_LIST t)))))
  where
    P : Step → Type 0
    P u = u ≡ mark t → (b ≡ 32) × (t.phase ≡ after_all)

inside-step : (s : Scan) (b : ℕ) → is_over s.phase ≡ false → (t : Scan) → step_of s b ≡ mark t → b ≡ 32 → ⊥
inside-step s b o t m e =
    let z : step_of s 32 ≡ mark t = subst (λ (c : ℕ). step_of s c ≡ mark t) e m in
    let y : step_of s 32 ≡ fault NOT_A_LIST = ap (λ (c : Bool). cond c (mark (place after_all 0 0 0)) (fault NOT_A_LIST)) o in
    no_mark NOT_A_LIST t (sym y ∙ z)

record Ends (s : Scan) (n : ℕ) (xs : List ℕ) (m : ℕ) : Type 0 where
  chars : List ℕ
  blanks : ℕ
  later : List ℕ
  parts : xs ≡ chars ++ (replicate blanks 32 ++ later)
  bytes : n + length chars + blanks ≡ m
  solid : occ chars 32 ≡ 0
  few : blanks < record_bytes

-- behind the last ")" the record is filled up
filled_up : (xs : List ℕ) (s : Scan) (n m : ℕ) → is_over s.phase ≡ true → (n % record_bytes ≡ 0 → ⊥) → run (at s n) xs ≡ taken m
    → (k : ℕ) × (later : List ℕ) × (xs ≡ replicate k 32 ++ later) × (n + k ≡ m) × (n % record_bytes + k ≡ record_bytes)
filled_up [] s n m o z e = let q : ◌≡◌ {A = ℕ} 0 1 = cc in absurd (omega arith)
filled_up (b ∷ xs) s n m o z e = go (step_of s b) refl (eqb ((n + 1) % record_bytes) 0) refl (filled_up xs)
  where
    go : (u : Step) → step_of s b ≡ u → (c : Bool) → eqb ((n + 1) % record_bytes) 0 ≡ c
        → ((t : Scan) (n m : ℕ) → is_over t.phase ≡ true → (n % record_bytes ≡ 0 → ⊥) → run (at t n) xs ≡ taken m → (k : ℕ) × (later : List ℕ) × (xs ≡ replicate k 32 ++ later) × (n + k ≡ m) × (n % record_bytes + k ≡ record_bytes))
        → (k : ℕ) × (later : List ℕ) × (b ∷ xs ≡ replicate k 32 ++ later) × (n + k ≡ m) × (n % record_bytes + k ≡ record_bytes)
    go (fault k) u c q ih = absurd (never_taken k m xs (ap (λ (v : Step). run (settle (n + 1) v) xs) (sym u) ∙ e))
    go (mark t) u true q ih =
        let (eb, et) = over-step s.phase s.depth s.digits s.value b o t u in
        let r : run (settle (n + 1) (mark t)) xs ≡ taken m = ap (λ (v : Step). run (settle (n + 1) v) xs) (sym u) ∙ e in
        let w : settle (n + 1) (mark t) ≡ taken (n + 1) = rw (ap is_over et, q) in
        let y : taken (n + 1) ≡ taken m = sym (rests_taken (n + 1) xs) ∙ ap (λ (st : State). run st xs) (sym w) ∙ r in
        let x : n + 1 ≡ m = cc in
        (1, xs, ap (λ (c : ℕ). c ∷ xs) eb, x, omega (arith, eqb-true ((n + 1) % record_bytes) 0 q))
    go (mark t) u false q ih =
        let (eb, et) = over-step s.phase s.depth s.digits s.value b o t u in
        let r : run (settle (n + 1) (mark t)) xs ≡ taken m = ap (λ (v : Step). run (settle (n + 1) v) xs) (sym u) ∙ e in
        let w : settle (n + 1) (mark t) ≡ at t (n + 1) = rw (ap is_over et, q) in
        let y = eqb-false ((n + 1) % record_bytes) 0 q in
        let (k, later, p, f, g) = ih t (n + 1) m (ap is_over et) y (ap (λ (st : State). run st xs) (sym w) ∙ r) in
        (suc k, later, both {ys = replicate k 32 ++ later} eb p, omega arith, next k f g y)
      where
        next : (k : ℕ) → n + 1 + k ≡ m → (n + 1) % record_bytes + k ≡ record_bytes → ((n + 1) % record_bytes ≡ 0 → ⊥) → n % record_bytes + suc k ≡ record_bytes
        next k f g y = omega arith

-- the same with the scan's own states
ends : (xs : List ℕ) (s : Scan) (n m : ℕ) → is_over s.phase ≡ false → run (at s n) xs ≡ taken m → Ends s n xs m
unfolding tally
ends [] s n m o e = let q : ◌≡◌ {A = ℕ} 0 1 = cc in absurd (omega arith)
ends (b ∷ xs) s n m o e = go (step_of s b) refl (ends xs)
  where
    go : (u : Step) → step_of s b ≡ u → ((t : Scan) (n m : ℕ) → is_over t.phase ≡ false → run (at t n) xs ≡ taken m → Ends t n xs m) → Ends s n (b ∷ xs) m
    go (fault k) u ih = absurd (never_taken k m xs (ap (λ (v : Step). run (settle (n + 1) v) xs) (sym u) ∙ e))
    go (mark t) u ih = rest (is_over t.phase) refl (eqb ((n + 1) % record_bytes) 0) refl
      where
        solid : same b 32 ≡ 0
        solid = same_ne b 32 (inside-step s b o t u)

        r : run (settle (n + 1) (mark t)) xs ≡ taken m
        r = ap (λ (v : Step). run (settle (n + 1) v) xs) (sym u) ∙ e

        rest : (x : Bool) → is_over t.phase ≡ x → (y : Bool) → eqb ((n + 1) % record_bytes) 0 ≡ y → Ends s n (b ∷ xs) m
        rest true x true y =
            let w : settle (n + 1) (mark t) ≡ taken (n + 1) = rw (x, y) in
            let p : taken (n + 1) ≡ taken m = sym (rests_taken (n + 1) xs) ∙ ap (λ (st : State). run st xs) (sym w) ∙ r in
            let q : n + 1 ≡ m = cc in
            record { chars = b ∷ []; blanks = 0; later = xs; parts = refl; bytes = omega arith; solid = omega (arith, solid); few = omega arith }
        rest true x false y =
            let w : settle (n + 1) (mark t) ≡ at t (n + 1) = rw (x, y) in
            let (k, later, p, f, g) = filled_up xs t (n + 1) m x (eqb-false ((n + 1) % record_bytes) 0 y) (ap (λ (st : State). run st xs) (sym w) ∙ r) in
            record { chars = b ∷ []; blanks = k; later = later; parts = both refl p; bytes = omega arith; solid = omega (arith, solid); few = short (eqb-false ((n + 1) % record_bytes) 0 y) g }
          where
            short : {k : ℕ} → ((n + 1) % record_bytes ≡ 0 → ⊥) → (n + 1) % record_bytes + k ≡ record_bytes → k < record_bytes
            short z g = omega arith
        rest false x c y =
            let w : settle (n + 1) (mark t) ≡ at t (n + 1) = rw x in
            let i = ih t (n + 1) m x (ap (λ (st : State). run st xs) (sym w) ∙ r) in
            record {
              chars = b ∷ i.chars;
              blanks = i.blanks;
              later = i.later;
              parts = both {ys = i.chars ++ (replicate i.blanks 32 ++ i.later)} refl i.parts;
              bytes = omega (arith, i.bytes);
              solid = omega (arith, solid, i.solid);
              few = i.few;
            }

pub records : (xs : List ℕ) (m : ℕ) → verdict xs ≡ done m → (t : List ℕ) × Records xs m t
records xs m e =
    let i = ends xs begin 0 m refl (taken-run xs m e) in
    let w = taken-within xs m e in
    let f : List ℕ = replicate i.blanks 32 in
    let long : length (i.chars ++ f) ≡ m = length-append i.chars f ∙ ap (λ (k : ℕ). length i.chars + k) (length-replicate i.blanks 32) ∙ omega (arith, i.bytes) in (
      i.chars,
      record {
        blanks = i.blanks;
        bytes = ap (take m) (i.parts ∙ sym (append_assoc i.chars f i.later)) ∙ take_at (i.chars ++ f) i.later m long;
        few = i.few;
        whole = w.1;
        within = w.0;
        solid = i.solid;
      },
    )

-- blanks at the end do not count
bare-blanks : (n : ℕ) (k : Bool) → bare k (replicate n 32) ≡ []
bare-blanks zero k = refl
bare-blanks (suc n) k = bare-blanks n k

head-blanks : (t : List ℕ) (n : ℕ) → head_digit (t ++ replicate n 32) ≡ head_digit t
head-blanks [] zero = refl
head-blanks [] (suc n) = refl
head-blanks (b ∷ t) n = refl

bare-filled : (t : List ℕ) (n : ℕ) (k : Bool) → bare k (t ++ replicate n 32) ≡ bare k t
bare-filled [] n k = bare-blanks n k
bare-filled (b ∷ t) n k = simp (bare-filled t n, head-blanks t n)

pub plain_records : (xs : List ℕ) (m : ℕ) (t : List ℕ) → Records xs m t → plain (take m xs) ≡ plain t
plain_records xs m t r = ap plain r.bytes ∙ bare-filled t r.blanks false
