-- A place that a scan stands at knows what the characters so far say, so its step faults a character exactly as the text form does.
use Rattle.std.specs.Prelude.{◌≡◌, refl, ◌⊎◌, Bool, true, false, cond, List, [], ◌∷◌, ◌++◌, ℕ, ◌+◌, ◌-◌, ◌*◌, ◌<◌, ltb}
use Rattle.std.proofs.Common.{sym, ap, ◌∙◌, subst, inl, inr, true≢false, arith, ltb-true, ltb-false, ne_eqb, le-leb}
use Rattle.std.proofs.lemmas.Bool.{false≢true}
use Rattle.answers.specs.Answers.{NOT_A_LIST}
use Rattle.text.specs.Limits.{levels, digits_most, atoms_end}
use Rattle.text.specs.ListText.{is_digit_byte}
use Rattle.text.specs.Text.{Phase, at_start, after_open, after_comma, in_atom, after_element, after_all, Scan, place, Step, mark, fault, begin, step_of, open_at, shut_at, comma_at, blank_at, digit_at, is_over, may_open, may_shut, may_part, may_begin, is_atom}
use Rattle.text.specs.Laws.TextLaws.{by_case, digit-step, Class, is_open, is_shut, is_comma, is_blank, is_digit, is_other, class}
use Rattle.text.specs.Writing.{depth_after}
use Rattle.promises.specs.TextGrounds.{along, open_in, last_in, digits_in, value_in, Octal, Allowed, TooLarge, FaultAt, NoFault}
use Rattle.promises.specs.Laws.TextForm.{marks, along-next, PhaseAt, After, after_follows, follows_after, none2, tells_open, tells_shut, tells_part, tells_over, digit_may, digit_must, other_after}

-- what a place knows of the characters so far
pub record Placed (us : List ℕ) (s : Scan) : Type 0 where
  pub depth : open_in us ≡ s.depth
  pub digits : digits_in us ≡ s.digits
  pub value : value_in us ≡ s.value
  pub phase : PhaseAt s.phase (last_in us) (open_in us)
  pub zero : is_atom s.phase ≡ false → (s.digits ≡ 0) × (s.value ≡ 0)

abbrev pub StepAt : List ℕ → ℕ → Step → Type 0
StepAt us b (mark t) = NoFault us b × Placed (us ++ (b ∷ [])) t
StepAt us b (fault k) = FaultAt us b k

module _ (us : List ℕ) (s : Scan) (p : Placed us s) where
  may : (b : ℕ) → After s.phase b → Allowed us b
  may b a = after_follows s.phase (last_in us) (open_in us) b p.phase a

  may_not : (b : ℕ) → (After s.phase b → ⊥) → Allowed us b → ⊥
  may_not b n w = n (follows_after s.phase (last_in us) (open_in us) b p.phase w)

  -- a place behind a character that is no digit
  next_place : (b d : ℕ) (q : Phase) → is_digit_byte b ≡ false → depth_after (open_in us) b ≡ d → PhaseAt q b d → Placed (us ++ (b ∷ [])) (place q d 0 0)
  next_place b d q n e h = record {
    depth = along-next depth_after 0 us b ∙ e;
    digits = along-next (λ n b. cond (is_digit_byte b) (n + 1) 0) 0 us b ∙ ap (λ (c : Bool). cond c (digits_in us + 1) 0) n;
    value = along-next (λ v b. cond (is_digit_byte b) (v * 8 + (b - 48)) 0) 0 us b ∙ ap (λ (c : Bool). cond c (value_in us * 8 + (b - 48)) 0) n;
    phase = subst (λ (c : ℕ). PhaseAt q c (open_in (us ++ (b ∷ [])))) (sym (along-next (λ c b. b) 0 us b)) (subst (PhaseAt q b) (sym (along-next depth_after 0 us b ∙ e)) h);
    zero = λ _. (refl, refl);
  }

  no_digit : (b : ℕ) → b < 48 → TooLarge us b → ⊥
  no_digit b l h = omega (arith, h.0.0)

  open_step : StepAt us 40 (open_at s.phase s.depth)
  open_step = by_case (may_open s.phase) (StepAt us 40)
      (λ m. by_case (ltb s.depth levels) (StepAt us 40)
      (λ h. ((may 40 ((tells_open s.phase).0 m), no_digit 40 (omega arith), λ w. omega (arith, w.1, ltb-true s.depth levels h, p.depth)), next_place 40 (s.depth + 1) after_open refl (ap (λ (d : ℕ). d + 1) p.depth) refl))
      (λ h. inr (inr (refl, may 40 ((tells_open s.phase).0 m), (refl, omega (arith, ltb-false s.depth levels h, p.depth))))))
      (λ m. inl (refl, may_not 40 ((tells_open s.phase).1 m)))

  shut_step : StepAt us 41 (shut_at s.phase s.depth)
  shut_step = by_case (may_shut s.phase) (StepAt us 41)
      (λ m. let ok : NoFault us 41 = (may 41 ((tells_shut s.phase).0 m), no_digit 41 (omega arith), λ w. omega (arith, w.0)) in
      by_case (ltb s.depth 2) (StepAt us 41)
      (λ h. (ok, next_place 41 0 after_all refl (omega (arith, ltb-true s.depth 2 h, p.depth)) (inl refl, refl)))
      (λ h. (ok, next_place 41 (s.depth - 1) after_element refl (ap (λ (d : ℕ). d - 1) p.depth) (refl, omega (arith, ltb-false s.depth 2 h)))))
      (λ m. inl (refl, may_not 41 ((tells_shut s.phase).1 m)))

  comma-step : StepAt us 44 (comma_at s.phase s.depth)
  comma-step = by_case (may_part s.phase) (StepAt us 44)
      (λ m. ((may 44 ((tells_part s.phase).0 m), no_digit 44 (omega arith), λ w. omega (arith, w.0)), next_place 44 s.depth after_comma refl p.depth refl))
      (λ m. inl (refl, may_not 44 ((tells_part s.phase).1 m)))

  blank_step : StepAt us 32 (blank_at s.phase)
  blank_step = by_case (is_over s.phase) (StepAt us 32)
      (λ m. ((may 32 ((tells_over s.phase).0 m), no_digit 32 (omega arith), λ w. omega (arith, w.0)), next_place 32 0 after_all refl (shut s.phase m p.phase) (inr refl, refl)))
      (λ m. inl (refl, may_not 32 ((tells_over s.phase).1 m)))
    where
      shut : (q : Phase) → is_over q ≡ true → PhaseAt q (last_in us) (open_in us) → open_in us ≡ 0
      shut at_start o h = absurd (false≢true o)
      shut after_open o h = absurd (false≢true o)
      shut after_comma o h = absurd (false≢true o)
      shut in_atom o h = absurd (false≢true o)
      shut after_element o h = absurd (false≢true o)
      shut after_all o h = h.1

  digits_step : (x : ℕ) → x < 8 → StepAt us (48 + x) (digit_at s x)
  digits_step x l = by_case (may_begin s.phase) (StepAt us (48 + x))
      (λ m. let z = p.zero (no_atom s.phase m) in (
        (may (48 + x) (digit_may s.phase (48 + x) o (inl m)), (λ w. none2 (λ a. omega (arith, z.0, p.digits)) (λ a. omega (arith, z.1, p.value)) w.1), λ w. omega (arith, w.0)),
        grown 1 x (omega (arith, z.0, p.digits)) (omega (arith, z.1, p.value)),
      ))
      (λ m. by_case (is_atom s.phase) (StepAt us (48 + x))
      (λ i. by_case (ltb s.digits digits_most) (StepAt us (48 + x))
      (λ j. by_case (ltb (s.value * 8 + x) atoms_end) (StepAt us (48 + x))
      (λ k. (
        (may (48 + x) (digit_may s.phase (48 + x) o (inr i)), (λ w. none2 (λ a. omega (arith, ltb-true s.digits digits_most j, p.digits)) (λ a. omega (arith, ltb-true (s.value * 8 + x) atoms_end k, p.value)) w.1), λ w. omega (arith, w.0)),
        grown (s.digits + 1) (s.value * 8 + x) (ap (λ (n : ℕ). n + 1) p.digits) (ap (λ (n : ℕ). n * 8 + x) p.value),
      ))
      (λ k. inr (inl (refl, may (48 + x) (digit_may s.phase (48 + x) o (inr i)), (o, inr (omega (arith, ltb-false (s.value * 8 + x) atoms_end k, p.value)))))))
      (λ j. inr (inl (refl, may (48 + x) (digit_may s.phase (48 + x) o (inr i)), (o, inl (omega (arith, ltb-false s.digits digits_most j, p.digits)))))))
      (λ i. inl (refl, may_not (48 + x) (digit_must s.phase (48 + x) o m i))))
    where
      o : Octal (48 + x)
      o = (omega arith, omega arith)

      no_atom : (q : Phase) → may_begin q ≡ true → is_atom q ≡ false
      no_atom at_start m = refl
      no_atom after_open m = refl
      no_atom after_comma m = refl
      no_atom in_atom m = absurd (false≢true m)
      no_atom after_element m = refl
      no_atom after_all m = refl

      is : is_digit_byte (48 + x) ≡ true
      is = rw (le-leb 48 (48 + x) (omega arith), le-leb (48 + x) 55 (omega arith))

      level : depth_after (open_in us) (48 + x) ≡ open_in us
      level = rw (ne_eqb (48 + x) 40 (λ e. omega arith), ne_eqb (48 + x) 41 (λ e. omega arith))

      same-value : value_in us * 8 + (48 + x - 48) ≡ value_in us * 8 + x
      same-value = omega arith

      grown : (n v : ℕ) → digits_in us + 1 ≡ n → value_in us * 8 + x ≡ v → Placed (us ++ ((48 + x) ∷ [])) (place in_atom s.depth n v)
      grown n v e f = record {
        depth = along-next depth_after 0 us (48 + x) ∙ level ∙ p.depth;
        digits = along-next (λ n b. cond (is_digit_byte b) (n + 1) 0) 0 us (48 + x) ∙ ap (λ (c : Bool). cond c (digits_in us + 1) 0) is ∙ e;
        value = along-next (λ v b. cond (is_digit_byte b) (v * 8 + (b - 48)) 0) 0 us (48 + x) ∙ ap (λ (c : Bool). cond c (value_in us * 8 + (48 + x - 48)) 0) is ∙ same-value ∙ f;
        phase = subst Octal (sym (along-next (λ c b. b) 0 us (48 + x))) o;
        zero = λ q. absurd (true≢false q);
      }

  -- a character that no place takes
  other_step : (b : ℕ) → ((t : Scan) → step_of t b ≡ fault NOT_A_LIST) → FaultAt us b NOT_A_LIST
  other_step b f = inl (refl, may_not b (other_after s.phase b (never begin 40 refl) (never (place after_element 2 0 0) 41 refl) (never (place after_element 2 0 0) 44 refl) (never (place after_all 0 0 0) 32 refl) octal))
    where
      never : (t : Scan) (c : ℕ) → marks (step_of t c) ≡ 1 → b ≡ c → ⊥
      never t c m e = let z : ◌≡◌ {A = ℕ} 0 1 = ap marks (sym (f t)) ∙ ap (λ (k : ℕ). marks (step_of t k)) e ∙ m in omega arith

      octal : Octal b → ⊥
      octal o =
          let x : ℕ = b - 48 in
          let e : b ≡ 48 + x = omega (arith, o.0) in
          never (place after_open 1 0 0) (48 + x) (ap marks (digit-step (place after_open 1 0 0) x (omega (arith, o.1)))) e

  pub step-at : (b : ℕ) → StepAt us b (step_of s b)
  step-at b = go (class b)
    where
      go : Class b → StepAt us b (step_of s b)
      go (is_open e) = subst (λ (c : ℕ). StepAt us c (step_of s c)) (sym e) open_step
      go (is_shut e) = subst (λ (c : ℕ). StepAt us c (step_of s c)) (sym e) shut_step
      go (is_comma e) = subst (λ (c : ℕ). StepAt us c (step_of s c)) (sym e) comma-step
      go (is_blank e) = subst (λ (c : ℕ). StepAt us c (step_of s c)) (sym e) blank_step
      go (is_digit x l e) = subst (λ (c : ℕ). StepAt us c (step_of s c)) (sym e) (subst (StepAt us (48 + x)) (sym (digit-step s x l)) (digits_step x l))
      go (is_other f) = subst (StepAt us b) (sym (f s)) (other_step b f)

-- the list has ended exactly at a place behind the last ")"
pub over-ended : (us : List ℕ) (s : Scan) → Placed us s → is_over s.phase ≡ true → ((last_in us ≡ 41) ⊎ (last_in us ≡ 32)) × (open_in us ≡ 0)
over-ended us s p o = go s.phase o p.phase
  where
    go : (q : Phase) → is_over q ≡ true → PhaseAt q (last_in us) (open_in us) → ((last_in us ≡ 41) ⊎ (last_in us ≡ 32)) × (open_in us ≡ 0)
    go at_start o h = absurd (false≢true o)
    go after_open o h = absurd (false≢true o)
    go after_comma o h = absurd (false≢true o)
    go in_atom o h = absurd (false≢true o)
    go after_element o h = absurd (false≢true o)
    go after_all o h = h

pub ended-over : (us : List ℕ) (s : Scan) → Placed us s → is_over s.phase ≡ false → (last_in us ≡ 41) ⊎ (last_in us ≡ 32) → open_in us ≡ 0 → ⊥
ended-over us s p o l z = go s.phase o p.phase
  where
    not_end : (c : ℕ) → (c ≡ 41 → ⊥) → (c ≡ 32 → ⊥) → last_in us ≡ c → ⊥
    not_end c f g e = none2 (λ q. f (sym e ∙ q)) (λ q. g (sym e ∙ q)) l

    go : (q : Phase) → is_over q ≡ false → PhaseAt q (last_in us) (open_in us) → ⊥
    go at_start o h = not_end 0 (λ e. omega (arith, e)) (λ e. omega (arith, e)) h
    go after_open o h = not_end 40 (λ e. omega (arith, e)) (λ e. omega (arith, e)) h
    go after_comma o h = not_end 44 (λ e. omega (arith, e)) (λ e. omega (arith, e)) h
    go in_atom o h = none2 (λ q. omega (arith, h.0)) (λ q. omega (arith, h.0)) l
    go after_element o h = omega (arith, h.1)
    go after_all o h = true≢false o

pub placed_first : Placed [] begin
unfolding along
placed_first = record { depth = refl; digits = refl; value = refl; phase = refl; zero = λ _. (refl, refl) }
