-- A text that the check takes begins with "(", and each step from a place of it is a mark, up to its last ")".
use Rattle.std.specs.Prelude.{◌≡◌, refl, true, List, [], ◌∷◌, ◌++◌, ℕ, ◌≤◌, ◌<◌, length, drop}
use Rattle.std.proofs.Common.{sym, ap, ◌∙◌, subst, arith, ne_eqb, drop_of_length-le}
use Rattle.std.proofs.Math.Decide.{ℕ_discrete}
use Rattle.scan.specs.Places.{opened, phase_of, state_of, Prospect, prospect_at, emitted, Inside}
use Rattle.scan.specs.Laws.Starts.{no_start}
use Rattle.scan.specs.declared.step.Place.{Place}
use Rattle.text.specs.Laws.Accepted.{accepted, sized, never_nought}
use Rattle.text.specs.Marks as marks
use Rattle.text.specs.Marks.{marks_of, list_in}
use Rattle.text.specs.Text.{Answer, Step, State, at, place, settle, run, answer, scanned, refusal}
use Rattle.text.specs.Laws.TextLaws.{rests_refused, class}
use Rattle.reading.specs.Accepting.{Taken, Accepting, Goes}

-- a refusal is not what the check says of a text that it takes
pub refuted : {A : Type 0} (s : List ℕ) → Taken s → (k : ℕ) → scanned s ≡ refusal k → A
refuted s t k e =
    let d = (sized s t.bytes t.is).1 in
    let z : k ≡ 0 = ap (λ (a : Answer). a.no) (sym e ∙ d) in
    absurd (never_nought s (e ∙ ap refusal z))

-- behind the outermost "("
pub record First (s : List ℕ) : Type 0 where
  pub place : Accepting s opened
  pub left : marks_of true (list_in s) ≡ marks.opened ∷ (prospect_at s opened).marks

behind_open_lem : (bs : List ℕ) → Taken (40 ∷ bs) → First (40 ∷ bs)
unfolding scanned
behind_open_lem bs t =
    let s : List ℕ = 40 ∷ bs in
    let all = (accepted s t.bytes t.is).0 in
    record {
      place = record { within = omega arith; levelled = omega arith; counted = omega arith; answered = refl };
      left = sym all;
    }

pub first : (s : List ℕ) → Taken s → First s
unfolding scanned
first [] t = refuted [] t 15 refl
first (b ∷ bs) t = go (ℕ_discrete b 40)
  where
    go : Dec (b ≡ 40) → First (b ∷ bs)
    go (yes e) = subst (λ (c : ℕ). Taken (c ∷ bs) → First (c ∷ bs)) (sym e) (behind_open_lem bs) t
    go (no n) = refuted (b ∷ bs) t 15 (ap (λ (u : Step). answer (run (settle 1 u) bs)) (no_start b n (class b)) ∙ ap answer (rests_refused 15 bs))

module _ (s : List ℕ) (t : Taken s) (p : Place) (a : Accepting s p) where
  pub inside : 1 ≤ p.depth → Inside s p
  inside deep = record {
    some = go (ℕ_discrete (length s) p.at);
    small = (sized s t.bytes t.is).0;
    deep = deep;
    levelled = a.levelled;
    counted = a.counted;
  }
    where
      go : Dec (length s ≡ p.at) → p.at < length s
      go (no n) = omega (arith, a.within)
      go (yes e) =
          let n : p.depth ≡ 0 → ⊥ = λ z. omega arith in
          let st = at (place (phase_of p.first) p.depth 0 0) p.at in
          let stands : state_of p ≡ st = simp (ne_eqb p.depth 0 n) in
          let out : length s ≤ p.at = omega arith in
          refuted s t 15
          (sym a.answered ∙ ap (λ (u : State). answer (run u (drop p.at s))) stands
          ∙ ap (λ (l : List ℕ). answer (run st l)) (drop_of_length-le s out))

  pub goes_on_lem : (q : Place) → Goes s p q → Accepting s q
  goes_on_lem q w = record {
    within = w.within;
    levelled = w.levelled;
    counted = w.counted;
    answered = sym (ap (λ (o : Prospect). o.answered) w.same) ∙ a.answered;
  }

  pub marks-on : (q : Place) → Goes s p q → (prospect_at s p).marks ≡ emitted s p q ++ (prospect_at s q).marks
  marks-on q w = ap (λ (o : Prospect). o.marks) w.same
