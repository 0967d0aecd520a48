-- A scan from place to place: the outlook stays that of the whole text, so what is said at its end is said of the text.
use Prim.Native.Nat.{ℕ, ◌+◌, ◌-◌, ◌<◌, ◌≤◌}
use mathlib.Core.Path.{◌≡◌, sym, ap, subst, ◌∙◌}
use mathlib.Core.List.{List, ◌++◌}
use native.Mathlib.Omega.{arith}
use lib.ListN.{length, drop, get_or, drop_of_length-le}
use borrow.Author.Tests.{eq-eqb}
use Rattle.std.specs.Prelude.{Result, Ok, Err}
use Rattle.answers.specs.Refusals.{refusal_no}
use Rattle.answers.specs.declared.refusal.Refusal.{Refusal}
use Rattle.answers.specs.declared.refusal.Refusal.TheVariants.{NotAList}
use Rattle.lists.specs.Lst.{extent}
use Rattle.text.specs.Limits.{levels}
use Rattle.text.specs.Text.{place, begin, State, at, run, settle, step_of, answer, scanned, refusal}
use Rattle.text.specs.Marks.{met, beginnings, trace, list_in}
use Rattle.text.specs.Laws.TextLaws.{class}
use Rattle.text.specs.Laws.MarkLaws.{beginnings-append}
use Rattle.text.specs.Laws.Accepted.{beginnings-text}
use Rattle.scan.specs.Places.{opened, over_at, state_of, phase_of, Outlook, outlook, outlook_at, Prospect, prospect_at, emitted, Inside, Taken}
use Rattle.scan.specs.Laws.Starts.{no_start}
use Rattle.scan.specs.Outcomes.{Sized, Scans, Foresees}
use Rattle.scan.specs.declared.Scanned.{Scanned}
use Rattle.scan.specs.declared.step.Place.{Place}
use Rattle.scan.proofs.Outlooks.{turn, stops}
use Rattle.scan.proofs.Turns.{standing}

abbrev pub whole : List ℕ → Outlook
whole s = outlook 0 (at begin 0) s

-- what says the outlook of the whole text says what scan does
whole_says : (s : List ℕ) (r : Result Scanned Refusal) → Foresees (whole s) r → Scans s r
unfolding scanned
whole_says s (Ok c) (a, e) =
    let n = beginnings (trace (at begin 0) s) in
    let x : 0 + n - 1 ≡ extent (list_in s) = omega (arith, beginnings-text s c.taken a) in
    (a, e ∙ x)
whole_says s (Err f) a = a

refused_says : (s : List ℕ) (f : Refusal) → (whole s).answered ≡ refusal (refusal_no f) → Scans s (Err f)
refused_says s f e = whole_says s (Err f) e

-- the first character
pub starts_not : (s : List ℕ) → 0 < length s → (get_or s 0 0 ≡ 40 → ⊥) → Scans s (Err NotAList)
starts_not s h n = refused_says s NotAList (stops s begin 0 15 h (no_start (get_or s 0 0) n (class (get_or s 0 0))))

-- the loop over the places: the outlook stays that of the whole text
pub record Stands (s : List ℕ) (p : Place) : Type 0 where
  pub same : whole s ≡ outlook_at s p
  pub within : p.at ≤ length s
  pub deep : 1 ≤ p.depth
  pub levelled : p.depth ≤ levels
  pub counted : p.elements ≤ p.at

pub starts : (s : List ℕ) → 0 < length s → get_or s 0 0 ≡ 40 → Stands s opened
starts s h e =
    record {
      same = turn s 0 begin 0 h ∙ ap (λ (b : ℕ). outlook (0 + beginnings (met (at begin 0) b)) (settle 1 (step_of begin b)) (drop 1 s)) e;
      within = omega arith;
      deep = omega arith;
      levelled = omega arith;
      counted = omega arith;
    }

pub inside : (s : List ℕ) (p : Place) → Sized s → Stands s p → p.at < length s → Inside s p
inside s p z a h = record { some = h; small = z.small; deep = a.deep; levelled = a.levelled; counted = a.counted }

-- a step keeps the count too
counts : (s : List ℕ) (p q : Place) → Taken s p (Ok q) → outlook_at s p ≡ outlook_at s q
counts s p q w =
    let ms = emitted s p q in
    let l = (prospect_at s q).marks in
    let n : p.elements + 1 + beginnings (ms ++ l) ≡ q.elements + 1 + beginnings l = omega (arith, beginnings-append ms l, w.tallied) in
    ap (λ (o : Prospect). record { answered = o.answered; begins = p.elements + 1 + beginnings o.marks }) w.same
    ∙ ap (λ (k : ℕ). record { answered = (prospect_at s q).answered; begins = k }) n

pub goes_on_lem : (s : List ℕ) (p q : Place) → Stands s p → Taken s p (Ok q) → (q.depth ≡ 0 → ⊥) → Stands s q
goes_on_lem s p q a w n =
    record { same = a.same ∙ counts s p q w; within = w.within; deep = omega arith; levelled = w.levelled; counted = w.counted }

pub faults : (s : List ℕ) (p : Place) (f : Refusal) → Stands s p → Taken s p (Err f) → Scans s (Err f)
faults s p f a e = refused_says s f (ap (λ (o : Outlook). o.answered) a.same ∙ e)

pub runs_out : (s : List ℕ) (p : Place) → Stands s p → length s ≤ p.at → Scans s (Err NotAList)
runs_out s p a h =
    let st = at (place (phase_of p.first) p.depth 0 0) p.at in
    faults s p NotAList a
    (ap (λ (u : State). answer (run u (drop p.at s))) (standing p a.deep) ∙ ap (λ (l : List ℕ). answer (run st l)) (drop_of_length-le s h))

pub ends : (s : List ℕ) (p q : Place) (r : Result Scanned Refusal) → Stands s p → Taken s p (Ok q) → q.depth ≡ 0
    → Foresees (outlook (q.elements + 1) (over_at q.at) (drop q.at s)) r → Scans s r
ends s p q r a w z f =
    let over : state_of q ≡ over_at q.at = simp (eq-eqb q.depth 0 z) in
    let same = a.same ∙ counts s p q w ∙ ap (λ (u : State). outlook (q.elements + 1) u (drop q.at s)) over in
    whole_says s r (subst (λ (o : Outlook). Foresees o r) (sym same) f)
