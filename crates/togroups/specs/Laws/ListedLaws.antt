-- What the check takes of a text is a list and its fill, and at each place of it parts of the list are open.
use Rattle.std.specs.Prelude.{ℕ, suc, ◌<◌, ◌≤◌, ◌≡◌, refl, Bool, true, false, eqb, length, get_or, take, drop}
use Rattle.std.proofs.Common.{sym, subst, ◌∙◌, arith, length-append, take_at}
use Rattle.std.proofs.Math.Path.{ap}
use mathlib.Core.List.{List, [], ◌∷◌, append-nil}
use Rattle.std.proofs.Math.Decide.{ℕ_discrete}
use Rattle.groups.specs.Groups.{elements, groups_of}
use Rattle.lists.specs.Lst.{Lst, order, Atoms}
use Rattle.scan.specs.Laws.Starts.{no_start}
use Rattle.text.specs.Limits.{levels}
use Rattle.text.specs.ListText.{is_digit_byte, idle, bare}
use Rattle.text.specs.Marks.{Mark, opened, marks_of, pushes, top_of, list_in}
use Rattle.text.specs.Text.{Step, at, taken, run, settle, begin, verdict, done}
use Rattle.text.specs.Laws.Accepted.{taken-run, accepted, sized}
use Rattle.text.specs.Laws.Bounds.{limits}
use Rattle.text.specs.Laws.Front.{front}
use Rattle.text.specs.Laws.MarkLaws.{with_open}
use Rattle.text.specs.Laws.OpenLists.{tails_marks}
use Rattle.text.specs.Laws.TextLaws.{by_case, never_taken, class}
use Rattle.togroups.specs.Backward.{marks_from, open_in}
use Rattle.togroups.specs.Listed.{Listed}
use Rattle.togroups.specs.Laws.Descent.{Placed, places, tails_build}
use Rattle.togroups.specs.Laws.FromScan.{marks-met}
use Rattle.togroups.specs.Laws.NoLonger.{no_longer}

-- without blanks and leading zeros a text is no longer
bare_short : (k : Bool) (t : List ℕ) → length (bare k t) ≤ length t
bare_short k [] = omega arith
bare_short k (b ∷ t) =
    by_case (eqb b 32) Fits (λ e. omega (arith, bare_short k t))
    (λ e. by_case (is_digit_byte b) Fits
    (λ d. by_case (idle k b t) Fits (λ i. omega (arith, bare_short false t)) (λ i. omega (arith, bare_short true t)))
    (λ d. omega (arith, bare_short false t)))
  where
    Fits : List ℕ → Type 0
    Fits u = length u ≤ suc (length t)

-- it begins with "("
starts_open : (t : List ℕ) (m : ℕ) → run (at begin 0) t ≡ taken m → (0 < length t) × (get_or t 0 0 ≡ 40)
starts_open [] m e = let z : ◌≡◌ {A = ℕ} 0 1 = cc in absurd (omega arith)
starts_open (b ∷ t) m e = go (ℕ_discrete b 40)
  where
    go : Dec (b ≡ 40) → (0 < suc (length t)) × (b ≡ 40)
    go (yes q) = (omega arith, q)
    go (no n) = absurd (never_taken 15 m t (sym (ap (λ (u : Step). run (settle 1 u) t) (no_start b n (class b))) ∙ e))

-- the part that is taken, and its list
pub listed : (s : List ℕ) (m : ℕ) → verdict s ≡ done m → Listed (take m s) × (list_in (take m s) ≡ list_in s) × (length (take m s) ≡ m)
unfolding list_in
listed s m e =
    let f = front s (at begin 0) 0 m refl (taken-run s m e) in
    let t = f.part in
    let size : length t ≡ m = omega (arith, f.bytes) in
    let cut : take m s ≡ t = ap (take m) f.parts ∙ take_at t f.later m size in
    let same : list_in t ≡ list_in s = ap (λ (es : List Mark). top_of (pushes es [])) (sym f.marks) in
    let g = starts_open t m f.runs in
    let h = marks-met t (f.runs ∙ ap taken (sym size)) in
    let a = accepted s m e in
    let b = limits s m e in
    let it : Listed t = record {
      some = g.0;
      short = omega (arith, (sized s m e).0, ap length f.parts, length-append t f.later);
      starts = g.1;
      runs = h.1;
      marks = sym h.0 ∙ sym f.marks ∙ a.0 ∙ ap (marks_of true) (sym same);
      shallow = subst (λ (l : Lst). order l ≤ levels) (sym same) b.0;
      atoms = subst Atoms (sym same) b.1;
      small = subst (λ (l : Lst). length (groups_of l) ≤ length t) (sym same)
          (omega (arith, no_longer (list_in s), ap length a.1, bare_short false (take m s), ap length cut));
    } in
    (subst Listed (sym cut) it, ap list_in cut ∙ same, ap length cut ∙ size)

-- behind the outermost "("
behind_open_lem : (t : List ℕ) (l : Lst) → 0 < length t → get_or t 0 0 ≡ 40 → marks_from false t ≡ marks_of true l → marks_from false (drop 1 t) ≡ tails_marks (l ∷ [])
behind_open_lem [] l h z e = absurd (omega arith)
behind_open_lem (b ∷ t) l h z e =
    let q : opened ∷ marks_from false t ≡ opened ∷ marks_of false l = ap (λ (c : ℕ). marks_from false (c ∷ t)) (sym z) ∙ e ∙ with_open l in
    let r : marks_from false t ≡ marks_of false l = cc in
    r ∙ sym (append-nil (marks_of false l))

module _ (t : List ℕ) (g : Listed t) where
  rest-marks : marks_from false (drop 1 t) ≡ tails_marks (list_in t ∷ [])
  rest-marks = behind_open_lem t (list_in t) g.some g.starts g.marks

  pub whole_open : open_in (drop 1 t) ≡ list_in t ∷ []
  unfolding open_in
  whole_open = ap (λ (es : List Mark). pushes es []) rest-marks ∙ tails_build (list_in t ∷ [])

  -- the lists open behind the character at i
  pub placed : (i : ℕ) → i < length t → Placed (list_in t) (is_digit_byte (get_or t i 0)) (drop (suc i) t)
  placed = places (list_in t) t (ap is_digit_byte g.starts) (record {
    lists = list_in t ∷ [];
    marks = rest-marks;
    within = record { shallow = (omega (arith, g.shallow), tt); atoms = (g.atoms, tt); small = omega (arith, ap length (append-nil (elements (list_in t)))) };
  })
