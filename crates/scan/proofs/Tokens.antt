-- The steps of the code from a place where an element is to begin: "(", ")" and an atom. One turn of the automaton each, and for an
-- atom its digits before.
use Prim.Native.Nat.{ℕ, suc, ◌+◌, ◌-◌, ◌<◌, ◌≤◌}
use mathlib.Core.Path.{◌≡◌, refl, sym, ap, subst, ◌∙◌}
use mathlib.Core.List.{List, [], ◌∷◌, ◌++◌}
use mathlib.Core.Bool.{Bool, true, false}
use Rattle.std.specs.Prelude.{Ok, Err}
use Rattle.answers.specs.Refusals.{refusal_no}
use Rattle.answers.specs.declared.refusal.Refusal.{Refusal}
use Rattle.answers.specs.declared.refusal.Refusal.TheVariants.{NotAList, Atom}
use native.Mathlib.Omega.{arith}
use lib.ListN.{length, drop, get_or, drop_of_length-le}
use borrow.Author.Tests.{lt-ltb, le-ltb}
use Rattle.text.specs.Text.{Scan, place, in_atom, may_shut, State, at, step_of, refusal}
use Rattle.text.specs.ListText.{is_digit_byte}
use Rattle.text.specs.Marks as marks
use Rattle.text.specs.Marks.{Mark, beginnings, shut, value}
use Rattle.text.specs.Laws.TextLaws.{class}
use Rattle.scan.specs.Runs.{digit_run, numeral}
use Rattle.scan.specs.Places.{placed, open_of, too_long_atom, closed_at, phase_of, Prospect, prospect, prospect_at}
use Rattle.scan.specs.Places.{Step, shuts, emitted, Inside, Onward, Told, Taken, Closed}
use Rattle.scan.specs.declared.step.Place.{Place}
use Rattle.scan.proofs.RunLaws.{run_ends}
use Rattle.scan.proofs.Atoms.{Past, atom-on, atom-off, short, long}
use Rattle.scan.proofs.Turns.{standing, fault_told, comma-on, shut_same, shut_told, open_told}
use Rattle.scan.proofs.Misplaced.{behind-digits, may_begin_lem, no_pending, no_element}

-- an atom whose digits end before i
pub record AtomTo (s : List ℕ) (p : Place) (i : ℕ) : Type 0 where
  pub digit : is_digit_byte (get_or s p.at 0) ≡ true
  pub run : i ≡ p.at + 1 + digit_run (drop (p.at + 1) s)

-- from a place where an element is to begin
module _ {s : List ℕ} {p : Place} (h : Inside s p) where
  abbrev scan_at : Scan
  scan_at = place (phase_of p.first) p.depth 0 0

  abbrev there : Prospect
  there = prospect (at scan_at p.at) (drop p.at s)

  told : (u : Step) → Told s p.at p.elements (p.depth + 1) there (emitted s p) u → Taken s p u
  told u w =
      subst (λ (st : State). Told s p.at p.elements (p.depth + 1) (prospect st (drop p.at s)) (emitted s p) u) (sym (standing p h.deep)) w

  told_fault : (f : Refusal) → there.answered ≡ refusal (refusal_no f) → Taken s p (Err f)
  told_fault f w = told (Err f) w

  -- the marks up to q
  emits_open : emitted s p (placed (p.at + 1) (p.depth + 1) (p.elements + 1) true) ≡ marks.opened ∷ []
  emits_open = simp (lt-ltb p.depth (p.depth + 1) (omega arith))

  emits_atom : (q : Place) (n : ℕ) → q.depth ≤ p.depth → q.elements ≡ p.elements + 1 → p.depth - q.depth ≡ n
      → emitted s p q ≡ value (numeral 0 (drop p.at s)) ∷ shuts n
  emits_atom q n d e z = simp (le-ltb p.depth q.depth d, lt-ltb p.elements q.elements (omega arith), z)

  emits_shuts : (q : Place) (n : ℕ) → q.depth ≤ p.depth → q.elements ≡ p.elements → p.depth - q.depth ≡ n → emitted s p q ≡ shuts n
  emits_shuts q n d e z = simp (le-ltb p.depth q.depth d, le-ltb p.elements q.elements (omega arith), z)

  pub taken_open : get_or s p.at 0 ≡ 40 → Taken s p (open_of p.depth p.elements p.at)
  taken_open q =
      told (open_of p.depth p.elements p.at)
      (open_told s p.at scan_at p.at (omega arith) h.some h.deep h.levelled p.elements (emitted s p) emits_open
      (may_begin_lem p.first).0 h.counted q)

  pub taken_shut : p.first ≡ true → get_or s p.at 0 ≡ 41 → (u : Step) → Closed s (p.depth - 1) p.elements (p.at + 1) u → Taken s p u
  taken_shut f q u w =
      let none = no_pending p.first p.depth in
      let deep = h.deep in
      told u
      (shut_told s p.at scan_at p.at (omega arith) h.some h.deep h.levelled p.elements p.elements (emitted s p)
      (omega (arith, ap beginnings none))
      (λ x d e. let k = p.depth - 1 - x.depth in
      emits_shuts x (suc k) (omega arith) e (omega arith) ∙ ap (λ (ms : List Mark). ms ++ (shut ∷ shuts k)) (sym none))
      (ap (λ (x : Bool). may_shut (phase_of x)) f) q u w)

  stood : (prospect_at s p).answered ≡ there.answered
  stood = ap (λ (st : State). (prospect st (drop p.at s)).answered) (standing p h.deep)

  pub shut_answered : p.first ≡ true → get_or s p.at 0 ≡ 41
      → (prospect_at s p).answered ≡ (prospect (closed_at (p.depth - 1) (p.at + 1)) (drop (p.at + 1) s)).answered
  shut_answered f q =
      stood
      ∙ ap (λ (o : Prospect). o.answered)
      (shut_same s p.at scan_at p.at (omega arith) h.some h.deep h.levelled (ap (λ (x : Bool). may_shut (phase_of x)) f) q)

  pub taken-early : p.first ≡ false → get_or s p.at 0 ≡ 41 → Taken s p (Err NotAList)
  taken-early f q =
      told_fault NotAList
      (fault_told s p.at scan_at p.at (omega arith) h.some h.deep h.levelled 41 15 q
      (ap (λ (x : Bool). step_of (place (phase_of x) p.depth 0 0) 41) f))

  pub taken_none : is_digit_byte (get_or s p.at 0) ≡ false → (get_or s p.at 0 ≡ 40 → ⊥) → (get_or s p.at 0 ≡ 41 → ⊥) → Taken s p (Err NotAList)
  taken_none n c d =
      told_fault NotAList
      (fault_told s p.at scan_at p.at (omega arith) h.some h.deep h.levelled (get_or s p.at 0) 15 refl
      (no_element p.first p.depth (get_or s p.at 0) n c d (class (get_or s p.at 0))))

  -- an atom
  module _ {i : ℕ} (a : AtomTo s p i) where
    abbrev more : ℕ
    more = digit_run (drop (p.at + 1) s)

    abbrev b : ℕ
    b = get_or s p.at 0

    digits : too_long_atom (i - p.at) b ≡ too_long_atom (more + 1) b
    digits = let q : i - p.at ≡ more + 1 = omega (arith, a.run) in ap (λ (n : ℕ). too_long_atom n b) q

    pub taken_long : too_long_atom (i - p.at) b ≡ true → Taken s p (Err Atom)
    taken_long t =
        told_fault Atom (atom-off s scan_at p.at h.some (may_begin_lem p.first).1 a.digit more refl (long more b (sym digits ∙ t)))

    module _ (t : too_long_atom (i - p.at) b ≡ false) where
      on : Past p.depth there i (numeral 0 (drop p.at s)) (drop i s)
      on =
          let fits = short more b a.digit (sym digits ∙ t) in
          subst (λ (n : ℕ). Past p.depth there n (numeral 0 (drop p.at s)) (drop n s)) (sym a.run)
          (atom-on s scan_at p.at h.some (may_begin_lem p.first).1 a.digit more refl fits.0 fits.1)

      abbrev scan_in : Scan
      scan_in = place in_atom p.depth on.digits on.value

      told_in : (u : Step) → Told s p.at p.elements (p.depth + 1) (prospect (at scan_in i) (drop i s)) (emitted s p) u → Taken s p u
      told_in u w = told u (subst (λ (o : Prospect). Told s p.at p.elements (p.depth + 1) o (emitted s p) u) (sym on.same) w)

      pub taken_out : length s ≤ i → Taken s p (Err NotAList)
      taken_out out =
          told_fault NotAList (ap (λ (o : Prospect). o.answered) (on.same ∙ ap (prospect (at scan_in i)) (drop_of_length-le s out)))

      pub taken-comma : i < length s → get_or s i 0 ≡ 44 → Taken s p (Ok (placed (i + 1) p.depth (p.elements + 1) false))
      taken-comma some q =
          let x = placed (i + 1) p.depth (p.elements + 1) false in
          let is : value on.value ∷ [] ≡ emitted s p x =
          ap (λ (v : ℕ). value v ∷ []) on.is ∙ sym (emits_atom x 0 (omega arith) refl (omega arith)) in
          told_in (Ok x)
          (subst (λ (ms : List Mark). Onward s p.at p.elements (p.depth + 1) (prospect (at scan_in i) (drop i s)) ms x) is
          (comma-on s p.at scan_in i (omega arith) some h.deep h.levelled p.elements (p.elements + 1) (p.depth + 1) (omega arith) refl
          (omega arith) (omega (arith, h.counted)) q))

      pub taken-other : i < length s → (get_or s i 0 ≡ 44 → ⊥) → (get_or s i 0 ≡ 41 → ⊥) → Taken s p (Err NotAList)
      taken-other some x y =
          let ends : is_digit_byte (get_or s i 0) ≡ false = ap (λ (n : ℕ). is_digit_byte (get_or s n 0)) a.run ∙ run_ends s (p.at + 1) more refl (omega (arith, a.run)) in
          told_in (Err NotAList)
          (fault_told s p.at scan_in i (omega arith) some h.deep h.levelled (get_or s i 0) 15 refl
          (behind-digits p.depth on.digits on.value (get_or s i 0) ends x y (class (get_or s i 0))))

      pub atom-answered : i < length s → get_or s i 0 ≡ 41
          → (prospect_at s p).answered ≡ (prospect (closed_at (p.depth - 1) (i + 1)) (drop (i + 1) s)).answered
      atom-answered some q =
          stood
          ∙ ap (λ (o : Prospect). o.answered) (on.same ∙ shut_same s p.at scan_in i (omega arith) some h.deep h.levelled refl q)

      pub taken-closed : i < length s → get_or s i 0 ≡ 41 → (u : Step) → Closed s (p.depth - 1) (p.elements + 1) (i + 1) u → Taken s p u
      taken-closed some q u w =
          let deep = h.deep in
          told_in u
          (shut_told s p.at scan_in i (omega arith) some h.deep h.levelled p.elements (p.elements + 1) (emitted s p) (omega arith)
          (λ x d n. let k = p.depth - 1 - x.depth in
          emits_atom x (suc k) (omega arith) n (omega arith) ∙ ap (λ (v : ℕ). value v ∷ shut ∷ shuts k) (sym on.is))
          refl q u w)

-- one digit is not too many
pub one-digit : (i b : ℕ) → too_long_atom (i + 1 - i) b ≡ false
one-digit i b = let q : i + 1 - i ≡ 1 = omega arith in ap (λ (n : ℕ). too_long_atom n b) q
