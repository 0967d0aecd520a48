-- In a text that the check takes, no step is a fault, so what is not looked at is known.
use mathlib.Core.Path.{◌≡◌, refl, sym, ap, subst, ◌∙◌}
use mathlib.Core.Bool.{Bool, true, false, cond}
use mathlib.Core.List.{List}
use native.Mathlib.Omega.{arith}
use Prim.Native.Nat.{ℕ, ◌+◌, ◌-◌, ◌*◌, ◌≤◌, ◌<◌}
use native.Mathlib.Decide.{ℕ_discrete}
use borrow.Author.Tests.{leb-true, leb-false}
use lib.Dec.{leb}
use lib.ListN.{length, drop, get_or}
use Rattle.scan.proofs.Atoms as atoms
use Rattle.scan.proofs.Atoms.{numeral_fits}
use Rattle.scan.proofs.RunLaws.{run-next}
use Rattle.scan.proofs.Shutting.{Shutting, closed_out, closed-other}
use Rattle.scan.proofs.Tokens.{AtomTo, taken_open, taken-early, taken_none, taken_long, taken_out, taken-other}
use Rattle.scan.specs.Places as places
use Rattle.scan.specs.Places.{placed, too_long_atom, closed_at, Inside}
use Rattle.scan.specs.Runs.{digit_run, numeral}
use Rattle.scan.specs.declared.step.Place.{Place}
use Rattle.answers.specs.declared.refusal.Refusal.{Refusal}
use Rattle.answers.specs.declared.refusal.Refusal.TheVariants.{NotAList, Atom, Deep}
use Rattle.answers.specs.Refusals.{refusal_no}
use Rattle.std.specs.Prelude.{Ok, Err}
use Rattle.text.specs.Limits.{levels, atoms_end}
use Rattle.text.specs.ListText.{is_digit_byte}
use Rattle.text.specs.Laws.TextLaws.{decide}
use Rattle.reading.specs.Accepting.{Taken, Amid, Said, Goes}
use Rattle.reading.specs.Numbers.{end_at, Numbered}
use Rattle.reading.proofs.Numerals.{digit-on, digit-off}
use Rattle.reading.specs.Laws.AcceptingLaws.{refuted, inside}

-- behind a ")", with a list open
module _ {s : List ℕ} (t : Taken s) {depth e at d i : ℕ} (said : Said s (closed_at depth at) at) (k : Shutting s depth e at d i) (deep : 1 ≤ d) where
  pub goes_on_lem : i < length s
  goes_on_lem =
      decide (leb (length s) i) (i < length s) (λ q. refuted s t 15 (sym said ∙ closed_out k deep (leb-true (length s) i q)))
      (λ q. leb-false (length s) i q)

  pub shuts-there : (get_or s i 0 ≡ 44 → ⊥) → get_or s i 0 ≡ 41
  shuts-there c = go (ℕ_discrete (get_or s i 0) 41)
    where
      go : Dec (get_or s i 0 ≡ 41) → get_or s i 0 ≡ 41
      go (yes q) = q
      go (no q) = refuted s t 15 (sym said ∙ closed-other k deep goes_on_lem c q)

-- an atom from p to i, and what follows it
pub record Whole (s : List ℕ) (p : Place) (i : ℕ) : Type 0 where
  pub atom : AtomTo s p i
  pub short : too_long_atom (i - p.at) (get_or s p.at 0) ≡ false
  pub more : i < length s
  pub ends : (get_or s i 0 ≡ 44 → ⊥) → get_or s i 0 ≡ 41

-- from a place where an element is to begin
module _ {s : List ℕ} {p : Place} (a : Amid s p) where
  pub here : Inside s p
  here = inside s a.taken p a.place a.deep

  no_fault : {A : Type 0} (f : Refusal) → places.Taken s p (Err f) → A
  no_fault f w = refuted s a.taken (refusal_no f) (sym a.place.answered ∙ w)

  abbrev inner : Place
  inner = placed (p.at + 1) (p.depth + 1) (p.elements + 1) true

  pub opens : get_or s p.at 0 ≡ 40 → Goes s p inner
  opens q = go (leb levels p.depth) (taken_open here q)
    where
      go : (b : Bool) → places.Taken s p (cond b (Err Deep) (Ok inner)) → Goes s p inner
      go true w = no_fault Deep w
      go false w = w

  pub empty : get_or s p.at 0 ≡ 41 → p.first ≡ true
  empty q = go p.first refl
    where
      go : (b : Bool) → p.first ≡ b → p.first ≡ true
      go true e = e
      go false e = no_fault NotAList (taken-early here e q)

  -- at a digit
  module _ (e : is_digit_byte (get_or s p.at 0) ≡ true) (i : ℕ) (end : i ≡ end_at s p.at) where
    atom : AtomTo s p i
    atom = record { digit = e; run = omega (arith, run-next s p.at here.some e) }

    short : too_long_atom (i - p.at) (get_or s p.at 0) ≡ false
    short = go (too_long_atom (i - p.at) (get_or s p.at 0)) refl
      where
        go : (b : Bool) → too_long_atom (i - p.at) (get_or s p.at 0) ≡ b → too_long_atom (i - p.at) (get_or s p.at 0) ≡ false
        go true q = no_fault Atom (taken_long here atom q)
        go false q = q

    more : i < length s
    more = decide (leb (length s) i) (i < length s) (λ q. no_fault NotAList (taken_out here atom short (leb-true (length s) i q))) (λ q. leb-false (length s) i q)

    ends : (get_or s i 0 ≡ 44 → ⊥) → get_or s i 0 ≡ 41
    ends c = go (ℕ_discrete (get_or s i 0) 41)
      where
        go : Dec (get_or s i 0 ≡ 41) → get_or s i 0 ≡ 41
        go (yes q) = q
        go (no q) = no_fault NotAList (taken-other here atom short more c q)

    fits : numeral 0 (drop p.at s) < atoms_end
    fits =
        let b = get_or s p.at 0 in
        let c = digit_run (drop (p.at + 1) s) in
        let n : i - p.at ≡ c + 1 = omega (arith, atom.run) in
        let word = (atoms.short c b e (sym (ap (λ (m : ℕ). too_long_atom m b) n) ∙ short)).1 in
        let z : c ≡ 0 + c = omega arith in
        rw (digit-on s p.at 0 here.some e).value
        (numeral_fits (drop (p.at + 1) s) 0 (0 * 8 + (b - 48)) (b - 48) (omega arith) (subst (λ (m : ℕ). atoms.scale m (b - 48 + 1) ≤ atoms_end) z word))

  pub whole : {i : ℕ} → (get_or s p.at 0 ≡ 40 → ⊥) → (get_or s p.at 0 ≡ 41 → ⊥) → i ≡ end_at s p.at → Whole s p i
  whole {i} x y end = go (is_digit_byte (get_or s p.at 0)) refl
    where
      go : (b : Bool) → is_digit_byte (get_or s p.at 0) ≡ b → Whole s p i
      go true e = record { atom = atom e i end; short = short e i end; more = more e i end; ends = ends e i end }
      go false e = no_fault NotAList (taken_none here e x y)

  pub numbered : Numbered s p.at
  numbered = go (is_digit_byte (get_or s p.at 0)) refl
    where
      go : (b : Bool) → is_digit_byte (get_or s p.at 0) ≡ b → Numbered s p.at
      go true e = record { ends = more e (end_at s p.at) refl; fits = fits e (end_at s p.at) refl }
      go false e = record { ends = omega (arith, here.some, digit-off s p.at 0 here.some e); fits = omega (arith, digit-off s p.at 0 here.some e) }
