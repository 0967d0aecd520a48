-- A run of atoms of one digit: it begins with none, and each goes on with its digit and ",".
use Rattle.std.specs.Prelude.{ℕ, zero, suc, ◌+◌, ◌-◌, ◌/◌, ◌%◌, ◌≤◌, ◌<◌, ◌≡◌, refl, ◌≢◌, List, [], ◌∷◌, ◌++◌, length, get_or, drop, set}
use Rattle.std.proofs.Common.{ap, subst, ◌∙◌, append_assoc, arith, length-append, length-drop, length-set}
use Rattle.lists.specs.Lst.{Lst, nil, atom, list, len}
use Rattle.groups.specs.Groups.{number, elements, atom_number, list_number}
use Rattle.groups.specs.Laws.Sizes.{number_size}
use Rattle.numbers.specs.Laws.RaisedLaws.{one-here}
use Rattle.octal.specs.Numeral.{numeral}
use Rattle.writing.specs.Put.{Put}
use Rattle.writing.specs.Steps.{comma}
use Rattle.octal.specs.Laws.NumeralLaws.{one-digit}
use Rattle.writing.specs.Laws.PutLaws.{put_one, put_then}
use Rattle.totext.specs.declared.put.Walk.{Walk}
use Rattle.totext.specs.Putting.{Ran}
use Rattle.totext.specs.Standing.{todo, Levels, Standing}
use Rattle.totext.specs.Turns.{walk, Turned}
use Rattle.totext.specs.Laws.PuttingLaws.{put_on}
use Rattle.totext.specs.Laws.TurnLaws.{atom-turned}

-- an element that is to come has a byte
there_goes : (s kept : List ℕ) (w : Walk) (opened : List Lst) (later : List ℕ) → Levels kept w opened → 1 ≤ w.depth → w.left ≢ 0
    → drop w.from s ≡ todo opened ++ later → w.from < length s
unfolding len elements
there_goes s kept w [] later l some z e = absurd (omega (arith, l.deep))
there_goes s kept w (nil ∷ ls) later l some z e = absurd (z l.counted.0)
there_goes s kept w (atom v k ∷ ls) later l some z e =
    let split : drop w.from s ≡ number (atom_number v) ++ ((elements k ++ todo ls) ++ later) = e ∙ simp append_assoc in
    omega (arith, ap length split, length-drop w.from s, length-append (number (atom_number v)) ((elements k ++ todo ls) ++ later), (number_size (atom_number v)).0)
there_goes s kept w (list m k ∷ ls) later l some z e =
    let split : drop w.from s ≡ number (list_number m) ++ (((elements m ++ elements k) ++ todo ls) ++ later) = e ∙ simp append_assoc in
    omega (arith, ap length split, length-drop w.from s, length-append (number (list_number m)) (((elements m ++ elements k) ++ todo ls) ++ later), (number_size (list_number m)).0)

a_comma : (n : ℕ) → 1 < n → comma (n - 1) ≡ 44 ∷ []
a_comma n l = behind (n - 1) (omega arith)
  where
    behind : (k : ℕ) → 0 < k → comma k ≡ 44 ∷ []
    behind zero h = absurd (omega arith)
    behind (suc k) h = refl

module _ {s t kept : List ℕ} {w : Walk} (g : Standing s t kept w) (some : 1 ≤ w.depth) (further : 1 < w.left) where
  pub byte_there : w.from < length s
  byte_there = there_goes s kept w g.opened g.later g.stands some (λ z. omega arith) g.groups

  -- an atom of one group and one digit, which is not the last element
  module _ (few : get_or s w.from 0 < 16) (even : get_or s w.from 0 % 2 ≡ 0) where
    abbrev digit : ℕ
    digit = get_or s w.from 0 / 2

    pub digit-turned : Turned s t kept w (walk (w.from + 1) (w.to + 2) w.depth (w.left - 1)) ((48 + digit) ∷ (44 ∷ []))
    digit-turned =
        let one = one-digit digit (omega arith) in
        let part = a_comma w.left further in
        let bs : numeral digit ++ comma (w.left - 1) ≡ (48 + digit) ∷ (44 ∷ []) = ap (λ (b : List ℕ). b ++ comma (w.left - 1)) one ∙ ap (λ (b : List ℕ). (48 + digit) ∷ b) part in
        let to : w.to + length (numeral digit) + length (comma (w.left - 1)) ≡ w.to + 2 = omega (arith, ap length one, ap length part) in
        subst (λ (b : List ℕ). Turned s t kept w (walk (w.from + 1) (w.to + 2) w.depth (w.left - 1)) b) bs
        (subst (λ (k : ℕ). Turned s t kept w (walk (w.from + 1) k w.depth (w.left - 1)) (numeral digit ++ comma (w.left - 1))) to
        (atom-turned g some (λ z. omega arith) (one-here s w.from byte_there (omega arith)) even))

pub put_two : (xs : List ℕ) (at end a b : ℕ) → at + 2 ≤ end → end ≤ length xs → Put xs (set (set xs at a) (at + 1) b) at end (a ∷ (b ∷ []))
put_two xs at end a b l h =
    put_then xs (set xs at a) (set (set xs at a) (at + 1) b) (a ∷ []) (b ∷ []) at (at + 1) end
    (put_one xs at end a (omega arith) h) refl (put_one (set xs at a) (at + 1) end b (omega arith) (omega (arith, length-set xs at a)))

module _ {s t : List ℕ} {end : ℕ} {kept xs : List ℕ} {w : Walk} where
  pub ran-none : Standing s t kept w → Ran s t end kept xs xs w w
  ran-none g = record { stands = g; level = refl; last = λ h. h; on = omega arith; room = refl; puts = λ old p. p }

  pub ran_on : {ys zs : List ℕ} {r q : Walk} {bs : List ℕ} → Ran s t end kept xs ys w r → Turned s t kept r q bs → q.depth ≡ r.depth
      → 1 ≤ q.left → Put ys zs r.to end bs → Ran s t end kept xs zs w q
  ran_on n d l f p = record {
    stands = d.stands;
    level = l ∙ n.level;
    last = λ h. f;
    on = omega (arith, n.on, d.size);
    room = p.room ∙ n.room;
    puts = λ old h. put_on (n.puts old h) d p;
  }
