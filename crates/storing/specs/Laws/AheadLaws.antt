-- The number at a place where elements lie ahead, and what lies ahead behind it.
use Rattle.std.specs.Prelude.{◌≡◌, refl, Some, IsSome, ℕ, ◌+◌, ◌%◌, ◌<◌, ◌≤◌, length, drop}
use Rattle.std.proofs.Common.{sym, ◌∙◌, arith, length-append, length-drop, take-append-drop}
use Rattle.std.proofs.Math.Path.{ap}
use mathlib.Core.List.{List, ◌++◌, append_assoc}
use Rattle.groups.specs.Groups.{numbers_end, number, atom_number, list_number, elements, Fit}
use Rattle.groups.specs.Holding.{Holding}
use Rattle.groups.specs.Laws.Sizes.{number_size}
use Rattle.lists.specs.Lst.{Lst, nil, atom, list, len}
use Rattle.numbers.specs.Numbers.{number_in}
use Rattle.numbers.specs.Laws.GroupLaws.{read_there, some_there, behind-number}
use Rattle.numbers.specs.declared.Number.{Number}
use Rattle.storing.specs.Ahead.{Ahead, AtomAhead, ListAhead}

-- n is the number v at a place, with `rest` behind it
record Numbered (s : List ℕ) (at v : ℕ) (rest : List ℕ) (n : Number) : Type 0 where
  value : n.value ≡ v
  on : at < n.end
  within : at < length s
  behind : drop n.end s ≡ rest

numbered : {s : List ℕ} {at : ℕ} {n : Number} → Some n ≡ number_in s at → (v : ℕ) (rest : List ℕ) → v < numbers_end
    → drop at s ≡ number v ++ rest → Numbered s at v rest n
numbered {s} {at} {n} e v rest small bytes =
    let is = read_there s rest at v bytes e small in
    let some = (number_size v).0 in
    let end : n.end ≡ at + length (number v) = ap (λ (m : Number). m.end) is in
    record {
      value = ap (λ (m : Number). m.value) is;
      on = omega arith;
      within = omega (arith, length-drop at s, ap length bytes, length-append (number v) rest);
      behind = ap (λ (i : ℕ). drop i s) end ∙ behind-number s rest at v bytes;
    }

module _ {s : List ℕ} {at : ℕ} {n : Number} (e : Some n ≡ number_in s at) {later : List ℕ} where
  atom-numbered : {v : ℕ} {l : Lst} → Ahead s at (atom v l) later → Numbered s at (atom_number v) (elements l ++ later) n
  unfolding elements Fit
  atom-numbered {v} {l} a =
      numbered e (atom_number v) (elements l ++ later) a.fit.0
      (a.bytes ∙ append_assoc (number (atom_number v)) (elements l) later)

  list_numbered : {m l : Lst} → Ahead s at (list m l) later
      → Numbered s at (list_number m) (elements m ++ (elements l ++ later)) n
  unfolding elements Fit
  list_numbered {m} {l} a =
      numbered e (list_number m) (elements m ++ (elements l ++ later)) a.fit.0
      (a.bytes ∙ append_assoc (number (list_number m)) (elements m ++ elements l) later
      ∙ ap (λ (bs : List ℕ). number (list_number m) ++ bs) (append_assoc (elements m) (elements l) later))

  -- the parity of the number says what the first element is
  pub atom_ahead : (l : Lst) → Ahead s at l later → 1 ≤ len l → n.value % 2 ≡ 0 → AtomAhead s at l later n
  unfolding len Fit
  atom_ahead nil a some even = absurd (omega arith)
  atom_ahead (atom v l) a some even =
      let b = atom-numbered a in
      record {
        atom-value = v;
        rest = l;
        is = refl;
        number = b.value;
        small = omega (arith, a.fit.0);
        on = b.on;
        ahead = record { fit = a.fit.1; bytes = b.behind };
      }
  atom_ahead (list m l) a some even = absurd (omega (arith, (list_numbered a).value))

  pub list_ahead : (l : Lst) → Ahead s at l later → 1 ≤ len l → (n.value % 2 ≡ 0 → ⊥) → ListAhead s at l later n
  unfolding len Fit
  list_ahead nil a some odd = absurd (omega arith)
  list_ahead (atom v l) a some odd =
      let b = (atom-numbered a).value in
      absurd (odd (omega arith))
  list_ahead (list m l) a some odd =
      let b = list_numbered a in
      record {
        inside = m;
        rest = l;
        is = refl;
        number = b.value;
        on = b.on;
        within = b.within;
        ahead = record { fit = a.fit.1; bytes = b.behind };
        behind = λ i x. record { fit = a.fit.2; bytes = x };
      }

-- where an element lies ahead, there is a number
pub some_ahead : {s : List ℕ} {at : ℕ} {later : List ℕ} (l : Lst) → Ahead s at l later → 1 ≤ len l → IsSome (number_in s at)
unfolding len elements Fit
some_ahead nil a some = absurd (omega arith)
some_ahead {s} {at} {later} (atom v l) a some =
    some_there s _ at (atom_number v) (a.bytes ∙ append_assoc (number (atom_number v)) (elements l) later) a.fit.0
some_ahead {s} {at} {later} (list m l) a some =
    some_there s _ at (list_number m) (a.bytes ∙ append_assoc (number (list_number m)) (elements m ++ elements l) later) a.fit.0

-- the number of the whole list, and its elements
module _ {s : List ℕ} {m : ℕ} {l : Lst} (a : Holding s m l) {n : Number} (e : Some n ≡ number_in s 0) where
  whole : Numbered s 0 (list_number l) (elements l ++ drop m s) n
  whole =
      numbered e (list_number l) (elements l ++ drop m s) a.fits.0
      (sym (take-append-drop m s) ∙ ap (λ (bs : List ℕ). bs ++ drop m s) a.bytes
      ∙ append_assoc (number (list_number l)) (elements l) (drop m s))

  pub whole-number : n.value ≡ list_number l
  whole-number = whole.value

  pub whole_ahead : Ahead s n.end l (drop m s)
  whole_ahead = record { fit = a.fits.1; bytes = whole.behind }

pub some_whole : {s : List ℕ} {m : ℕ} {l : Lst} → Holding s m l → IsSome (number_in s 0)
some_whole {s} {m} {l} a =
    some_there s _ 0 (list_number l) (sym (take-append-drop m s) ∙ ap (λ (bs : List ℕ). bs ++ drop m s) a.bytes
    ∙ append_assoc (number (list_number l)) (elements l) (drop m s)) a.fits.0
