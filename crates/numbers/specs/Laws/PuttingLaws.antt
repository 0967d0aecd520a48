-- A paste appends, and one group after the other makes a paste.
use Rattle.std.specs.Prelude.{ℕ, suc, ◌+◌, ◌/◌, ◌%◌, ◌<◌, ◌≤◌, ◌≡◌, List, [], ◌∷◌, ◌++◌, length, take, drop, set}
use Rattle.std.proofs.Common.{sym, ap, ◌∙◌, append_assoc, add-one, le_refl, arith, length-set, take-suc-set, drop-set-lt}
use Rattle.std.proofs.Math.Seq.{paste-zero, take-length}
use Rattle.std.proofs.lemmas.List.Edits.{take-paste, drop-paste, length-paste}
use Rattle.groups.specs.Groups.{number}
use Rattle.groups.specs.Laws.NumberLaws.{number-one, number_more}
use Rattle.numbers.specs.Putting.{pasted, Appended, Left}

pub appended : (old : List ℕ) (at : ℕ) (bs : List ℕ) → at + length bs ≤ length old → Appended old (pasted old at bs) at bs
appended old at bs l =
    let low : at ≤ length old = omega arith in
    let all = le_refl (length bs) in
    record {
      front = take-paste old at bs (length bs) low all ∙ ap (λ (t : List ℕ). take at old ++ t) (take-length bs);
      behind = drop-paste old at bs (length bs) low all;
      room = length-paste old at bs (length bs) l all;
    }

-- a byte stored, and the others pasted behind it
paste-cons : (old : List ℕ) (at b : ℕ) (bs : List ℕ) → at < length old → pasted (set old at b) (at + 1) bs ≡ pasted old at (b ∷ bs)
paste-cons old at b bs l =
    let rest = take (length bs) bs in
    let far : suc at + length bs ≡ at + suc (length bs) = omega arith in
    let further : at < suc at + length bs = omega arith in
    ap (λ (i : ℕ). pasted (set old at b) i bs) (add-one at)
    ∙ ap (λ (t : List ℕ). (t ++ rest) ++ drop (suc at + length bs) (set old at b)) (take-suc-set old at b l)
    ∙ ap (λ (t : List ℕ). ((take at old ++ (b ∷ [])) ++ rest) ++ t) (drop-set-lt (suc at + length bs) old at b further)
    ∙ ap (λ (t : List ℕ). t ++ drop (suc at + length bs) old) (append_assoc (take at old) (b ∷ []) rest)
    ∙ ap (λ (i : ℕ). (take at old ++ b ∷ rest) ++ drop i old) far

-- and a last one
paste-last : (old : List ℕ) (at b : ℕ) → at < length old → set old at b ≡ pasted old at (b ∷ [])
paste-last old at b l = paste-zero (set old at b) (at + 1) [] ∙ paste-cons old at b [] l

-- ---- a number group by group
module _ {old new : List ℕ} {at v i left : ℕ} (l : Left old at v new i left) (fits : at + length (number v) ≤ length old) where
  module _ (h : 128 ≤ left) where
    groups : number left ≡ (128 + left % 128) ∷ number (left / 128)
    groups = number_more left h l.small

    pub more_room : i < length new
    more_room = omega (arith, ap length groups, l.ends, l.room)

    pub left-on : Left old at v (set new i (128 + left % 128)) (i + 1) (left / 128)
    left-on =
        record {
          whole =
              paste-cons new i (128 + left % 128) (number (left / 128)) more_room ∙ ap (pasted new i) (sym groups) ∙ l.whole;
          ends = omega (arith, ap length groups, l.ends);
          room = length-set new i (128 + left % 128) ∙ l.room;
          small = omega (arith, l.small);
        }

  module _ (h : left < 128) where
    pub last-room : i < length new
    last-room = omega (arith, ap length (number-one left h), l.ends, l.room)

    pub left_end : i + 1 ≡ at + length (number v)
    left_end = omega (arith, ap length (number-one left h), l.ends)

    pub left-done : set new i left ≡ pasted old at (number v)
    left-done = paste-last new i left last-room ∙ ap (pasted new i) (sym (number-one left h)) ∙ l.whole
