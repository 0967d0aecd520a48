-- The groups of a number with the last first, and their bytes stored one by one.
use Rattle.std.specs.Prelude.{ℕ, ◌+◌, ◌/◌, ◌%◌, ◌≤◌, ◌<◌, ◌≡◌, List, [], ◌∷◌, ◌++◌, reverse, length}
use Rattle.std.proofs.Common.{sym, ap, ◌∙◌, arith}
use Rattle.std.proofs.lemmas.List.{reverse-append, length-reverse}
use Rattle.groups.specs.Groups.{numbers_end, number}
use Rattle.groups.specs.Laws.NumberLaws.{number-one, number_more}
use Rattle.togroups.specs.Laid.{laid}

pub back_one : (v : ℕ) → v < 128 → reverse (number v) ≡ v ∷ []
back_one v h = ap reverse (number-one v h)

pub back_more : (v : ℕ) (bs : List ℕ) → 128 ≤ v → v < numbers_end → reverse (number (v / 128)) ≡ bs → reverse (number v) ≡ bs ++ ((128 + v % 128) ∷ [])
back_more v bs h l e =
    ap reverse (number_more v h l) ∙ reverse-append ((128 + v % 128) ∷ []) (number (v / 128)) ∙ ap (λ (t : List ℕ). t ++ ((128 + v % 128) ∷ [])) e

-- all at once at a place with room for them
module _ (old : List ℕ) (at v : ℕ) (bs : List ℕ) (e : reverse (number v) ≡ bs) (h : at + length (number v) ≤ length old) where
  back_size : length bs ≡ length (number v)
  back_size = sym (ap length e) ∙ length-reverse (number v)

  pub back_room : at + length bs ≤ length old
  back_room = omega (arith, back_size)

  pub back_end : at + length bs ≡ at + length (number v)
  back_end = ap (λ (n : ℕ). at + n) back_size

  pub back_laid : laid old at bs ≡ laid old at (reverse (number v))
  back_laid = ap (laid old at) (sym e)
