-- The numbers in a run of bytes, counted by their last groups: byte by byte, and in the groups of a list.
use Rattle.std.specs.Prelude.{ℕ, ◌+◌, ◌<◌, ◌≤◌, ◌≡◌, List, [], ◌∷◌, length, take, get_or, suc, Bool, true, false, cond, ltb}
use Rattle.std.proofs.Common.{ap, ◌∙◌, add-one, arith, take-suc}
use Rattle.lists.specs.Lst.{extent}
use Rattle.text.specs.Text.{done}
use Rattle.groups.specs.LastGroups.{last_groups}
use Rattle.groups.specs.Reading.{scanned, list_in}
use Rattle.groups.specs.Laws.Sizes.{last-append, last-groups}
use Rattle.groups.specs.Laws.Taking.{scanned_holds}

-- a byte brings one at most
pub few_last : (s : List ℕ) → last_groups s ≤ length s
unfolding last_groups
few_last [] = omega arith
few_last (b ∷ bs) = by (ltb b 128) (few_last bs)
  where
    by : (x : Bool) → last_groups bs ≤ length bs → cond x (suc (last_groups bs)) (last_groups bs) ≤ suc (length bs)
    by true l = omega (arith, l)
    by false l = omega (arith, l)

pub last_next : (s : List ℕ) (i : ℕ) → i < length s → last_groups (take (i + 1) s) ≡ last_groups (take i s) + cond (ltb (get_or s i 0) 128) 1 0
unfolding last_groups
last_next s i l =
    ap (λ (n : ℕ). last_groups (take n s)) (add-one i)
    ∙ ap last_groups (take-suc s i 0 l)
    ∙ last-append (take i s) (get_or s i 0 ∷ [])

-- one for the list's own number, and one for each element
pub ends_taken : (s : List ℕ) (m : ℕ) → scanned s ≡ done m → last_groups (take m s) ≡ extent (list_in s) + 1
ends_taken s m e =
    let h = (scanned_holds s m e).0 in
    ap last_groups h.bytes ∙ last-groups (list_in s) h.fits
