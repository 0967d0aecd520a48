-- How often the holders name a cell, when one or two of them change.
use Rattle.std.specs.Prelude.{◌≡◌, ◌≢◌, ◌⊎◌, List, ℕ, ◌+◌, ◌<◌, length, get_or, set}
use Rattle.std.proofs.Common.{sym, ap, ◌∙◌, subst, inl, inr, arith, length-set, get_or-set_same, get_or-set_other}
use Rattle.std.proofs.Math.Decide.{ℕ_discrete}
use Rattle.pool.specs.Tally.{same, occ}
use Rattle.pool.specs.Laws.TallyLaws.{same_eq, same_ne, tally-set, tally_ge}

-- the roots but for holder a
abbrev pub but : List ℕ → ℕ → ℕ → ℕ
but hs a d = occ (set hs a 0) d

pub occ-take : (hs : List ℕ) (a d : ℕ) → a < length hs → d ≢ 0 → occ hs d ≡ but hs a d + same (get_or hs a 0) d
occ-take hs a d l n = omega (arith, tally-set (λ h. same h d) hs a 0 0 l, same_ne 0 d (λ q. n (sym q)))

pub occ_give : (hs : List ℕ) (a v d : ℕ) → a < length hs → d ≢ 0 → occ (set hs a v) d ≡ but hs a d + same v d
occ_give hs a v d l n = omega (arith, tally-set (λ h. same h d) hs a v 0 l, occ-take hs a d l n)

pub root_of : (hs : List ℕ) (i : ℕ) → (get_or hs i 0 ≡ 0) ⊎ (0 < occ hs (get_or hs i 0))
root_of hs i = go (ℕ_discrete (get_or hs i 0) 0)
  where
    go : Dec (get_or hs i 0 ≡ 0) → (get_or hs i 0 ≡ 0) ⊎ (0 < occ hs (get_or hs i 0))
    go (yes e) = inl e
    go (no n) = inr (omega (arith, tally_ge (λ h. same h (get_or hs i 0)) hs i 0 (same_ne 0 (get_or hs i 0) (λ q. n (sym q))), same_eq (get_or hs i 0)))

pub other_root : (hs : List ℕ) (a i : ℕ) → i ≢ a → (get_or hs i 0 ≡ 0) ⊎ (0 < but hs a (get_or hs i 0))
other_root hs a i n = subst (λ u. (u ≡ 0) ⊎ (0 < but hs a u)) (get_or-set_other hs a i 0 0 n) (root_of (set hs a 0) i)

module _ (hs : List ℕ) (a b x y : ℕ) (la : a < length hs) (lb : b < length hs) (ab : a ≢ b) where
  abbrev pub both : List ℕ
  both = set (set hs a x) b y

  pub occ-both : (d : ℕ) → occ both d + same (get_or hs a 0) d + same (get_or hs b 0) d ≡ occ hs d + same x d + same y d
  occ-both d =
      let lb' : b < length (set hs a x) = rw length-set lb in
      omega (arith, tally-set (λ h. same h d) hs a x 0 la, tally-set (λ h. same h d) (set hs a x) b y 0 lb', ap (λ u. same u d) (get_or-set_other hs a b x 0 (λ e. ab (sym e))))

  pub both_a : get_or both a 0 ≡ x
  both_a = get_or-set_other (set hs a x) b a y 0 ab ∙ get_or-set_same hs a x 0 la

  pub both-b : get_or both b 0 ≡ y
  both-b = get_or-set_same (set hs a x) b y 0 (rw length-set lb)

  pub both-other : (i : ℕ) → i ≢ a → i ≢ b → get_or both i 0 ≡ get_or hs i 0
  both-other i na nb = get_or-set_other (set hs a x) b i y 0 nb ∙ get_or-set_other hs a i x 0 na
