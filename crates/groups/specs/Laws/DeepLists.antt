-- Level 201 opened, number by number: what the bytes ahead say of the lists that are open, up to and with the number
-- that opens it, and how one more number before them moves that. Lists that are open there are ended with atoms 0.
use Prim.Native.Nat.{ℕ, zero, suc, ◌+◌, ◌/◌, ◌%◌, ◌<◌}
use Rattle.std.specs.Prelude.{◌≡◌, ◌⊎◌}
use Rattle.std.proofs.Math.Path.{refl, sym, ap, subst}
use Rattle.std.proofs.Common.{◌∙◌, inr}
use Rattle.std.proofs.Math.Logic.{inl}
use mathlib.Core.List.{List, [], ◌∷◌, ◌++◌, map}
use native.Mathlib.Omega.{arith}
use Rattle.std.proofs.Math.ListN.{length, take}
use Rattle.std.proofs.Math.Seq.{take-append-add, take_at}
use Rattle.lists.specs.Lst.{Lst, nil, atom, list, len}
use Rattle.text.specs.Limits.{levels}
use Rattle.groups.specs.Depth.{Opens}
use Rattle.groups.specs.Groups.{numbers_end, number, atom_number, list_number, elements, Fit}
use Rattle.groups.specs.Laws.ElementLaws.{atom-length, list_length}
use Rattle.groups.specs.Laws.OpenLists.{tails, Counted, tails-atom, tails_list}

abbrev pub AllFit : List Lst → Type 0
AllFit [] = Unit {0}
AllFit (l ∷ r) = Fit l × AllFit r

-- among the elements to come of the lists that are open, the innermost first, v opens level 201 behind k bytes
abbrev pub Among : List Lst → ℕ → ℕ → Type 0
Among [] k v = ⊥
Among (l ∷ r) k v =
    Opens (suc (length r)) l (suc levels) k v ⊎ ((j : ℕ) × (k ≡ length (elements l) + j) × Among r j v)

-- from st elements to come, the bytes s begin like elements that open level 201, up to and with its number
pub record Opened (st s : List ℕ) : Type 0 where
  pub lists : List Lst
  pub place : ℕ
  pub value : ℕ
  pub counted : Counted st lists
  pub fits : AllFit lists
  pub among : Among lists place value
  pub same : take (place + length (number value)) s ≡ take (place + length (number value)) (tails lists)

-- a list with no element to come
pub ended : (st s : List ℕ) → Opened st s → Opened (zero ∷ st) s
unfolding len elements Fit
ended st s o =
    record {
      lists = nil ∷ o.lists;
      place = o.place;
      value = o.value;
      counted = (refl, o.counted);
      fits = (tt, o.fits);
      among = inr (o.place, omega arith, o.among);
      same = o.same;
    }

-- the same number before what is the same
pub same_more : (a s t u : List ℕ) (k n : ℕ) → u ≡ a ++ t → take (k + n) s ≡ take (k + n) t
    → take (length a + k + n) (a ++ s) ≡ take (length a + k + n) u
same_more a s t u k n w e =
    let q : length a + k + n ≡ length a + (k + n) = omega arith in
    ap (λ (i : ℕ). take i (a ++ s)) q ∙ take-append-add a s (k + n) ∙ ap (λ (x : List ℕ). a ++ x) e
    ∙ sym (take-append-add a t (k + n)) ∙ ap (λ (i : ℕ). take i (a ++ t)) (sym q)
    ∙ ap (take (length a + k + n)) (sym w)

-- an element before the others
atom-among : (w : ℕ) (l : Lst) (r : List Lst) (k v : ℕ) → Among (l ∷ r) k v
    → Among (atom w l ∷ r) (length (number (atom_number w)) + k) v
unfolding Opens
atom-among w l r k v (inl o) = inl (k, refl, o)
atom-among w l r k v (inr o) = inr (o.0, omega (arith, o.1, atom-length w l), o.2)

list_among : (m l : Lst) (r : List Lst) (k v : ℕ) → Among (m ∷ l ∷ r) k v
    → Among (list m l ∷ r) (length (number (list_number m)) + k) v
unfolding Opens
list_among m l r k v (inl o) =
    let q : suc (suc (length r)) ≡ suc (length r) + 1 = omega arith in
    inl (inr (inl (k, refl, subst (λ (d : ℕ). Opens d m (suc levels) k v) q o)))
list_among m l r k v (inr (j, e, inl o)) = inl (inr (inr (j, omega (arith, e), o)))
list_among m l r k v (inr (j, e, inr o)) = inr (o.0, omega (arith, e, o.1, list_length m l), o.2)

-- lists of atoms 0, to end those that are open
abbrev zeros : ℕ → Lst
zeros zero = nil
zeros (suc k) = atom 0 (zeros k)

zeros-len : (k : ℕ) → len (zeros k) ≡ k
unfolding len
zeros-len zero = refl
zeros-len (suc k) = ap suc (zeros-len k)

zeros_fit : (k : ℕ) → Fit (zeros k)
unfolding Fit
zeros_fit zero = tt
zeros_fit (suc k) = (omega arith, zeros_fit k)

zeros-counted : (st : List ℕ) → Counted st (map zeros st)
zeros-counted [] = tt
zeros-counted (k ∷ st) = (zeros-len k, zeros-counted st)

zeros-all : (st : List ℕ) → AllFit (map zeros st)
zeros-all [] = tt
zeros-all (k ∷ st) = (zeros_fit k, zeros-all st)

zeros_depth : (st : List ℕ) → length (map zeros st) ≡ length st
zeros_depth [] = refl
zeros_depth (k ∷ st) = ap suc (zeros_depth st)

module _ (v k : ℕ) (st s : List ℕ) (small : v < numbers_end) where
  pub atom-opened : v % 2 ≡ 0 → Opened (k ∷ st) s → Opened (suc k ∷ st) (number v ++ s)
  unfolding len Fit
  atom-opened even o = go o.lists o.counted o.fits o.among o.same
    where
      twice : atom_number (v / 2) ≡ v
      twice = omega arith

      go : (ls : List Lst) → Counted (k ∷ st) ls → AllFit ls → Among ls o.place o.value
          → take (o.place + length (number o.value)) s ≡ take (o.place + length (number o.value)) (tails ls)
          → Opened (suc k ∷ st) (number v ++ s)
      go [] c f a e = absurd c
      go (l ∷ r) c f a e =
          let whole : tails (atom (v / 2) l ∷ r) ≡ number v ++ tails (l ∷ r)
          = tails-atom (v / 2) l r ∙ ap (λ (x : ℕ). number x ++ tails (l ∷ r)) twice in
          record {
            lists = atom (v / 2) l ∷ r;
            place = length (number v) + o.place;
            value = o.value;
            counted = (ap suc c.0, c.1);
            fits = ((omega arith, f.0), f.1);
            among =
                subst (λ (x : ℕ). Among (atom (v / 2) l ∷ r) (length (number x) + o.place) o.value) twice
                (atom-among (v / 2) l r o.place o.value a);
            same =
                same_more (number v) s (tails (l ∷ r)) (tails (atom (v / 2) l ∷ r)) o.place
                (length (number o.value)) whole e;
          }

  module _ (odd : v % 2 ≡ 1) where
    pub list_opened : Opened (v / 2 ∷ k ∷ st) s → Opened (suc k ∷ st) (number v ++ s)
    unfolding len Fit
    list_opened o = go o.lists o.counted o.fits o.among o.same
      where
        go : (ls : List Lst) → Counted (v / 2 ∷ k ∷ st) ls → AllFit ls → Among ls o.place o.value
            → take (o.place + length (number o.value)) s ≡ take (o.place + length (number o.value)) (tails ls)
            → Opened (suc k ∷ st) (number v ++ s)
        go [] c f a e = absurd c
        go (m ∷ []) c f a e = absurd c.1
        go (m ∷ l ∷ r) c f a e =
            let twice : list_number m ≡ v = omega (arith, c.0) in
            let whole : tails (list m l ∷ r) ≡ number v ++ tails (m ∷ l ∷ r)
            = tails_list m l r ∙ ap (λ (x : ℕ). number x ++ tails (m ∷ l ∷ r)) twice in
            record {
              lists = list m l ∷ r;
              place = length (number v) + o.place;
              value = o.value;
              counted = (ap suc c.1.0, c.1.1);
              fits = ((omega arith, f.0, f.1.0), f.1.1);
              among =
                  subst (λ (x : ℕ). Among (list m l ∷ r) (length (number x) + o.place) o.value) twice
                  (list_among m l r o.place o.value a);
              same =
                  same_more (number v) s (tails (m ∷ l ∷ r)) (tails (list m l ∷ r)) o.place
                  (length (number o.value)) whole e;
            }

    -- the number that opens level 201
    pub here-opened : suc (length st) ≡ levels → Opened (suc k ∷ st) (number v ++ s)
    unfolding len Fit Opens
    here-opened d =
        let m = zeros (v / 2) in
        let l = zeros k in
        let r = map zeros st in
        let twice : list_number m ≡ v = omega (arith, zeros-len (v / 2)) in
        let whole : tails (list m l ∷ r) ≡ number v ++ tails (m ∷ l ∷ r)
        = tails_list m l r ∙ ap (λ (x : ℕ). number x ++ tails (m ∷ l ∷ r)) twice in
        let first : (t : List ℕ) → take (0 + length (number v)) (number v ++ t) ≡ number v
        = λ t. take_at (number v) t (0 + length (number v)) (omega arith) in
        record {
          lists = list m l ∷ r;
          place = 0;
          value = v;
          counted = (ap suc (zeros-len k), zeros-counted st);
          fits = ((omega arith, zeros_fit (v / 2), zeros_fit k), zeros-all st);
          among = inl (inl (omega (arith, zeros_depth st), refl, sym twice));
          same = first s ∙ sym (first (tails (m ∷ l ∷ r))) ∙ ap (take (0 + length (number v))) (sym whole);
        }
